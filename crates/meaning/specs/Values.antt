-- The three values, their order, and joining.
-- Assumes nothing.
use Rattle.std.specs.Prelude.{Bool, true, false, ℕ, T, eqb}

pub data Value : Type 0 where
  v0 v1 v_x : Value

-- X is below both; 0 and 1 aren't ordered
abbrev pub at_most : Value → Value → Bool
at_most v_x b = true
at_most v0 v0 = true
at_most v0 v1 = false
at_most v0 v_x = false
at_most v1 v0 = false
at_most v1 v1 = true
at_most v1 v_x = false

infix 4 ◌⊑◌
pub record ◌⊑◌ (a b : Value) : Type 0 where
  pub le : T (at_most a b)

-- what joining gives: a value, or a collision, which is no value
pub data Cell : Type 0 where
  value : Value → Cell
  collision : Cell

-- joining equal values gives that value, with X the other, 0 with 1 is a collision
unfoldable pub join : Value → Value → Cell
join v_x b = value b
join v0 v0 = value v0
join v0 v1 = collision
join v0 v_x = value v0
join v1 v0 = collision
join v1 v1 = value v1
join v1 v_x = value v1

-- a node that has collided stays so, whatever else is joined
unfoldable pub join_cells : Cell → Cell → Cell
join_cells (value a) (value b) = join a b
join_cells (value a) collision = collision
join_cells collision b = collision

abbrev pub collides : Cell → Bool
collides (value a) = false
collides collision = true

-- a value that a clause can ask for
abbrev pub bit : Bool → Value
bit false = v0
bit true = v1

-- the number of a value: 0, 1, and 2 for X
abbrev pub number : Value → ℕ
number v0 = 0
number v1 = 1
number v_x = 2

abbrev pub same_value : Value → Value → Bool
same_value a b = eqb (number a) (number b)

-- the node has this value: a collision has none
abbrev pub has : Cell → Value → Bool
has (value a) b = same_value a b
has collision b = false

-- the number of what a node has; no answer names a node that has collided, so its 3 is never seen
abbrev pub cell_number : Cell → ℕ
cell_number (value a) = number a
cell_number collision = 3
