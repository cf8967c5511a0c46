-- The code's values, cells and rows as those of the meaning.
-- Assumes nothing.
use Rattle.std.specs.Prelude.{◌≡◌, Option, None, Some, List, ℕ, ◌<◌, slice_index_or}
use Rattle.meaning.specs.Values.{v0, v1, v_x, Cell, value, collision}
use Rattle.cases.specs.declared.values.Value.{Value}
use Rattle.cases.specs.declared.values.Value.TheVariants.{Zero, One, X}

abbrev pub value_of : Value → Rattle.meaning.specs.Values.Value
value_of Zero = v0
value_of One = v1
value_of X = v_x

abbrev pub cell_of : Option Value → Cell
cell_of None = collision
cell_of (Some v) = value (value_of v)

-- what a row has at node m
abbrev pub cell_in : List (Option Value) → ℕ → Cell
cell_in row m = cell_of (slice_index_or row m None)

-- the first n cells of the row are these
pub record Shows (n : ℕ) (row : List (Option Value)) (cells : ℕ → Cell) : Type 0 where
  pub at : (m : ℕ) → m < n → cell_in row m ≡ cells m
