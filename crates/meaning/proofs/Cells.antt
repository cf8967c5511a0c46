-- Cells: known by their numbers; joining them is bracketed either way, and X changes nothing. An operand that a gate lacks does not matter.
-- Each by one test that antt computes.
-- Assumes nothing.
use mathlib.Core.Path.{◌≡◌, refl, sym, ◌∙◌, ap}
use mathlib.Core.Bool.{Bool, ◌&&◌, cond}
use mathlib.Core.List.{[], ◌∷◌}
use Prim.Native.Nat.{ℕ}
use lib.Dec.{T, eqb, eqb→eq, ltb}
use lib.ListN.{get_or}
use Rattle.scans.proofs.Bools.{and_left, and_right}
use Rattle.meaning.specs.Values.{Value, v0, v1, v_x, Cell, value, collision, join, join_cells, same_value, cell_number}
use Rattle.meaning.specs.declared.Gate.{Gate}
use Rattle.meaning.specs.Gates.{arity, gate_forces}
use Rattle.meaning.proofs.Everywhere.{values, values_e, values2_e, gates_e}
use Rattle.meaning.proofs.Values.{same_value_lem}

-- the cell of a number
abbrev pub cell_of_number : ℕ → Cell
cell_of_number n = get_or (value v0 ∷ value v1 ∷ value v_x ∷ []) n collision

pub cell_back : (c : Cell) → cell_of_number (cell_number c) ≡ c
cell_back (value v0) = refl
cell_back (value v1) = refl
cell_back (value v_x) = refl
cell_back collision = refl

pub cell_injective : (c d : Cell) → cell_number c ≡ cell_number d → c ≡ d
cell_injective c d e = sym (cell_back c) ∙ ap cell_of_number e ∙ cell_back d

-- a test at every cell
abbrev pub cells : (Cell → Bool) → Bool
cells f = f collision && values λ a. f (value a)

pub cells_e : (f : Cell → Bool) → T (cells f) → (c : Cell) → T (f c)
cells_e f t (value a) = values_e (λ a. f (value a)) (and_right (f collision) _ t) a
cells_e f t collision = and_left (f collision) _ t

abbrev same_cell : Cell → Cell → Bool
same_cell c d = eqb (cell_number c) (cell_number d)

same_cell_lem : (c d : Cell) → T (same_cell c d) → c ≡ d
same_cell_lem c d t = cell_injective c d (eqb→eq _ _ t)

pub join_nothing : (c : Cell) → join_cells c (value v_x) ≡ c
unfolding join_cells join
join_nothing c = same_cell_lem _ _ (cells_e (λ c. same_cell (join_cells c (value v_x)) c) tt c)

pub join_assoc : (a b c : Cell) → join_cells (join_cells a b) c ≡ join_cells a (join_cells b c)
unfolding join_cells join
join_assoc a b c =
    same_cell_lem _ _
    (cells_e (λ c. same_cell (join_cells (join_cells a b) c) (join_cells a (join_cells b c)))
    (cells_e (λ b. cells λ c. same_cell (join_cells (join_cells a b) c) (join_cells a (join_cells b c)))
    (cells_e (λ a. cells λ b. cells λ c. same_cell (join_cells (join_cells a b) c) (join_cells a (join_cells b c))) tt a) b) c)

-- the value of a gate, with X for the operands that it lacks
abbrev as_has : Gate → Value → Value → Value → Value
as_has g a b c = gate_forces g (cond (ltb 0 (arity g)) a v_x) (cond (ltb 1 (arity g)) b v_x) (cond (ltb 2 (arity g)) c v_x)

pub gate_lacks : (g : Gate) (a b c : Value) → gate_forces g a b c ≡ gate_forces g (cond (ltb 0 (arity g)) a v_x) (cond (ltb 1 (arity g)) b v_x) (cond (ltb 2 (arity g)) c v_x)
unfolding gate_forces
gate_lacks g a b c =
    same_value_lem _ _
    (values_e (λ c. same_value (gate_forces g a b c) (as_has g a b c))
    (values2_e (λ a b. values λ c. same_value (gate_forces g a b c) (as_has g a b c))
    (gates_e (λ g. values λ a. values λ b. values λ c. same_value (gate_forces g a b c) (as_has g a b c)) tt g) a b) c)
