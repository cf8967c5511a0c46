-- What a row of words holds: at each of the 64 places, a cell for each node. The stimulus and the expectation on such a row are promised for any
-- cells that stand there, so that the promises compose. Place i of group g stands for case 64 g + i.
-- Assumes nothing.
use Rattle.std.specs.Prelude.{◌≡◌, Bool, true, false, not, List, ℕ, ◌+◌, ◌*◌, ◌<◌, eqb, fold, slice_index_or}
use Rattle.std.specs.List.{list_any}
use Rattle.scans.specs.First.{each}
use Rattle.meaning.specs.Values.{Value, v_x, Cell, value, join_cells, collides}
use Rattle.meaning.specs.Guards.{bit_of}
use Rattle.meaning.specs.declared.Clause.{Clause}
use Rattle.meaning.specs.Jobs.{Job}
use Rattle.meaning.specs.Rows.{asked}
use Rattle.meaning.specs.Cases.{missed}
use Rattle.words.specs.declared.Pair.{Pair}
use Rattle.words.specs.Places.{cell_at}

-- node n's two words
abbrev pub pair_at : List Pair → ℕ → Pair
pair_at row n = slice_index_or row n (record { zeros = 0; ones = 0 })

-- at place i the job's nodes have these cells
pub record Held (j : Job) (row : List Pair) (i : ℕ) (cells : ℕ → Cell) : Type 0 where
  pub at : (m : ℕ) → m < j.netlist.size → cell_at (pair_at row m) i ≡ cells m

-- none of these cells has collided
abbrev pub clear : Job → (ℕ → Cell) → Bool
clear j cells = each (λ m. not (collides (cells m))) j.netlist.size

-- what some clauses ask of node m at time t in case x, joined
abbrev pub asked_in : Job → ℕ → ℕ → List Clause → ℕ → Cell
asked_in j x t clauses m = fold (λ c k. join_cells c (asked j x t m k)) (value v_x) clauses

-- one of some clauses names node m
abbrev pub named_in : List Clause → ℕ → Bool
named_in clauses m = list_any (λ k. eqb k.node m) clauses

-- some clauses of the stimulus at time t: wherever the row holds cells, the new one holds them joined with it, and the answer says where a node
-- collides, if none did before; it never says so where none does. A node that no clause names stays as it was
pub record Stimulates (j : Job) (g t : ℕ) (clauses : List Clause) (row row' : List Pair) (r : ℕ) : Type 0 where
  pub joined : (i : ℕ) → i < 64 → (f : ℕ → Cell) → Held j row i f → Held j row' i (λ m. join_cells (f m) (asked_in j (64 * g + i) t clauses m))
  pub collided : (i : ℕ) → i < 64 → (f : ℕ → Cell) → Held j row i f → clear j f ≡ true → bit_of r i ≡ not (clear j (λ m. join_cells (f m) (asked_in j (64 * g + i) t clauses m)))
  pub only : (i : ℕ) → i < 64 → (f : ℕ → Cell) → Held j row i f → bit_of r i ≡ true → clear j (λ m. join_cells (f m) (asked_in j (64 * g + i) t clauses m)) ≡ false
  pub spared : (m : ℕ) → named_in clauses m ≡ false → pair_at row' m ≡ pair_at row m

-- some clauses of the expectation at time t: wherever the row holds values, the answer says whether one is missed
pub record Expects (j : Job) (g t : ℕ) (clauses : List Clause) (row : List Pair) (r : ℕ) : Type 0 where
  pub missed : (i : ℕ) → i < 64 → (v : ℕ → Value) → Held j row i (λ m. value (v m)) → bit_of r i ≡ list_any (λ k. missed j (64 * g + i) t k.node (value (v k.node)) k) clauses
