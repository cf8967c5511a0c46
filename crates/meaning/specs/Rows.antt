-- Rows: the stimulus joined with what the gates force, all else unknown.
-- Assumes nothing.
use Rattle.std.specs.Prelude.{Bool, not, cond, List, [], ◌∷◌, ◌++◌, ℕ, zero, suc, ltb}
use Rattle.meaning.specs.Values.{v_x, Cell, value, collision, join_cells, collides, bit, cell_number}
use Rattle.meaning.specs.declared.Gate.{Gate}
use Rattle.meaning.specs.Gates.{arity, gate_forces}
use Rattle.meaning.specs.declared.Node.{Node}
use Rattle.meaning.specs.declared.Clause.{Clause}
use Rattle.meaning.specs.declared.Side.TheVariants.{Stimulus}
use Rattle.meaning.specs.Jobs.{operand, Job, asks}
use Rattle.scans.specs.First.{each}

-- what clause c asks of node n at time t in case x: its value if it is stimulus and speaks there
abbrev pub asked : Job → ℕ → ℕ → ℕ → Clause → Cell
asked j x t n c = value (cond (asks j Stimulus x t n c) (bit c.value) v_x)

-- what the first i clauses ask there, joined
unfoldable pub asked_by : Job → ℕ → ℕ → ℕ → ℕ → Cell
asked_by j x t n zero = value v_x
asked_by j x t n (suc i) = join_cells (asked_by j x t n i) (asked j x t n (j.clause i))

-- the stimulus at node n and time t
unfoldable pub stimulus_at : Job → ℕ → ℕ → ℕ → Cell
stimulus_at j x t n = asked_by j x t n j.count

-- a gate's operand in a row; one that it lacks is no use of a node
abbrev pub read_cell : Node → (ℕ → Cell) → ℕ → Cell
read_cell d row i = cond (ltb i (arity d.gate)) (row (operand d i)) (value v_x)

-- a gate that would read a collision has nothing to read: what it forces has collided too
abbrev pub forces_cells : Gate → Cell → Cell → Cell → Cell
forces_cells g (value a) (value b) (value c) = value (gate_forces g a b c)
forces_cells g (value a) (value b) collision = collision
forces_cells g (value a) collision c = collision
forces_cells g collision b c = collision

unfoldable pub forces_from : Node → (ℕ → Cell) → Cell
forces_from d row = forces_cells d.gate (read_cell d row 0) (read_cell d row 1) (read_cell d row 2)

-- what node n is forced to at time t: X at time 0, then what its gate forces from the row before
unfoldable pub forced : Job → ℕ → ℕ → ℕ → Cell
forced j x zero n = value v_x
forced j x (suc t) n = forces_from (j.netlist.node n) (λ m. join_cells (forced j x t m) (stimulus_at j x t m))

-- row t at node n
unfoldable pub cell : Job → ℕ → ℕ → ℕ → Cell
cell j x t n = join_cells (forced j x t n) (stimulus_at j x t n)

-- no node collides at time t
unfoldable pub row_clear : Job → ℕ → ℕ → Bool
row_clear j x t = each (λ n. not (collides (cell j x t n))) j.netlist.size

-- row t as numbers, node by node: the first n of them
unfoldable pub row_numbers : Job → ℕ → ℕ → ℕ → List ℕ
row_numbers j x t zero = []
row_numbers j x t (suc n) = row_numbers j x t n ++ cell_number (cell j x t n) ∷ []
