-- Nodes whose gate has no operand: INPUT, ZERO and ONE force the same from every row. A row that is used anew has it already, but for the nodes that
-- the stimulus has changed.
-- Assumes nothing.
use Rattle.std.specs.Prelude.{◌≡◌, false, List, ℕ, ◌<◌}
use Rattle.meaning.specs.declared.Gate.{Gate}
use Rattle.meaning.specs.declared.Clause.{Clause}
use Rattle.meaning.specs.Gates.{arity}
use Rattle.meaning.specs.Jobs.{Job}
use Rattle.words.specs.declared.Pair.{Pair}
use Rattle.words.specs.Places.{Forces}
use Rattle.groups.specs.Held.{pair_at, named_in}

-- if a gate has no operand, the pair is what it forces
pub record SteadyAt (gate : Gate) (new : Pair) : Type 0 where
  pub from : arity gate ≡ 0 → (p q r : Pair) → Forces gate p q r new

pub record Steady (j : Job) (row : List Pair) : Type 0 where
  pub at : (m : ℕ) → m < j.netlist.size → SteadyAt (j.netlist.node m).gate (pair_at row m)

-- each node is so that none of these clauses names
pub record SteadyBut (j : Job) (clauses : List Clause) (row : List Pair) : Type 0 where
  pub at : (m : ℕ) → m < j.netlist.size → named_in clauses m ≡ false → SteadyAt (j.netlist.node m).gate (pair_at row m)
