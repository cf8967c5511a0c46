-- `forced_row`: the nodes below m have what their gates force.
-- Assumes nothing.
use Rattle.std.proofs.Common.{◌≡◌, ℕ, ◌<◌, length}
use Rattle.meaning.specs.Rows.{forces_from}
use Rattle.decoded.specs.Plans.{node_of}
use Rattle.cases.specs.Cells.{cell_in}
use Rattle.cases.proofs.rows.forced_row.Given as goal

abbrev pub invariant-loop-m : goal.invariant-loop-m
invariant-loop-m l = record {
  size : length l.next ≡ 1008;
  below : (k : ℕ) → k < l.m → cell_in l.next k ≡ forces_from (node_of l.plan.nodes k) (cell_in l.row);
}
