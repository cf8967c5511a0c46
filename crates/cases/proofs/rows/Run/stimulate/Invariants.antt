-- `stimulate`: each cell has taken in the clauses so far.
-- Assumes nothing.
use Rattle.std.proofs.Common.{◌≡◌, ℕ, ◌<◌, length}
use Rattle.std.specs.List.{fold}
use Rattle.decoded.specs.Meant.{job_in}
use Rattle.cases.specs.Cells.{cell_in}
use Rattle.decoded.proofs.WalkLaws.{left, Walking}
use Rattle.cases.proofs.WalkLaws.{joined_by}
use Rattle.cases.proofs.rows.Run.stimulate.Given as goal

abbrev pub invariant-loop-clause : goal.invariant-loop-clause
invariant-loop-clause l =
    let p = l.self.plan.now in
    record {
      size : length l.row ≡ length l.initial.row;
      walk : Walking p l.self.next l.yielded (left l.clause-iterator);
      taken : (m : ℕ) → m < p.size.n → cell_in l.row m ≡ fold (joined_by (job_in p) l.self.case m) (cell_in l.initial.row m) l.yielded;
    }
