-- `lowest_miss`: the lowest node that misses one of the clauses so far.
-- Assumes nothing.
use Rattle.decoded.specs.Meant.{job_in}
use Rattle.cases.specs.Cells.{cell_in}
use Rattle.decoded.proofs.WalkLaws.{left, Walking}
use Rattle.cases.proofs.MissLaws.{missed_in, Lowest}
use Rattle.cases.proofs.rows.Run.lowest_miss.Given as goal

abbrev pub invariant-loop-clause : goal.invariant-loop-clause
invariant-loop-clause l =
    let s = l.self in
    let p = s.plan.now in
    record {
      walk : Walking p l.time l.yielded (left l.clause-iterator);
      lowest : Lowest p.size.n (missed_in (job_in p) s.case (cell_in s.row) l.yielded) l.lowest;
    }
