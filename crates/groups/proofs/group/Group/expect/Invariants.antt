-- The clauses that the walk has come to are compared.
-- Assumes nothing.
use Rattle.groups.specs.Grouped.{job_of}
use Rattle.groups.specs.Held.{Expects}
use Rattle.decoded.proofs.WalkLaws.{left, Walking}
use Rattle.groups.proofs.group.Group.expect.Given as goal

abbrev pub invariant-loop-clause : goal.invariant-loop-clause
invariant-loop-clause l =
    let walk = l.clause-iterator in
    ((goal.iterator-loop-clause).can_next walk)
    × ((goal.iterator-loop-clause).is_finite walk)
    × Walking l.self.gates.now.plan.now l.t l.yielded (left walk)
    × Expects (job_of l.self) l.self.number l.t l.yielded l.row l.missed
