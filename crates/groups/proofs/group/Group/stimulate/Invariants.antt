-- The clauses that the walk has come to are joined.
-- Assumes nothing.
use Rattle.groups.specs.Grouped.{job_of}
use Rattle.groups.specs.Held.{Stimulates}
use Rattle.decoded.proofs.WalkLaws.{left, Walking}
use Rattle.groups.proofs.group.Group.stimulate.Given as goal

abbrev pub invariant-loop-clause : goal.invariant-loop-clause
invariant-loop-clause l =
    let walk = l.clause-iterator in
    ((goal.iterator-loop-clause).can_next walk)
    × ((goal.iterator-loop-clause).is_finite walk)
    × Walking l.self.gates.now.plan.now l.t l.yielded (left walk)
    × Stimulates (job_of l.self) l.self.number l.t l.yielded l.initial.row l.row l.dead
