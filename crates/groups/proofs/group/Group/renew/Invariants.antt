-- The nodes are steady that the clauses name which the walk has come to.
-- Assumes nothing.
use Rattle.std.proofs.Common.{◌≡◌, length}
use Rattle.groups.specs.Grouped.{job_of, clauses_at}
use Rattle.decoded.proofs.WalkLaws.{left, Walking}
use Rattle.groups.proofs.SteadyLaws.{Renewed}
use Rattle.groups.proofs.group.Group.renew.Given as goal

abbrev pub invariant-loop-clause : goal.invariant-loop-clause
invariant-loop-clause l =
    let walk = l.clause-iterator in
    ((goal.iterator-loop-clause).can_next walk)
    × ((goal.iterator-loop-clause).is_finite walk)
    × Walking l.self.gates.now.plan.now l.t l.yielded (left walk)
    × (length l.row ≡ 1008)
    × Renewed (job_of l.self) (clauses_at l.self l.t) l.yielded l.row
