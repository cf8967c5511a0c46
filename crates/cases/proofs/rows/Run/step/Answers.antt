-- The row is that of the time before the next.
-- Assumes nothing.
use Rattle.cases.proofs.RowLaws.{before_next}
use Rattle.cases.proofs.rows.Run.step.Goals as goal

pub invariant_of-self : goal.invariant_of-self
invariant_of-self c =
    let s = c.args.self.now in
    record { guarded = s.guarded; before = before_next s.plan.now s.case s.next c.force.new.row c.stimulate.new.row c.force.ensures c.stimulate.ensures }
