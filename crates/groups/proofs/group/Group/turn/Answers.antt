-- The stimulus, the expectation and the step, one after another.
-- Assumes nothing.
use Rattle.groups.proofs.SteadyLaws.{steady_spared}
use Rattle.groups.proofs.TurnLaws.{turns}
use Rattle.groups.proofs.group.Group.turn.Goals as goal

pub renew-requires : goal.renew-requires
renew-requires c = record { time = c.requires.time; steady_but = λ later. steady_spared (c.requires.steady.0 later) c.stimulate-collided.ensures }

pub returns-clause-turns : goal.returns-clause-turns
returns-clause-turns c = turns c.args.self.now.gates.now.plan.now _ _ c.stimulate-collided.ensures c.expect-missed.ensures c.step.ensures.steps
