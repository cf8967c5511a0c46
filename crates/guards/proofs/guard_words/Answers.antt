-- The expressions before the loop's place have their words.
-- Assumes nothing.
use Rattle.std.proofs.Common.{◌≡◌, arith, subst}
use Rattle.decoded.specs.Plans.{expression_of}
use Rattle.guards.proofs.GuardLaws.{Worked, worked_none, worked_more, all_worked}
use Rattle.guards.proofs.guard_words.Goals as goal

pub loop-i-init : goal.loop-i-init
loop-i-init c = worked_none (expression_of c.args.plan.now.expressions) c.args.g _

pub loop-i-preserved : goal.loop-i-preserved
loop-i-preserved c = worked_more _ (omega (arith, c.args.plan.now.decoded.e_most)) c.loop-i.invariant c.expression_word.ensures

pub returns : goal.returns
returns c =
    let at_end : c.loop-i.i ≡ c.args.plan.now.size.e = omega (arith, c.loop-i.auto.i-end) in
    all_worked c.args.plan.now c.args.g _ (subst (λ i. Worked (expression_of c.args.plan.now.expressions) c.args.g i c.loop-i.words) at_end c.loop-i.invariant)
