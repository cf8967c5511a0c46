-- The expressions before the loop's place have their words.
-- Assumes nothing.
use Rattle.decoded.specs.Plans.{expression_of}
use Rattle.guards.proofs.GuardLaws.{Worked}
use Rattle.guards.proofs.guard_words.Given as goal

abbrev pub invariant-loop-i : goal.invariant-loop-i
invariant-loop-i l = Worked (expression_of l.plan.expressions) l.g l.i l.words
