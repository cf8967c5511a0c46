-- `number`: digit by digit.
-- Assumes nothing.
use Rattle.assertions.proofs.SlotRuns.{Growing}
use Rattle.assertions.proofs.clauses.number.Given as goal

abbrev pub invariant-loop-q : goal.invariant-loop-q
invariant-loop-q l = Growing l.text l.limit l.at l.q l.value
