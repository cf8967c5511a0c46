-- The clauses from the loop's place on are chained.
-- Assumes nothing.
use Rattle.decoded.specs.Chains.{Chained}
use Rattle.decoded.specs.Plans.{clause_of}
use Rattle.decoded.proofs.chains.chained.Given as goal

abbrev pub invariant-loop-i : goal.invariant-loop-i
invariant-loop-i l = Chained (clause_of l.clauses) l.c l.i l.heads l.nexts
