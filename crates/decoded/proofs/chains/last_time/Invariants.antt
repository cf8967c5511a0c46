-- The last time so far is that of the clauses passed.
-- Assumes nothing.
use Rattle.std.proofs.Common.{◌≡◌}
use Rattle.meaning.specs.Jobs.{latest}
use Rattle.decoded.specs.Plans.{clause_of}
use Rattle.decoded.proofs.chains.last_time.Given as goal

abbrev pub invariant-loop-clause : goal.invariant-loop-clause
invariant-loop-clause l = l.last ≡ latest (clause_of l.clauses) l.clause-index
