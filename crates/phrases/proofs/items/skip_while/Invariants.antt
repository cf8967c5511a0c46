-- `skip_while`: the bytes before the place pass the test.
-- Assumes nothing.
use Rattle.std.proofs.Common.{ℕ, ◌≤◌, ◌<◌, true}
use Rattle.stored.specs.Bytes.{byte_at}
use Rattle.phrases.proofs.items.skip_while.Given as goal

abbrev pub invariant-loop-q : goal.invariant-loop-q
invariant-loop-q g l = (i : ℕ) → l.at ≤ i → i < l.q → g.F.Fn.post l.test (byte_at l.text i, tt) true
