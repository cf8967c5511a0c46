-- `tell`: the bytes before the loop's place are written.
-- Assumes nothing.
use Rattle.std.proofs.Common.{◌≡◌, ℕ, ◌<◌, ◌/◌, ◌%◌, get_or, length}
use Rattle.stored.specs.Bytes.{digit}
use Rattle.boundary.proofs.telling.tell.Given as goal

abbrev pub invariant-loop-i : goal.invariant-loop-i
invariant-loop-i g l = (length l.room ≡ 40) × ((k : ℕ) → k < l.i → get_or l.room k 0 ≡ digit (get_or l.numbers (k / 4) 0) (k % 4))
