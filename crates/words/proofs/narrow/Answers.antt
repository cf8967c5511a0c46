-- `narrow` clears the word that the clause rules out.
-- Assumes nothing.
use Rattle.words.specs.Places.{bits_at}
use Rattle.words.proofs.Bits.{bit_and_lem, bit_not}
use Rattle.words.proofs.Gates.{narrows_of}
use Rattle.words.proofs.narrow.Goals as goal

pub returns-then-one : goal.returns-then-one
unfolding bits_at
returns-then-one c = narrows_of (λ i l. simp (c.if-one.true, bit_and_lem, bit_not _ i c.ranges.guard.fits l))

pub returns-else-one : goal.returns-else-one
unfolding bits_at
returns-else-one c = narrows_of (λ i l. simp (c.if-one.false, bit_and_lem, bit_not _ i c.ranges.guard.fits l))
