-- `count` is the tally of the bits.
-- Assumes nothing.
use native.Mathlib.Omega.{arith}
use lib.Count.{ones-le}
use Rattle.words.proofs.Bits.{ones_tally}
use Rattle.words.proofs.count.Goals as goal

pub overflow_cast-result : goal.overflow_cast-result
overflow_cast-result c = omega (arith, ones-le 64 _ c.ranges.x.fits)

pub returns : goal.returns
returns c = ones_tally 64 _ c.ranges.x.fits
