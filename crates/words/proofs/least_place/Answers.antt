-- `least_place`: no bit below the zeros at the low end.
-- Assumes nothing.
use native.Mathlib.Omega.{arith}
use lib.Count.{trailing_le}
use Rattle.words.proofs.Bits.{trailing_least}
use Rattle.words.proofs.least_place.Goals as goal

pub overflow_cast-result : goal.overflow_cast-result
overflow_cast-result c = omega (arith, trailing_le 64 c.args.x)

pub returns : goal.returns
returns c = trailing_least 64 _ c.ranges.x.fits c.requires
