-- `not` at a place.
-- Assumes nothing.
use mathlib.Core.Path.{refl}
use Rattle.words.specs.Places.{bits_at}
use Rattle.words.proofs.PairNot.not.Goals as goal

pub returns : goal.returns
unfolding bits_at
returns c = λ i. refl
