-- `bitxor` at a place.
-- Assumes nothing.
use Rattle.words.specs.Places.{bits_at}
use Rattle.words.proofs.Bits.{bit_and_lem, bit_or_lem}
use Rattle.words.proofs.PairBitXor.bitxor.Goals as goal

pub returns : goal.returns
unfolding bits_at
returns c = λ i. simp (bit_and_lem, bit_or_lem)
