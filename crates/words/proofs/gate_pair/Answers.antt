-- `gate_pair` has the bits of its gate.
-- Assumes nothing.
use Rattle.std.proofs.Common.{refl}
use Rattle.meaning.specs.declared.Gate.TheVariants.{Input, Zero, One, Buf, Not, And, Or, Xor, Mux}
use Rattle.words.specs.Places.{bits_at}
use Rattle.words.proofs.Bits.{bit_all, bit_zero}
use Rattle.words.proofs.Gates.{forces_of}
use Rattle.words.proofs.gate_pair.Goals as goal

pub returns-in-Input : goal.returns-in-Input
unfolding bits_at
returns-in-Input c = forces_of Input c.in-Input.is (λ i l. simp (bit_all i l))

pub returns-in-Zero : goal.returns-in-Zero
unfolding bits_at
returns-in-Zero c = forces_of Zero c.in-Zero.is (λ i l. simp (bit_all i l, bit_zero))

pub returns-in-One : goal.returns-in-One
unfolding bits_at
returns-in-One c = forces_of One c.in-One.is (λ i l. simp (bit_all i l, bit_zero))

pub returns-in-Buf : goal.returns-in-Buf
returns-in-Buf c = forces_of Buf c.in-Buf.is (λ i l. refl)

pub returns-in-Not : goal.returns-in-Not
returns-in-Not c = forces_of Not c.in-Not.is (λ i l. c.not.ensures i)

pub returns-in-And : goal.returns-in-And
returns-in-And c = forces_of And c.in-And.is (λ i l. c.bitand.ensures i)

pub returns-in-Or : goal.returns-in-Or
returns-in-Or c = forces_of Or c.in-Or.is (λ i l. c.bitor.ensures i)

pub returns-in-Xor : goal.returns-in-Xor
returns-in-Xor c = forces_of Xor c.in-Xor.is (λ i l. c.bitxor.ensures i)

pub returns-in-Mux : goal.returns-in-Mux
returns-in-Mux c = forces_of Mux c.in-Mux.is (λ i l. c.mux_pair.ensures i)
