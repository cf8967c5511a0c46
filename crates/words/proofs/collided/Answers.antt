-- `collided`: the places set in neither word.
-- Assumes nothing.
use Prim.Native.Nat.{◌^◌, ◌<◌}
use borrow.Author.Rules.{rules}
use lib.Bits.{bit_or, or_lt}
use Rattle.words.proofs.Bits.{bit_or_lem, bit_not}
use Rattle.words.proofs.Gates.{collided_of}
use Rattle.words.proofs.collided.Goals as goal

pub returns : goal.returns
returns c = collided_of (λ i l. let h : c.args.w.zeros < 2 ^ 64 = search rules in let k : c.args.w.ones < 2 ^ 64 = search rules in let both : bit_or c.args.w.zeros c.args.w.ones < 2 ^ 64 = or_lt 64 _ _ h k in simp (bit_not, bit_or_lem))
