-- The bit of a word that stands in a list is the element of the list's bits.
-- Assumes nothing.
use Rattle.std.proofs.Common.{sym}
use Rattle.guards.proofs.GuardLaws.{bits_at}
use Rattle.guards.proofs.operand.Goals as goal

pub returns : goal.returns
returns c = λ p. rw c.from.ensures (sym (bits_at c.args.earlier.now p c.args.a))
