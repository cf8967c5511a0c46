-- At each place, the truth of the expression from the truths of the earlier ones there.
-- Assumes nothing.
use Rattle.std.proofs.Common.{◌∙◌, ap, ap₂, ◌+◌, ◌*◌, not, ◌&&◌, ◌||◌}
use Rattle.std.specs.Bool.{xor}
use Rattle.meaning.specs.Guards.{bit_of, truth_given}
use Rattle.words.proofs.Bits.{bit_zero, bit_all, bit_not, bit_and_lem, bit_or_lem, bit_xor_lem}
use Rattle.guards.proofs.expression_word.Goals as goal

pub returns-in-False : goal.returns-in-False
unfolding truth_given
returns-in-False c = λ p l. rw c.in-False.is (bit_zero p)

pub returns-in-True : goal.returns-in-True
unfolding truth_given
returns-in-True c = λ p l. rw c.in-True.is (bit_all p l)

pub returns-in-Variable : goal.returns-in-Variable
unfolding truth_given
returns-in-Variable c = λ p l. rw c.in-Variable.is (c.variable_word.ensures.at p l ∙ ap (bit_of (64 * c.args.g + p)) c.from.ensures)

pub returns-in-Not : goal.returns-in-Not
unfolding truth_given
returns-in-Not c = λ p l. rw c.in-Not.is (bit_not _ p c.operand.type_inv l ∙ ap not (c.operand.ensures p))

pub returns-in-And : goal.returns-in-And
unfolding truth_given
returns-in-And c = λ p l. rw c.in-And.is (bit_and_lem _ _ p ∙ ap₂ ◌&&◌ (c.operand-in-And.ensures p) (c.operand-in-And-2.ensures p))

pub returns-in-Or : goal.returns-in-Or
unfolding truth_given
returns-in-Or c = λ p l. rw c.in-Or.is (bit_or_lem _ _ p ∙ ap₂ ◌||◌ (c.operand-in-Or.ensures p) (c.operand-in-Or-2.ensures p))

pub returns-in-Xor : goal.returns-in-Xor
unfolding truth_given
returns-in-Xor c = λ p l. rw c.in-Xor.is (bit_xor_lem _ _ p ∙ ap₂ xor (c.operand-in-Xor.ensures p) (c.operand-in-Xor-2.ensures p))
