-- `expected`: the word, and clauses to the end of the text.
-- Assumes nothing.
use Rattle.grammar.specs.Items.{letters}
use Rattle.phrases.proofs.Exits.{left_with}
use Rattle.assertions.proofs.TextRuns.{expect_none, rest_touched, rest_fails, rest_open, rest_ends}
use Rattle.assertions.proofs.reading.expected.Goals as goal

pub returns-in_err-end : goal.returns-in_err-end
unfolding letters
returns-in_err-end c = rw (left_with c.from_residual.result c.from_residual.ensures.1) (record { says = expect_none c.are_few.ensures c.requires.1 c.requires.2 c.in_err-end.ensures.says })

pub returns-then-touches : goal.returns-then-touches
unfolding letters
returns-then-touches c = record { says = rest_touched c.are_few.ensures c.in_ok-end.ensures.says c.skip-from.ensures c.touches.ensures c.if-touches.true }

pub returns-in_err-over : goal.returns-in_err-over
unfolding letters
returns-in_err-over c =
    rw (left_with c.from_residual-in_err-over.result c.from_residual-in_err-over.ensures.1)
    (record { says = rest_fails c.in_ok-end.ensures.says c.skip-from.ensures c.touches.ensures c.if-touches.false c.in_err-over.ensures.says })

pub returns-then-over-text : goal.returns-then-over-text
unfolding letters
returns-then-over-text c = record { says = rest_open c.in_ok-end.ensures.says c.skip-from.ensures c.touches.ensures c.if-touches.false c.in_ok-over.ensures.says c.if-over-text.true }

pub returns : goal.returns
unfolding letters
returns c = record { says = rest_ends c.in_ok-end.ensures.says c.skip-from.ensures c.touches.ensures c.if-touches.false c.in_ok-over.ensures.says c.if-over-text.false }
