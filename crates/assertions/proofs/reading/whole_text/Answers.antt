-- `whole_text`: the first word, its clauses, and the rest.
-- Assumes nothing.
use Rattle.grammar.specs.Items.{letters}
use Rattle.phrases.proofs.Exits.{left_with}
use Rattle.assertions.proofs.TextRuns.{text_none, given_close, given_fails, text_at}
use Rattle.assertions.proofs.reading.whole_text.Goals as goal

pub returns-in_err-end : goal.returns-in_err-end
unfolding letters
returns-in_err-end c = rw (left_with c.from_residual.result c.from_residual.ensures.1) (record { says = text_none c.requires.0 c.requires.1 c.skip.ensures c.in_err-end.ensures.says })

pub returns-then-from-end : goal.returns-then-from-end
unfolding letters
returns-then-from-end c = record { says = given_close c.requires.0 c.requires.1 c.skip.ensures c.in_ok-end.ensures.says c.skip-from.ensures c.if-from-end.true }

pub returns-in_err-over : goal.returns-in_err-over
unfolding letters
returns-in_err-over c =
    rw (left_with c.from_residual-in_err-over.result c.from_residual-in_err-over.ensures.1)
    (record { says = given_fails c.requires.0 c.requires.1 c.skip.ensures c.in_ok-end.ensures.says c.skip-from.ensures c.if-from-end.false c.in_err-over.ensures.says })

pub returns : goal.returns
unfolding letters
returns c = text_at c.requires.0 c.requires.1 c.skip.ensures c.in_ok-end.ensures.says c.skip-from.ensures c.if-from-end.false c.in_ok-over.ensures.says c.expected.ensures
