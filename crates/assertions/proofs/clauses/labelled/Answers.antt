-- `labelled`: a gap, a word, a gap, a number.
-- Assumes nothing.
use Rattle.phrases.proofs.Exits.{left_with}
use Rattle.assertions.proofs.SlotRuns.{labelled_touching, labelled_broken, labelled_close, labelled_number}
use Rattle.assertions.proofs.clauses.labelled.Goals as goal

pub returns-then-from-at : goal.returns-then-from-at
returns-then-from-at c = labelled_touching _ _ _ _ c.skip-from.ensures c.if-from-at.true

pub returns-in_err-end : goal.returns-in_err-end
returns-in_err-end c = rw (left_with c.from_residual.result c.from_residual.ensures.1) (labelled_broken _ _ _ _ c.skip-from.ensures c.if-from-at.false c.in_err-end.ensures.says)

pub returns-then-next-end : goal.returns-then-next-end
returns-then-next-end c = labelled_close _ _ _ _ c.skip-from.ensures c.if-from-at.false c.in_ok-end.ensures.says c.skip-next.ensures c.if-next-end.true

pub returns : goal.returns
returns c = labelled_number _ _ _ _ c.skip-from.ensures c.if-from-at.false c.in_ok-end.ensures.says c.skip-next.ensures c.if-next-end.false c.number.ensures
