-- `differs`: the word of the other value.
-- Assumes nothing.
use Rattle.words.proofs.Gates.{differs_of}
use Rattle.words.proofs.differs.Goals as goal

pub returns-then-one : goal.returns-then-one
returns-then-one c = differs_of (rw c.if-one.true)

pub returns-else-one : goal.returns-else-one
returns-else-one c = differs_of (rw c.if-one.false)
