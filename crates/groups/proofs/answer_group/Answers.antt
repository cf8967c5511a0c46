-- Guards, then all times, then the answers.
-- Assumes nothing.
use borrow.Author.Rules.{rules}
use Rattle.groups.proofs.GroupLaws.{group_tells}
use Rattle.groups.proofs.answer_group.Goals as goal

pub returns : goal.returns
returns c = group_tells _ _ c.run-told.ensures (search rules)
