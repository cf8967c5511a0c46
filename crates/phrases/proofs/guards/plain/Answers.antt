-- `plain`: a constant, a variable, or none.
-- Assumes nothing.
use mathlib.Core.Path.{refl}
use Rattle.phrases.proofs.Exits.{left_with}
use Rattle.phrases.proofs.Standing.{stands_not}
use Rattle.phrases.proofs.LevelLaws.{guard_read, guard_unread, plain_to, operand_none}
use Rattle.phrases.proofs.guards.plain.Goals as goal

pub returns-in_err-operand : goal.returns-in_err-operand
returns-in_err-operand c =
    rw (left_with c.from_residual.result c.from_residual.ensures.1, c.in_err-operand.ensures.0)
    (guard_unread c.requires.0 (operand_none c.requires.0 (stands_not refl c.requires.1) (stands_not refl c.requires.2) c.in_err-operand.ensures.1))

pub returns : goal.returns
returns c = guard_read (plain_to c.requires.0 c.in_ok-operand.operand c.args.around.few_variables c.in_ok-operand.ensures (rw c.expression.ensures at c.push.ensures) c.skip.ensures)
