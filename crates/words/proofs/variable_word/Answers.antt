-- `variable_word`: the formula below 6, and the bit of the group from there on.
-- Assumes nothing.
use Rattle.words.proofs.Tables.{variable_set, variable_clear}
use native.Mathlib.Omega.{arith}
use Rattle.words.proofs.variable_word.Goals as goal

pub returns-then-v-lt6 : goal.returns-then-v-lt6
returns-then-v-lt6 c = c.variable_within.ensures _

pub returns-then-g-v-eq1 : goal.returns-then-g-v-eq1
returns-then-g-v-eq1 c = variable_set (omega arith) c.if-g-v-eq1.true

pub returns-else-g-v-eq1 : goal.returns-else-g-v-eq1
returns-else-g-v-eq1 c = variable_clear (omega arith) c.if-g-v-eq1.false
