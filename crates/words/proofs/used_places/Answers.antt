-- `used_places`: a table below 6, and every place from there on.
-- Assumes nothing.
use native.Mathlib.Omega.{arith}
use Rattle.words.proofs.Tables.{used_in, used_all}
use Rattle.words.proofs.used_places.Goals as goal

pub returns-then-k-lt6 : goal.returns-then-k-lt6
returns-then-k-lt6 c = used_in (omega arith)

pub returns-else-k-lt6 : goal.returns-else-k-lt6
returns-else-k-lt6 c = used_all (omega arith)
