-- Each cell's number.
-- Assumes nothing.
use Rattle.std.proofs.Common.{None}
use Rattle.cases.proofs.rows.Run.numbers.Goals as goal

pub returns : goal.returns
returns c = λ m h. (c.map.ensures.items.at m None 0 h).2.met
