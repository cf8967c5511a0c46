-- `unless_each_block` refuses where the search stops.
-- Assumes nothing.
use Rattle.stored.specs.Reasons.{number_of}
use Rattle.stored.specs.Reading.{per_block}
use Rattle.stored.proofs.CheckedLaws.{checked_none, checked_some}
use Rattle.stored.proofs.Reason.unless_each_block.Goals as goal

pub returns-in-None : goal.returns-in-None
returns-in-None g c = λ f h. checked_none (per_block (number_of c.args.self) c.args.count f) (c.in-None.ensures f h)

pub returns-in-Some : goal.returns-in-Some
returns-in-Some g c = λ f h. checked_some (per_block (number_of c.args.self) c.args.count f) (c.in-Some.ensures f h) c.in_block.ensures
