-- `rest_ok` asks each byte of the room.
-- Assumes nothing.
use Rattle.std.proofs.Common.{rules}
use Rattle.stored.specs.Reading.{rest_byte_ok, rest_ok}
use Rattle.jobs.proofs.reading.Block.rest_ok.Goals as goal

pub returns : goal.returns
unfolding rest_ok
returns c = c.each.ensures (rest_byte_ok c.args.self.job.now c.args.self.number) (λ i r h e. search rules)
