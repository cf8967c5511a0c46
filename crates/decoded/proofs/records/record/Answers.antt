-- A record says in its place in the blocks what it says in the list taken out of them.
-- Assumes nothing.
use Rattle.std.proofs.Common.{◌∙◌, ap, ◌+◌, ◌*◌}
use Rattle.scans.specs.Lists.{list_of}
use Rattle.stored.specs.Bytes.{byte_at}
use Rattle.stored.specs.Layout.{record_byte}
use Rattle.blocks.specs.Steps.{spot}
use Rattle.blocks.proofs.Spots.{in_blocks}
use Rattle.decoded.proofs.records.record.Goals as goal

pub returns : goal.returns
returns g c count l =
    let list = list_of (record_byte c.args.job.now c.args.first) (8 * count) in
    c.decode.ensures
    ∙ g.R.Decode.laws c.args.job.now list _ (8 * c.args.i) (λ f l8. ap (λ p. byte_at c.args.job.now (p + f)) (c.place.ensures.0 ∙ ap (λ b. spot b c.args.i) c.in_blocks-list.ensures.first) ∙ in_blocks c.args.job.now c.args.first count c.args.i l f l8)
