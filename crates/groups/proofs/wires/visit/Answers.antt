-- A wire more: its node is given.
-- Assumes nothing.
use Rattle.std.proofs.Common.{◌∙◌, ◌<◌, length, slice_index_or, arith}
use Rattle.std.proofs.lemmas.List.{take_more}
use Rattle.std.proofs.lemmas.List.Elements.{All-get_or}
use lib.ListN.{length-set}
use Rattle.groups.specs.declared.wires.Wire.{Wire}
use Rattle.groups.specs.Wired.{InRow}
use Rattle.groups.proofs.WireLaws.{visits_more}
use Rattle.groups.proofs.wires.visit.Goals as goal

pub loop-wire-preserved : goal.loop-wire-preserved
loop-wire-preserved g c =
    let items = c.args.wires.now in
    let l : c.loop-wire.wire-index < length items = omega arith in
    let none : Wire = record { node = 0; p = 0; q = 0; r = 0 } in
    let inside : InRow (slice_index_or items c.loop-wire.wire-index none) = All-get_or InRow items c.loop-wire.wire-index none l c.requires.inside in
    record {
      long = length-set c.loop-wire.next _ _ ∙ c.loop-wire.invariant.long;
      visits = rw (take_more items c.loop-wire.wire-index none l, c.from-in-loop-wire-3.ensures)
          (visits_more (slice_index_or items c.loop-wire.wire-index none) c.force.result (omega (arith, inside.node, c.loop-wire.invariant.long)) (rw (c.from.ensures, c.from-in-loop-wire.ensures, c.from-in-loop-wire-2.ensures) at c.force.ensures) c.loop-wire.invariant.visits);
    }
