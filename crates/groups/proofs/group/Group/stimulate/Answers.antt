-- A clause more is joined.
-- Assumes nothing.
use Rattle.decoded.proofs.WalkLaws.{walk_more, walk_timely, walk_end}
use Rattle.groups.proofs.StimulusLaws.{stimulates_none, stimulates_more}
use Rattle.groups.proofs.group.Group.stimulate.Goals as goal

pub loop-clause-init : goal.loop-clause-init
loop-clause-init c = (tt, tt, record { is = rw c.into_iter-clause-iterator.ensures.into_iter_gives c.clauses_at-clause-items.ensures }, stimulates_none _ _ _)

pub narrow_by-dead-requires : goal.narrow_by-dead-requires
narrow_by-dead-requires c = (walk_timely c.loop-clause.invariant.2 c.in-Some.ensures.steps).within

pub loop-clause-preserved : goal.loop-clause-preserved
loop-clause-preserved c =
    let k = walk_timely c.loop-clause.invariant.2 c.in-Some.ensures.steps in
    (tt, tt, walk_more c.loop-clause.invariant.2 c.in-Some.ensures.steps, stimulates_more _ _ _ k.time c.loop-clause.invariant.3 c.narrow_by-dead.ensures)

pub returns : goal.returns
returns c = rw (walk_end c.loop-clause.invariant.2 c.in-None.ensures.steps.0) at c.loop-clause.invariant.3
