-- A clause more is compared.
-- Assumes nothing.
use Rattle.decoded.proofs.WalkLaws.{walk_more, walk_timely, walk_end}
use Rattle.groups.proofs.ExpectLaws.{expects_none, expects_more}
use Rattle.groups.proofs.group.Group.expect.Goals as goal

pub loop-clause-init : goal.loop-clause-init
loop-clause-init c = (tt, tt, record { is = rw c.into_iter-clause-iterator.ensures.into_iter_gives c.clauses_at-clause-items.ensures }, expects_none _ _ _)

pub missed_by-missed-requires : goal.missed_by-missed-requires
missed_by-missed-requires c = (walk_timely c.loop-clause.invariant.2 c.in-Some.ensures.steps).within

pub loop-clause-preserved : goal.loop-clause-preserved
loop-clause-preserved c =
    let k = walk_timely c.loop-clause.invariant.2 c.in-Some.ensures.steps in
    (tt, tt, walk_more c.loop-clause.invariant.2 c.in-Some.ensures.steps, expects_more _ _ _ k.time c.loop-clause.invariant.3 c.missed_by-missed.ensures)

pub returns : goal.returns
returns c = rw (walk_end c.loop-clause.invariant.2 c.in-None.ensures.steps.0) at c.loop-clause.invariant.3
