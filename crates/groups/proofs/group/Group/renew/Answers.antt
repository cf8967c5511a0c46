-- The node of a clause more is steady.
-- Assumes nothing.
use Rattle.std.proofs.Common.{◌∙◌, ◌<◌, length, arith}
use lib.ListN.{length-set}
use Rattle.decoded.proofs.WalkLaws.{walk_more, walk_timely, walk_end}
use Rattle.groups.proofs.SteadyLaws.{renewed_none, renewed_more, renewed_all}
use Rattle.groups.proofs.group.Group.renew.Goals as goal

pub loop-clause-init : goal.loop-clause-init
loop-clause-init c =
    (tt, tt, record { is = rw c.into_iter-clause-iterator.ensures.into_iter_gives c.clauses_at-clause-items.ensures }, c.told-row, renewed_none _ _ (c.requires.steady_but (omega arith)))

pub steady_at-requires : goal.steady_at-requires
steady_at-requires c =
    let k = walk_timely c.loop-clause.invariant.2 c.in-Some.ensures.steps in
    omega (arith, k.within.node, c.from-node.ensures)

pub bounds-row-node : goal.bounds-row-node
bounds-row-node c =
    let k = walk_timely c.loop-clause.invariant.2 c.in-Some.ensures.steps in
    omega (arith, k.within.node, c.from-node.ensures, c.args.self.now.gates.now.plan.now.decoded.n_most)

pub loop-clause-preserved : goal.loop-clause-preserved
loop-clause-preserved c =
    let s = c.args.self.now in
    let k = walk_timely c.loop-clause.invariant.2 c.in-Some.ensures.steps in
    let room : c.in-Some.clause.node < length c.loop-clause.row = omega (arith, k.within.node, c.loop-clause.invariant.3, s.gates.now.plan.now.decoded.n_most) in
    rw c.from-node.ensures (
      tt,
      tt,
      walk_more c.loop-clause.invariant.2 c.in-Some.ensures.steps,
      length-set c.loop-clause.row _ _ ∙ c.loop-clause.invariant.3,
      renewed_more _ _ c.in-Some.clause room (λ _. rw c.from-node.ensures at c.steady_at.ensures) c.loop-clause.invariant.4,
    )

pub returns : goal.returns
returns c = renewed_all _ _ (rw (walk_end c.loop-clause.invariant.2 c.in-None.ensures.steps.0) at c.loop-clause.invariant.4)
