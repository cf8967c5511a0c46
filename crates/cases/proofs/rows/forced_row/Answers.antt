-- The node at m is written, and those before stay.
-- Assumes nothing.
use Rattle.std.proofs.Common.{◌≢◌, ◌<◌, length, length-set, get_or-set_other, get_or-set_same, below_more, arith}
use Rattle.std.proofs.lemmas.List.{get_or-take, length-take-le}
use Rattle.cases.proofs.rows.forced_row.Goals as goal

pub loop-m-preserved : goal.loop-m-preserved
loop-m-preserved c =
    let short = length-take-le c.args.plan.now.size.n c.args.plan.now.nodes c.args.plan.now.decoded.nodes_long in
    let here : c.loop-m.m < c.args.plan.now.size.n = omega arith in
    let lt : c.loop-m.m < length c.loop-m.next = omega arith in
    record {
      size = simp length-set c.loop-m.invariant.size;
      below = below_more _ _
          (λ k h. let ne : k ≢ c.loop-m.m = omega arith in rw get_or-set_other (c.loop-m.invariant.below k h))
          (rw (get_or-set_same c.loop-m.next c.loop-m.m c.forces_from.result _ lt) (rw get_or-take at c.forces_from.ensures));
    }
