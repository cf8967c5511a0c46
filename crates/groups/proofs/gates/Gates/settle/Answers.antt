-- A node more is steady.
-- Assumes nothing.
use Rattle.std.proofs.Common.{◌∙◌, arith}
use lib.ListN.{length-set}
use borrow.Author.Count.{below_more}
use Rattle.groups.proofs.WireLaws.{stored_there, stored_elsewhere}
use Rattle.groups.proofs.gates.Gates.settle.Goals as goal

pub loop-m-preserved : goal.loop-m-preserved
loop-m-preserved c =
    let before = c.loop-m.invariant in
    let gates = c.args.self.now in
    let m = c.loop-m.m in
    let new = c.steady_at.result in
    record {
      long = length-set c.loop-m.row m new ∙ before.long;
      steady = below_more _ _
          (λ k l. rw (stored_elsewhere c.loop-m.row m new k (λ e. omega arith)) (before.steady k l))
          (rw (stored_there c.loop-m.row m new (omega (arith, before.long, gates.plan.now.decoded.n_most))) c.steady_at.ensures);
    }
