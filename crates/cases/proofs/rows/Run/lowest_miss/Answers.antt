-- Each clause that is missed is compared with the lowest before.
-- Assumes nothing.
use Rattle.std.proofs.Common.{◌≡◌, sym, ◌∙◌, rules}
use Rattle.decoded.specs.Meant.{job_in}
use Rattle.cases.specs.Cells.{cell_in}
use Rattle.decoded.proofs.WalkLaws.{walk_timely, walk_more, walk_end}
use Rattle.cases.proofs.MissLaws.{lower, missed_more, missed_past, lowest_more, lowest_stays, lowest_is}
use Rattle.cases.proofs.rows.Run.lowest_miss.Goals as goal

pub misses-requires : goal.misses-requires
misses-requires c = (walk_timely c.loop-clause.invariant.walk c.in-Some.ensures.steps).within

pub loop-clause-preserved-then-misses : goal.loop-clause-preserved-then-misses
loop-clause-preserved-then-misses c =
    let s = c.args.self.now in
    let old = c.loop-clause.invariant in
    let k = c.in-Some.clause in
    let step = c.in-Some.ensures.steps in
    let new : c.map_or.result ≡ lower c.loop-clause.lowest (k.node, k.value) = search rules in
    record {
      walk = walk_more old.walk step;
      lowest = rw new
          (lowest_more _ _ k.node k.value (walk_timely old.walk step).within.node
          (λ m v. missed_more (job_in s.plan.now) s.case (cell_in s.row) c.loop-clause.yielded k m v (sym c.misses.ensures ∙ c.if-misses.true)) c.loop-clause.lowest old.lowest);
    }

pub loop-clause-preserved : goal.loop-clause-preserved
loop-clause-preserved c =
    let s = c.args.self.now in
    let old = c.loop-clause.invariant in
    record {
      walk = walk_more old.walk c.in-Some.ensures.steps;
      lowest = lowest_stays old.lowest (λ m v. missed_past (job_in s.plan.now) s.case (cell_in s.row) c.loop-clause.yielded c.in-Some.clause m v (sym c.misses.ensures ∙ c.if-misses.false));
    }

pub returns : goal.returns
returns c =
    let s = c.args.self.now in
    let end = c.loop-clause.invariant in
    lowest_is s.plan.now s.case c.args.time (cell_in s.row) c.loop-clause.lowest (rw (walk_end end.walk c.in-None.ensures.steps.0) at end.lowest)
