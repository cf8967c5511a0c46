-- Each clause that counts is taken into the cell of its node.
-- Assumes nothing.
use Rattle.std.proofs.Common.{◌≡◌, ◌<◌, ◌∙◌, sym, ap, true, length, length-set, ◌∷◌, [], arith}
use Rattle.std.specs.List.{fold}
use Rattle.std.proofs.lemmas.List.Sums.{fold-append}
use Rattle.meaning.specs.declared.Side.TheVariants.{Stimulus}
use Rattle.decoded.specs.Meant.{job_in}
use Rattle.cases.specs.Runs.{counts}
use Rattle.cases.specs.Cells.{cell_in}
use Rattle.decoded.proofs.WalkLaws.{walk_timely, walk_more, walk_end}
use Rattle.cases.proofs.WalkLaws.{joined_by, joined_more, joined_all}
use Rattle.cases.proofs.rows.Run.stimulate.Goals as goal

pub counts-requires : goal.counts-requires
counts-requires c = (walk_timely c.loop-clause.invariant.walk c.in-Some.ensures.steps).within.guard

pub bounds-row-from : goal.bounds-row-from
bounds-row-from c = omega (arith, (walk_timely c.loop-clause.invariant.walk c.in-Some.ensures.steps).within.node, c.args.self.now.plan.now.decoded.n_most, c.from.ensures)

pub loop-clause-preserved-then-counts : goal.loop-clause-preserved-then-counts
loop-clause-preserved-then-counts c =
    let s = c.args.self.now in
    let old = c.loop-clause.invariant in
    let step = c.in-Some.ensures.steps in
    let here : c.from.result < length c.loop-clause.row = omega (arith, (walk_timely old.walk step).within.node, s.plan.now.decoded.n_most) in
    let on : counts (job_in s.plan.now) s.case Stimulus c.in-Some.clause ≡ true = sym c.counts.ensures ∙ c.if-counts.true in
    record {
      size = simp length-set old.size;
      walk = walk_more old.walk step;
      taken = λ m h.
          joined_more (job_in s.plan.now) s.case c.loop-clause.row c.in-Some.clause c.joined.result on c.from.ensures here c.joined.ensures m
          ∙ ap (λ a. joined_by (job_in s.plan.now) s.case m a c.in-Some.clause) (old.taken m h)
          ∙ sym (fold-append (joined_by (job_in s.plan.now) s.case m) (cell_in c.args.row.now m) c.loop-clause.yielded (c.in-Some.clause ∷ []));
    }

pub returns : goal.returns
returns c = λ m h.
    let s = c.args.self.now in
    c.loop-clause.invariant.taken m h
    ∙ ap (fold (joined_by (job_in s.plan.now) s.case m) (cell_in c.args.row.now m)) (walk_end c.loop-clause.invariant.walk c.in-None.ensures.steps.0)
    ∙ joined_all s.plan.now s.case s.next m _
