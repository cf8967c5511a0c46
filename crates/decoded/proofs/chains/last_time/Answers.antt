-- The last time so far is that of the clauses passed.
-- Assumes nothing.
use Rattle.std.proofs.Common.{◌≡◌, ◌∙◌, ap, arith}
use Rattle.std.proofs.lemmas.List.{get_or-take, length-take-le}
use Rattle.meaning.specs.declared.Clause.{Clause}
use Rattle.meaning.specs.Jobs.{latest}
use Rattle.decoded.specs.Plans.{no_clause, clause_of}
use Rattle.decoded.proofs.ChainLaws.{latest_none, latest_more}
use Rattle.decoded.proofs.chains.last_time.Goals as goal

pub loop-clause-init : goal.loop-clause-init
loop-clause-init c = latest_none (clause_of c.args.clauses.now)

pub loop-clause-preserved : goal.loop-clause-preserved
loop-clause-preserved c =
    let long = length-take-le c.args.c c.args.clauses.now c.requires in
    let here = get_or-take c.args.c c.args.clauses.now c.loop-clause.clause-index no_clause (omega (arith, long)) in
    c.max-last.ensures ∙ latest_more (clause_of c.args.clauses.now) c.loop-clause.invariant (c.from.ensures ∙ ap (λ (x : Clause). x.time) here)

pub returns : goal.returns
returns c =
    let long = length-take-le c.args.c c.args.clauses.now c.requires in
    let at_end : c.loop-clause.clause-index ≡ c.args.c = omega (arith, long, c.loop-clause.auto.clause-index-end) in
    c.loop-clause.invariant ∙ ap (latest (clause_of c.args.clauses.now)) at_end
