-- The head of a time is its first clause.
-- Assumes nothing.
use Rattle.std.proofs.Common.{◌∙◌, arith}
use Rattle.decoded.proofs.WalkLaws.{timed_next, on_next}
use Rattle.decoded.proofs.Plan.clauses_at.Goals as goal

pub invariant_of-result : goal.invariant_of-result
invariant_of-result c =
    let p = c.args.self.now in
    record { on_time = on_next p.clauses p.size.c c.args.time p.decoded.clauses_long 0 _ (omega arith) (c.from.ensures ∙ p.in_chains.head _ c.requires) }

pub returns : goal.returns
returns c =
    let p = c.args.self.now in
    timed_next p.clauses p.size.c c.args.time p.decoded.clauses_long 0 _ (omega arith) (c.from.ensures ∙ p.in_chains.head _ c.requires)
