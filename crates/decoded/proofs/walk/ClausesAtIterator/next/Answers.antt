-- A clause's next is the next of its time.
-- Assumes nothing.
use Rattle.std.proofs.Common.{◌∙◌, ◌∷◌, ◌<◌, sym, ap, suc, arith}
use Rattle.std.proofs.lemmas.Grind.{common_steps}
use Rattle.decoded.specs.Plans.{clause_of}
use Rattle.decoded.proofs.WalkLaws.{timed_here, timed_next, on_next, next_after}
use Rattle.decoded.proofs.walk.ClausesAtIterator.next.Goals as goal

pub invariant_of-self : goal.invariant_of-self
invariant_of-self c =
    let s = c.args.self.now in
    let p = s.plan.now in
    let here : s.next < p.size.c = omega arith in
    record { on_time = on_next p.clauses p.size.c s.time p.decoded.clauses_long (suc s.next) _ (omega arith) (next_after p.clauses p.size.c s.time p.decoded.clauses_long s.next _ p.in_chains here (s.on_time here) c.from-self.ensures) }

pub returns-clause-steps : goal.returns-clause-steps
returns-clause-steps c =
    let s = c.args.self.now in
    let p = s.plan.now in
    let here : s.next < p.size.c = omega arith in
    let is_next = next_after p.clauses p.size.c s.time p.decoded.clauses_long s.next _ p.in_chains here (s.on_time here) c.from-self.ensures in
    timed_here p.clauses p.size.c s.time p.decoded.clauses_long s.next here (s.on_time here)
    ∙ ap (λ rest. clause_of p.clauses s.next ∷ rest) (sym (timed_next p.clauses p.size.c s.time p.decoded.clauses_long (suc s.next) _ (omega arith) is_next))

pub returns-clause-goes : goal.returns-clause-goes
returns-clause-goes c = let e = returns-clause-steps c in grind (arith, common_steps, e)
