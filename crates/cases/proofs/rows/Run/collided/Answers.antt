-- The first cell that has no value.
-- Assumes nothing.
use Rattle.std.proofs.Common.{◌≡◌, true, false, take, arith, rules, tests}
use Rattle.std.specs.Option.{is_none}
use Rattle.std.proofs.lemmas.Iterator.{YieldsList-from_slice, IsFirst-from_position}
use Rattle.cases.proofs.SearchLaws.{first_collided}
use Rattle.cases.proofs.rows.Run.collided.Goals as goal

pub returns : goal.returns
returns c =
    let s = c.args.self.now in
    let n = s.plan.now.size.n in
    first_collided s.row n (omega (arith, s.plan.now.decoded.n_most)) c.position.result
    (IsFirst-from_position _ _ c.position.result (λ c. is_none c ≡ true) (λ c. is_none c ≡ false) c.position.ensures.ran (YieldsList-from_slice (take n s.row) cc) (λ x q k. search (rules, tests)) (λ x q k. search (rules, tests)))
