-- `first_bad` finds the first index that the test fails, over a range.
-- Assumes nothing.
use Rattle.std.proofs.Common.{rules, ◌≡◌, ◌<◌, true, false, arith, tests}
use Rattle.std.proofs.lemmas.Iterator.{serves_from_Range, first_from_Range}
use Rattle.scans.proofs.Search.{found_first}
use Rattle.scans.proofs.first_bad.Goals as goal

pub find-requires-clause-callable : goal.find-requires-clause-callable
find-requires-clause-callable g c = serves_from_Range (λ x q e. search rules) (λ x l h y e. c.requires y.now (omega (arith, e, h)))

pub returns : goal.returns
returns g c = λ f h.
    let n = c.args.count in
    found_first f n _ (first_from_Range _ _ _ _ (λ x. x < n → f x ≡ false) (λ x. x < n → f x ≡ true) c.find.ensures.ran
    (λ x q e l. grind (arith, tests, h)) (λ x q e. (search rules, λ l. grind (arith, tests, h))))
