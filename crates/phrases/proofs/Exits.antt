-- A function that is left by `?` returns the error that came; what a test says.
-- Assumes nothing.
use mathlib.Core.Path.{◌≡◌, ◌∙◌, ap}
use Rattle.std.specs.Prelude.{Bool, false, Result, Err, IsErrAnd, IsTrue, ◌↔◌}
use Rattle.scans.proofs.Bools.{both_ways}
use Rattle.std.proofs.lemmas.Result.{err_from_is_err_and}

pub left_with : {T E : Type 0} (r : Result T E) {e : E} → IsErrAnd r (λ y. y ≡ e) → r ≡ Err e
left_with r h = let (y, r-is, y-is) = err_from_is_err_and r h in r-is ∙ ap Err y-is

-- a test of the code that fails
pub test_false : {P : Type 0} {b : Bool} → (IsTrue b ↔ P) → b ≡ false → ¬ P
test_false test e p = both_ways (test.1 p) e
