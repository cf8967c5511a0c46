-- The decimal digits of a number: those of its tenth part and one more, how many, and that the library writes the same.
-- Assumes nothing.
use borrow.Author.Tests.{lt-ltb}
use mathlib.Core.Path.{◌≡◌, sym}
use native.Mathlib.Decide.{dec_lt}
use mathlib.Core.List.{List, [], ◌∷◌, ◌++◌}
use native.Mathlib.Omega.{arith}
use Prim.Native.Nat.{ℕ, zero, suc, ◌/◌, ◌%◌, ◌^◌, ◌≤◌, ◌<◌}
use lib.ListN.{length}
use Rattle.std.specs.Fmt.{decimal as std_decimal}
use Rattle.std.proofs.Common.{rules}
use Rattle.std.proofs.lemmas.Grind.{common_steps}
use Rattle.std.proofs.lemmas.Fmt.{decimal_from_appends, length-decimal-le, length-decimal-le_succ}
use Rattle.texts.specs.Decimals.{digit, digits, decimal}

-- any bound above x gives the same digits
digits_same : (m n x : ℕ) → x < m → x < n → digits m x ≡ digits n x
unfolding digits
digits_same zero n x h l = absurd (omega arith)
digits_same (suc m) zero x h l = absurd (omega arith)
digits_same (suc m) (suc n) x h l = grind (arith, common_steps, digits_same m n (x / 10))

pub decimal_small : (x : ℕ) → x < 10 → decimal x ≡ digit x ∷ []
unfolding decimal digits
decimal_small x h = rw (lt-ltb x 10 h)

pub decimal_more : (x : ℕ) → 10 ≤ x → decimal x ≡ decimal (x / 10) ++ digit (x % 10) ∷ []
unfolding decimal digits
decimal_more x h = grind (arith, common_steps, digits_same x (suc (x / 10)) (x / 10))

-- the library writes a number of 64 bits in these digits
pub std_decimal_is : (x : ℕ) → x < 2 ^ 64 → std_decimal x ≡ decimal x
unfolding decimal digits
std_decimal_is x h = sym (decimal_from_appends digits (search rules) (suc x) x h (omega (arith, length-decimal-le_succ x h)))

-- of which there are at most twenty
pub decimal_length : (x : ℕ) → x < 2 ^ 64 → length (decimal x) ≤ 20
decimal_length x h = rw (sym (std_decimal_is x h)) (length-decimal-le 20 x (omega arith) (omega arith) h)

-- what holds of one digit, and of one more after those of the tenth part
pub by_digits : (P : ℕ → List ℕ → Type 0) → ((x : ℕ) → x < 10 → P x (digit x ∷ [])) → ((x : ℕ) (s : List ℕ) → 10 ≤ x → P (x / 10) s → P x (s ++ digit (x % 10) ∷ [])) → (x : ℕ) → P x (decimal x)
by_digits P one more x = go (suc x) x (omega arith)
  where
    go : (n x : ℕ) → x < n → P x (decimal x)
    go zero x h = absurd (omega arith)
    go (suc n) x h = step (dec_lt x 10) (go n (x / 10))
      where
        step : Dec (x < 10) → (x / 10 < n → P (x / 10) (decimal (x / 10))) → P x (decimal x)
        step (yes l) ih = rw (decimal_small x l) (one x l)
        step (no l) ih = rw (decimal_more x (omega arith)) (more x (decimal (x / 10)) (omega arith) (ih (omega arith)))
