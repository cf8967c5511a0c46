-- Tests as facts: true and false taken apart, tests joined by &&, and a function that returns at the first test that fails.
-- Assumes nothing.
use borrow.Author.Rules.{rules}
use borrow.Author.Tests.{ltb-true, leb-true, eqb-true, lt-ltb, le-ltb, le-leb, lt-leb, eq-eqb, ne_eqb, not-true, not-false}
use lib.Dec.{T, eqb, ltb, leb}
use mathlib.Core.Path.{◌≡◌, refl, sym, ◌∙◌}
use mathlib.Core.Logic.{◌↔◌}
use mathlib.Core.Bool.{Bool, true, false, not, ◌&&◌, cond, true≢false}
use Prim.Native.Nat.{ℕ, ◌≤◌, ◌<◌}
use native.Mathlib.Decide.{dec_lt}
use native.Mathlib.Omega.{arith}

pub both_ways : {P : Type 0} {b : Bool} → b ≡ true → b ≡ false → P
both_ways p q = absurd (true≢false (sym p ∙ q))

pub is_true : (b : Bool) → T b → b ≡ true
is_true true t = refl
is_true false t = absurd t

pub of_true : (b : Bool) → b ≡ true → T b
of_true b e = rw e tt

pub is_false : (b : Bool) → (T b → ⊥) → b ≡ false
is_false true h = absurd (h tt)
is_false false h = refl

pub of_false : (b : Bool) → b ≡ false → T b → ⊥
of_false b e = rw e (λ t. t)

-- two tests that imply each other are one
pub same_test : (a b : Bool) → (T a → T b) → (T b → T a) → a ≡ b
same_test true b f g = sym (is_true b (f tt))
same_test false b f g = sym (is_false b g)

pub and_left : (a b : Bool) → T (a && b) → T a
and_left true b t = tt
and_left false b t = t

pub and_right : (a b : Bool) → T (a && b) → T b
and_right true b t = t
and_right false b t = absurd t

pub and_both : (a b : Bool) → T a → T b → T (a && b)
and_both true b p q = q
and_both false b p q = p

-- the same of equations, as a branch of the code gives them
pub left_true : (a b : Bool) → a && b ≡ true → a ≡ true
left_true a b e = is_true a (and_left a b (of_true _ e))

pub right_true : (a b : Bool) → a && b ≡ true → b ≡ true
right_true a b e = is_true b (and_right a b (of_true _ e))

-- the first test of several fails: the answer is false. The number tested is x itself, or what a call read it into
module _ {x y v : ℕ} (rest : Bool) (read : v ≡ x) where
  pub lt_fails : y ≤ v → false ≡ ltb x y && rest
  lt_fails h = rw (le-ltb x y (omega arith))

  pub le_fails : y < v → false ≡ leb x y && rest
  le_fails h = rw (lt-leb x y (omega arith))

  pub eq_fails : (v ≡ y → ⊥) → false ≡ eqb x y && rest
  eq_fails h = rw (ne_eqb x y (λ e. h (read ∙ e)))

-- it is passed: the answer is that of the rest
module _ {x y v : ℕ} (b rest : Bool) (read : v ≡ x) where
  pub lt_passes : v < y → b ≡ rest → b ≡ ltb x y && rest
  lt_passes h e = rw (lt-ltb x y (omega arith)) e

  pub le_passes : v ≤ y → b ≡ rest → b ≡ leb x y && rest
  le_passes h e = rw (le-leb x y (omega arith)) e

  pub eq_passes : v ≡ y → b ≡ rest → b ≡ eqb x y && rest
  eq_passes h e = rw (eq-eqb x y (sym read ∙ h)) e

-- the last test is the answer
module _ {x v : ℕ} (y : ℕ) (read : v ≡ x) where
  pub lt_last : ltb v y ≡ ltb x y
  lt_last = rw read

  pub le_last : leb v y ≡ leb x y
  le_last = rw read

  pub eq_last : eqb v y ≡ eqb x y
  eq_last = rw read

-- the same of a test that another function made, as `if !ok(..) { return false; }`
module _ {x t : Bool} where
  pub test_fails : (rest : Bool) → t ≡ x → not t ≡ true → false ≡ x && rest
  test_fails rest e f = let w : x ≡ false = cc (not-true t f) in rw w

  pub test_passes : (b rest : Bool) → t ≡ x → not t ≡ false → b ≡ rest → b ≡ x && rest
  test_passes b rest e f g = let w : x ≡ true = cc (not-false t f) in rw w g

pub ruleset tests = (rules, refl, lt_fails, le_fails, eq_fails, lt_passes, le_passes, eq_passes, lt_last, le_last, eq_last, test_fails, test_passes)

-- what a test that is true says
pub lt_says : (x y : ℕ) → (ltb x y ≡ true) ↔ (x < y)
lt_says x y = (ltb-true x y, lt-ltb x y)

pub le_says : (x y : ℕ) → (leb x y ≡ true) ↔ (x ≤ y)
le_says x y = (leb-true x y, le-leb x y)

pub eq_says : (x y : ℕ) → (eqb x y ≡ true) ↔ (x ≡ y)
eq_says x y = (eqb-true x y, eq-eqb x y)

pub and_says : (a b : Bool) → (a && b ≡ true) ↔ ((a ≡ true) × (b ≡ true))
and_says a b = (λ e. (left_true a b e, right_true a b e), λ p. rw (p.0, p.1))

pub choice_says : (x y : ℕ) (a b : Bool) → (cond (ltb x y) a b ≡ true) ↔ ((x < y → a ≡ true) × (y ≤ x → b ≡ true))
choice_says x y a b = (λ e. (λ h. rw (lt-ltb x y h) at e, λ h. rw (le-ltb x y h) at e), λ p. go p (dec_lt x y))
  where
    go : (x < y → a ≡ true) × (y ≤ x → b ≡ true) → Dec (x < y) → cond (ltb x y) a b ≡ true
    go p (yes h) = rw (lt-ltb x y h) (p.0 h)
    go p (no h) = let l : y ≤ x = omega arith in rw (le-ltb x y l) (p.1 l)

pub ruleset says = (lt_says, le_says, eq_says, and_says, choice_says)
