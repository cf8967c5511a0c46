-- Tallies and least cases: what a count above 0 means, and how a stretch of cases adds to what came before.
-- Assumes nothing.
use Rattle.std.specs.Prelude.{Option, None, Some}
use mathlib.Core.Path.{◌≡◌, refl, sym, ap}
use mathlib.Core.Bool.{Bool, true, false, not, cond}
use Prim.Native.Nat.{ℕ, zero, suc, ◌+◌, ◌≤◌, ◌<◌}
use native.Mathlib.Nat.{add-suc, add-zero}
use native.Mathlib.Decide.{dec_lt}
use native.Mathlib.Omega.{arith}
use borrow.Author.Tests.{not-true, not-false}
use Rattle.scans.specs.First.{first_bad}
use Rattle.scans.proofs.Bools.{both_ways}
use Rattle.scans.proofs.Search.{below_suc, clear_each, stopped_at, at_stopped}
use Rattle.meaning.specs.Answers.{tally, or_zero, least}

pub tally_le : (f : ℕ → Bool) (n : ℕ) → tally f n ≤ n
unfolding tally
tally_le f zero = omega arith
tally_le f (suc n) = go (f n) (tally_le f n)
  where
    go : (b : Bool) → tally f n ≤ n → tally f n + cond b 1 0 ≤ suc n
    go true h = omega arith
    go false h = omega arith

-- a tally of 0 counts nothing
pub tally_none : (f : ℕ → Bool) (n : ℕ) → tally f n ≡ 0 → (i : ℕ) → i < n → f i ≡ false
unfolding tally
tally_none f zero e i h = absurd (omega arith)
tally_none f (suc n) e i h = below_suc (λ i. f i ≡ false) n (tally_none f n (omega arith)) (go (f n) e) i h
  where
    go : (b : Bool) → tally f n + cond b 1 0 ≡ 0 → b ≡ false
    go true e = absurd (omega arith)
    go false e = refl

pub none_tally : (f : ℕ → Bool) (n : ℕ) → ((i : ℕ) → i < n → f i ≡ false) → tally f n ≡ 0
unfolding tally
none_tally f zero h = refl
none_tally f (suc n) h = rw (none_tally f n (λ i l. h i (omega arith)), h n (omega arith))

pub tally_same : (f g : ℕ → Bool) (n : ℕ) → ((i : ℕ) → i < n → f i ≡ g i) → tally f n ≡ tally g n
unfolding tally
tally_same f g zero h = refl
tally_same f g (suc n) h = rw (tally_same f g n (λ i l. h i (omega arith)), h n (omega arith))

pub tally_split : (f : ℕ → Bool) (a b : ℕ) → tally f (a + b) ≡ tally f a + tally (λ i. f (a + i)) b
unfolding tally
tally_split f a zero = rw (add-zero a) (omega arith)
tally_split f a (suc b) = rw add-suc (omega (arith, tally_split f a b))

-- x is the least below n with f
pub record Least (f : ℕ → Bool) (n x : ℕ) : Type 0 where
  pub below : x < n
  pub here : f x ≡ true
  pub before : (y : ℕ) → y < x → f y ≡ false

-- a tally above 0 has a least
pub least_of : (f : ℕ → Bool) (n : ℕ) → 0 < tally f n → Least f n (least f n)
unfolding least
least_of f n h = go (first_bad (λ x. not (f x)) n) refl
  where
    go : (s : Option ℕ) → first_bad (λ x. not (f x)) n ≡ s → Least f n (or_zero s)
    go None e = absurd (omega (arith, none_tally f n (λ i l. not-true (f i) (clear_each (λ x. not (f x)) n e i l))))
    go (Some x) e =
        let r = stopped_at (λ x. not (f x)) n e in
        record { below = r.below; here = not-false (f x) r.fails; before = λ y l. not-true (f y) (r.before y l) }

pub least_is : (f : ℕ → Bool) (n : ℕ) {x : ℕ} → Least f n x → x ≡ least f n
unfolding least
least_is f n {x} l =
    sym (ap or_zero (at_stopped (λ x. not (f x)) n (record { below = l.below; fails = rw l.here; before = λ y h. rw (l.before y h) })))

pub some_tally : (f : ℕ → Bool) (n x : ℕ) → x < n → f x ≡ true → 0 < tally f n
some_tally f n x h e = go (dec_lt 0 (tally f n))
  where
    go : Dec (0 < tally f n) → 0 < tally f n
    go (yes l) = l
    go (no l) = both_ways e (tally_none f n (omega arith) x h)
