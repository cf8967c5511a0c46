-- The first index that fails a test: what it is, that there is one only, and what a search over the indexes finds.
-- Assumes nothing.
use Rattle.std.specs.Prelude.{Option, None, Some}
use Rattle.std.specs.Option.{MatchOption}
use lib.Dec.{T}
use mathlib.Core.Path.{◌≡◌, refl, sym, ◌∙◌, subst}
use mathlib.Core.Bool.{Bool, true, false, ◌&&◌}
use native.Mathlib.Decide.{dec_lt}
use native.Mathlib.Omega.{arith}
use Prim.Native.Nat.{ℕ, zero, suc, ◌≤◌, ◌<◌}
use Rattle.scans.specs.First.{go_on, first_bad, is_clear, each, FirstBad}
use Rattle.scans.proofs.Bools.{both_ways}

-- what holds of each index below n, and of n, holds of each below n + 1
pub below_suc : (P : ℕ → Type 0) (n : ℕ) → ((i : ℕ) → i < n → P i) → P n → (i : ℕ) → i < suc n → P i
below_suc P n f p i h = go (dec_lt i n)
  where
    go : Dec (i < n) → P i
    go (yes l) = f i l
    go (no l) = let e : n ≡ i = omega arith in rw e at p

pub none_some : {A P : Type 0} {x : A} → None ≡ Some x → P
none_some e = absurd cc

module _ (f : ℕ → Bool) where
  -- nothing stops the search: each index passes
  pub clear_each : (n : ℕ) → first_bad f n ≡ None → (i : ℕ) → i < n → f i ≡ true
  unfolding first_bad
  clear_each zero e = λ i h. absurd (omega arith)
  clear_each (suc n) e = go (first_bad f n) (f n) refl refl e (clear_each n)
    where
      go : (s : Option ℕ) (b : Bool) → first_bad f n ≡ s → f n ≡ b → go_on s b n ≡ None → (first_bad f n ≡ None → (i : ℕ) → i < n → f i ≡ true) → (i : ℕ) → i < suc n → f i ≡ true
      go None true p q e ih = below_suc (λ i. f i ≡ true) n (ih p) q
      go None false p q e ih = none_some (sym e)
      go (Some j) b p q e ih = none_some (sym e)

  pub each_clear : (n : ℕ) → ((i : ℕ) → i < n → f i ≡ true) → first_bad f n ≡ None
  unfolding first_bad
  each_clear zero h = refl
  each_clear (suc n) h = rw (each_clear n (λ i l. h i (omega arith)), h n (omega arith))

  -- it stops: there, and nowhere before
  pub stopped_at : (n : ℕ) {i : ℕ} → first_bad f n ≡ Some i → FirstBad f n i
  unfolding first_bad
  stopped_at zero e = none_some e
  stopped_at (suc n) {i} e = go (first_bad f n) (f n) refl refl e (stopped_at n {i = i})
    where
      go : (s : Option ℕ) (b : Bool) → first_bad f n ≡ s → f n ≡ b → go_on s b n ≡ Some i → (first_bad f n ≡ Some i → FirstBad f n i) → FirstBad f (suc n) i
      go None true p q e ih = none_some e
      go None false p q e ih =
          let w : n ≡ i = cc in
          let r : FirstBad f (suc n) n = record { below = omega arith; fails = q; before = clear_each n p } in
          subst (FirstBad f (suc n)) w r
      go (Some j) b p q e ih = let r = ih (p ∙ e) in record { below = omega arith; fails = r.fails; before = r.before }

  -- whatever fails, with each index before it passing, is where it stops
  pub at_stopped : (n : ℕ) {i : ℕ} → FirstBad f n i → first_bad f n ≡ Some i
  at_stopped n {i} r = go (first_bad f n) refl
    where
      go : (s : Option ℕ) → first_bad f n ≡ s → s ≡ Some i
      go None e = both_ways (clear_each n e i r.below) r.fails
      go (Some j) e =
          order (stopped_at n e) (dec_lt j i) (dec_lt i j)
        where
          order : FirstBad f n j → Dec (j < i) → Dec (i < j) → Some j ≡ Some i
          order s (yes h) d = both_ways (r.before j h) s.fails
          order s (no h) (yes g) = both_ways (s.before i g) r.fails
          order s (no h) (no g) = let q : j ≡ i = omega arith in cc

  pub each_e : (n : ℕ) → T (each f n) → (i : ℕ) → i < n → f i ≡ true
  unfolding each
  each_e n t = go (first_bad f n) refl t
    where
      go : (s : Option ℕ) → first_bad f n ≡ s → T (is_clear s) → (i : ℕ) → i < n → f i ≡ true
      go None e u = clear_each n e
      go (Some j) e u = absurd u

  pub each_i : (n : ℕ) → ((i : ℕ) → i < n → f i ≡ true) → T (each f n)
  unfolding each
  each_i n h = rw (each_clear n h) tt

  -- not each: one fails
  pub each_not : (n : ℕ) → each f n ≡ false → (i : ℕ) × FirstBad f n i
  unfolding each
  each_not n e = go (first_bad f n) refl e
    where
      go : (s : Option ℕ) → first_bad f n ≡ s → is_clear s ≡ false → (i : ℕ) × FirstBad f n i
      go None p q = both_ways refl q
      go (Some i) p q = (i, stopped_at n p)

-- each of one more
pub each_suc : (f : ℕ → Bool) (n : ℕ) → each f (suc n) ≡ (each f n && f n)
unfolding each first_bad
each_suc f n = go (first_bad f n) (f n)
  where
    go : (s : Option ℕ) (b : Bool) → is_clear (go_on s b n) ≡ (is_clear s && b)
    go None true = refl
    go None false = refl
    go (Some i) b = refl

-- two tests that agree below n stop at the same index
pub first_bad_same : (f g : ℕ → Bool) (n : ℕ) → ((i : ℕ) → i < n → f i ≡ g i) → first_bad f n ≡ first_bad g n
unfolding first_bad
first_bad_same f g zero h = refl
first_bad_same f g (suc n) h = rw (first_bad_same f g n (λ i l. h i (omega arith)), h n (omega arith))

-- what `find` finds over the numbers below n is where it stops
pub found_first : (f : ℕ → Bool) (n : ℕ) (r : Option ℕ)
    → MatchOption r ((k : ℕ) → 0 ≤ k → k < n → k < n → f k ≡ true)
    (λ i. (0 ≤ i) × (i < n) × (i < n → f i ≡ false) × ((k : ℕ) → 0 ≤ k → k < i → k < n → f k ≡ true)) → r ≡ first_bad f n
found_first f n None h = sym (each_clear f n (λ k l. h k (omega arith) l l))
found_first f n (Some i) h = sym (at_stopped f n (record { below = h.1; fails = h.2 h.1; before = λ k l. h.3 k (omega arith) l (omega (arith, h.1)) }))
