-- One more group: the count goes on, and the least case stays or is found in it.
-- Assumes nothing.
use Rattle.std.proofs.Common.{◌≡◌, refl, sym, ◌∙◌, ap, subst, Bool, true, false, not, ◌&&◌, Option, Some, None, MatchOption, ℕ, ◌+◌, ◌*◌, ◌-◌, ◌^◌, ◌≤◌, ◌<◌, min, bit_and, arith}
use Rattle.std.specs.Int.{div_ceil}
use Rattle.std.specs.Option.{option_or}
use native.Mathlib.Decide.{dec_lt}
use borrow.Author.Tests.{lt-ltb, le-ltb, ltb-true}
use lib.Dec.{ltb}
use lib.Pow.{pow-add, pow_mono}
use Rattle.scans.specs.First.{first_bad}
use Rattle.scans.proofs.Bools.{left_true, right_true}
use Rattle.scans.proofs.Search.{clear_each, each_clear, stopped_at, at_stopped}
use Rattle.meaning.specs.Guards.{bit_of}
use Rattle.meaning.specs.Answers.{tally}
use Rattle.meaning.proofs.Tallies.{tally_le, none_tally, tally_same, tally_split, Least}
use Rattle.words.specs.Places.{UsedPlaces}
use Rattle.words.proofs.Bits.{bit_and_lem, zero_none}
use Rattle.tallies.specs.declared.Found.{Found}
use Rattle.tallies.specs.Counting.{FoundIn, Covers}

module _ (f : ℕ → Bool) (cases g w : ℕ) (h : 64 * g < cases) (c : Covers f cases g w) where
  abbrev end : ℕ
  end = min (64 * (g + 1)) cases

  abbrev fails : ℕ → Bool
  fails x = not (f x)

  -- a place within the cases says what the test says
  in_cases : (i : ℕ) → i < 64 → 64 * g + i < cases → bit_of w i ≡ f (64 * g + i)
  in_cases i l k = c.at i l ∙ ap (λ b. b && f (64 * g + i)) (lt-ltb (64 * g + i) cases k)

  past_cases : (i : ℕ) → i < 64 → cases ≤ 64 * g + i → bit_of w i ≡ false
  past_cases i l k = c.at i l ∙ ap (λ b. b && f (64 * g + i)) (le-ltb (64 * g + i) cases k)

  count_more : (m : ℕ) → m ≡ tally f (64 * g) → m + tally (bit_of w) 64 ≡ tally f end
  count_more m e =
      let width : ℕ = end - 64 * g in
      let a : end ≡ 64 * g + width = omega arith in
      let b : 64 ≡ width + (64 - width) = omega arith in
      let here : tally (bit_of w) width ≡ tally (λ i. f (64 * g + i)) width = tally_same _ _ width (λ i l. in_cases i (omega arith) (omega arith)) in
      let rest : tally (λ i. bit_of w (width + i)) (64 - width) ≡ 0 = none_tally _ (64 - width) (λ i l. past_cases (width + i) (omega arith) (omega arith)) in
      let split : tally (bit_of w) 64 ≡ tally (bit_of w) width + tally (λ i. bit_of w (width + i)) (64 - width) = ap (tally (bit_of w)) b ∙ tally_split (bit_of w) width (64 - width) in
      let whole : tally f end ≡ tally f (64 * g) + tally (λ i. f (64 * g + i)) width = ap (tally f) a ∙ tally_split f (64 * g) width in
      omega (arith, e, here, rest, split, whole)

  -- a case of this group, where there was none before
  in_group : (limit : ℕ) → limit ≤ 64 → 64 * g + limit ≤ cases → ((i : ℕ) → i < 64 * g → fails i ≡ true) → ((i : ℕ) → i < limit → bit_of w i ≡ false) → (i : ℕ) → i < 64 * g + limit → Dec (i < 64 * g) → fails i ≡ true
  in_group limit a b before none i l (yes k) = before i k
  in_group limit a b before none i l (no k) =
      let e : 64 * g + (i - 64 * g) ≡ i = omega arith in
      subst (λ y. fails y ≡ true) e (ap not (sym (in_cases (i - 64 * g) (omega arith) (omega arith)) ∙ none (i - 64 * g) (omega arith)))

  -- the least case stays where there is one; else it is that of this group, if any
  least_more : (old new : Option ℕ) → first_bad fails (64 * g) ≡ old → MatchOption new (w ≡ 0) (λ x. (64 * g ≤ x) × Least (bit_of w) 64 (x - 64 * g)) → option_or old new ≡ first_bad fails end
  least_more (Some x) new e q =
      let r = stopped_at fails (64 * g) e in
      sym (at_stopped fails end (record { below = omega (arith, r.below); fails = r.fails; before = r.before }))
  least_more None None e q =
      let a : 64 * g + (end - 64 * g) ≡ end = omega arith in
      sym (each_clear fails end (λ i l. in_group (end - 64 * g) (omega arith) (omega arith) (clear_each fails (64 * g) e) (λ i l. zero_none q i) i (omega arith) (dec_lt i (64 * g))))
  least_more None (Some x) e q =
      let p : ℕ = x - 64 * g in
      let a : 64 * g + p ≡ x = omega (arith, q.0) in
      let both : ltb (64 * g + p) cases && f (64 * g + p) ≡ true = sym (c.at p q.1.below) ∙ q.1.here in
      let inside : 64 * g + p < cases = ltb-true _ _ (left_true (ltb (64 * g + p) cases) (f (64 * g + p)) both) in
      sym (at_stopped fails end (record {
        below = omega (arith, q.1.below);
        fails = subst (λ y. fails y ≡ false) a (ap not (right_true (ltb (64 * g + p) cases) (f (64 * g + p)) both));
        before = λ i l. in_group p (omega (arith, q.1.below)) (omega arith) (clear_each fails (64 * g) e) q.1.before i (omega arith) (dec_lt i (64 * g));
      }))

  pub found_more : {r : Found} {n : ℕ} (new : Option ℕ) → FoundIn f (64 * g) r → n ≡ tally (bit_of w) 64 → MatchOption new (w ≡ 0) (λ x. (64 * g ≤ x) × Least (bit_of w) 64 (x - 64 * g))
      → FoundIn f end (record { count = r.count + n; least = option_or r.least new })
  found_more {r} {n} new d e q =
      record {
        count_is = ap (λ m. r.count + m) e ∙ count_more r.count d.count_is;
        least_is = least_more r.least new (sym d.least_is) q;
      }

-- how many groups the cases of k variables are
pub record Groups (k n : ℕ) : Type 0 where
  pub few : n ≤ 64
  pub all : 2 ^ k ≤ 64 * n
  pub within : (g : ℕ) → g < n → 64 * g < 2 ^ k

pub groups_are : {k n cases : ℕ} → k ≤ 12 → cases ≡ 2 ^ k → n ≡ div_ceil cases 64 → Groups k n
groups_are {k} h q e = let most = pow_mono {i = k} {j = 12} h in record { few = omega (arith, e, q, most); all = omega (arith, e, q, most); within = λ g l. omega (arith, e, q, most) }

-- where a place stands for a case at all, it does so in every group
place_case : (k g i : ℕ) → i < 64 → 64 * g < 2 ^ k → ltb i (2 ^ k) ≡ ltb (64 * g + i) (2 ^ k)
place_case k g i l h = go (dec_lt k 6)
  where
    go : Dec (k < 6) → ltb i (2 ^ k) ≡ ltb (64 * g + i) (2 ^ k)
    go (yes b) = let e : 64 * g + i ≡ i = omega (arith, pow_mono {i = k} {j = 5} (omega arith)) in ap (λ y. ltb y (2 ^ k)) (sym e)
    go (no b) =
        let d : k ≡ (k - 6) + 6 = omega arith in
        let q : 2 ^ k ≡ 2 ^ (k - 6) * 64 = ap (λ y. 2 ^ y) d ∙ pow-add 2 (k - 6) 6 in
        lt-ltb i (2 ^ k) (omega arith) ∙ sym (lt-ltb (64 * g + i) (2 ^ k) (omega arith))

module _ (f : ℕ → Bool) where
  -- a group's word, its unused places masked
  pub covers : (k g w : ℕ) {used : ℕ} → 64 * g < 2 ^ k → ((i : ℕ) → i < 64 → bit_of w i ≡ f (64 * g + i)) → UsedPlaces k used → Covers f (2 ^ k) g (bit_and w used)
  covers k g w {used} h here u =
      record {
        at = λ i l. bit_and_lem w used i ∙ rw (here i l, u.at i l, place_case k g i l h) (swap (f (64 * g + i)) (ltb (64 * g + i) (2 ^ k)));
      }
    where
      swap : (a b : Bool) → a && b ≡ b && a
      swap true true = refl
      swap true false = refl
      swap false true = refl
      swap false false = refl

  pub found_start : (cases : ℕ) {r : Found} → (r.count ≡ 0) × (r.least ≡ None) → FoundIn f (min (64 * 0) cases) r
  unfolding tally first_bad
  found_start cases e = let none : min (64 * 0) cases ≡ 0 = omega arith in rw none (record { count_is = e.0; least_is = e.1 })

  module _ (cases g : ℕ) {r : Found} (d : FoundIn f (min (64 * g) cases) r) where
    pub found_so_far : 64 * g < cases → FoundIn f (64 * g) r
    found_so_far h = let e : min (64 * g) cases ≡ 64 * g = omega arith in subst (λ m. FoundIn f m r) e d

    pub found_all : cases ≤ 64 * g → FoundIn f cases r
    found_all h = let e : min (64 * g) cases ≡ cases = omega arith in subst (λ m. FoundIn f m r) e d

  -- what is found says whether a case passes at all, and which is the least
  module _ {m : ℕ} {r : Found} (d : FoundIn f m r) where
    pub found_small : r.count ≤ m
    found_small = omega (arith, d.count_is, tally_le f m)
