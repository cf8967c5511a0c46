-- Searches: the first place at which a test passes.
-- Assumes nothing.
use Rattle.std.proofs.Common.{◌≡◌, refl, sym, ap, Option, None, Some, Bool, true, false, not, ℕ, suc, ◌<◌, ◌≤◌, List, length, take, get_or, MatchOption, arith}
use Rattle.std.specs.List.{AllWithin, HoldsAt}
use Rattle.std.proofs.lemmas.List.{get_or-take, length-take-le}
use Rattle.std.specs.Option.{is_none}
use Rattle.scans.specs.First.{go_on, first_bad, is_clear, each, place_in, place_at, first_place}
use Rattle.scans.proofs.Places.{found_at, at_found}
use Rattle.scans.proofs.Bools.{both_ways}
use Rattle.scans.proofs.Search.{stopped_at, at_stopped, each_clear}
use Rattle.meaning.specs.Values.{collides}
use Rattle.cases.specs.declared.values.Value.{Value}
use Rattle.cases.specs.Cells.{cell_of, cell_in}

collides_none : (c : Option Value) (b : Bool) → is_none c ≡ b → not (collides (cell_of c)) ≡ not b
collides_none None b e = ap not e
collides_none (Some v) b e = ap not e

-- what a search among the first n cells for one with no value gives
module _ (row : List (Option Value)) (n : ℕ) (h : n ≤ length row) where
  abbrev front : List (Option Value)
  front = take n row

  at : (b : Bool) (k : ℕ) → k < n → is_none (get_or front k None) ≡ b → not (collides (cell_in row k)) ≡ not b
  at b k l e = collides_none _ b (rw (get_or-take n row k None l) at e)

  pub first_collided : (r : Option ℕ) → MatchOption r (AllWithin (λ c. is_none c ≡ false) (take n row) 0 (length (take n row)))
      (λ i. (i < length (take n row)) × HoldsAt (λ c. is_none c ≡ true) (take n row) i × AllWithin (λ c. is_none c ≡ false) (take n row) 0 i)
      → r ≡ first_bad (λ m. not (collides (cell_in row m))) n
  first_collided None f = sym (each_clear _ n (λ m l. at false m l (f m None (omega arith) (omega (arith, length-take-le n row h)))))
  first_collided (Some i) f =
      let l : i < n = omega (arith, f.0, length-take-le n row h) in
      sym (at_stopped _ n (record { below = l; fails = at true i l (f.1 None); before = λ k g. at false k (omega arith) (f.2 k None (omega arith) g) }))

-- an earlier place comes first
abbrev pub first_of : Option (ℕ × ℕ) → Option (ℕ × ℕ) → Option (ℕ × ℕ)
first_of None later = later
first_of (Some p) later = Some p

module _ (f : ℕ → ℕ → Bool) (n : ℕ) where
  -- one time more
  pub place_suc : (t : ℕ) → first_place f (suc t) n ≡ first_of (first_place f t n) (place_in t (first_bad (f t) n))
  unfolding first_place first_bad each
  place_suc t = go (first_bad (λ u. each (f u) n) t) refl (first_bad (f t) n) refl
    where
      goal : Option ℕ → Option ℕ → Type 0
      goal s b = place_at f n (go_on s (is_clear b) t) ≡ first_of (place_at f n s) (place_in t b)

      go : (s : Option ℕ) → first_bad (λ u. each (f u) n) t ≡ s → (b : Option ℕ) → first_bad (f t) n ≡ b → goal s b
      go None e None q = refl
      go None e (Some m) q = rw q
      go (Some u) e b q = row (first_bad (f u) n) refl
        where
          row : (r : Option ℕ) → first_bad (f u) n ≡ r → place_in u (first_bad (f u) n) ≡ first_of (place_in u (first_bad (f u) n)) (place_in t b)
          row None w = both_ways (rw w) (stopped_at (λ u. each (f u) n) t e).fails
          row (Some m) w = rw w

  -- nor does a longer search find another
  pub place_stays : {t m : ℕ} (few many : ℕ) → few ≤ many → first_place f few n ≡ Some (t, m) → first_place f many n ≡ Some (t, m)
  place_stays few many h e =
      let r = found_at f few n e in
      at_found f many n (record { in_time = omega (arith, r.in_time); in_row = r.in_row; fails = r.fails; earlier = r.earlier; lower = r.lower })
