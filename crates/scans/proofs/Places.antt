-- The first place over times and nodes: what it is, and that there is one only.
-- Assumes nothing.
use Rattle.std.specs.Prelude.{Option, None, Some}
use mathlib.Core.Path.{◌≡◌, refl, sym, ap}
use mathlib.Core.Bool.{Bool, true, false}
use Prim.Native.Nat.{ℕ, ◌<◌}
use Rattle.scans.specs.First.{first_bad, each, place_in, place_at, first_place, FirstBad, FirstPlace}
use Rattle.scans.proofs.Bools.{both_ways, is_true, of_true, is_false}
use Rattle.scans.proofs.Search.{clear_each, each_clear, stopped_at, at_stopped, each_e, each_i, each_not, none_some}

-- places that are found the same have the same time and node
pub some_pair : {t n t' n' : ℕ} → ◌≡◌ {A = Option (ℕ × ℕ)} (Some (t, n)) (Some (t', n')) → (t ≡ t') × (n ≡ n')
some_pair {t} {n} {t'} {n'} e = let p : ◌≡◌ {A = ℕ × ℕ} (t, n) (t', n') = cc in (ap (λ (x : ℕ × ℕ). x.0) p, ap (λ (x : ℕ × ℕ). x.1) p)

module _ (f : ℕ → ℕ → Bool) (times nodes : ℕ) where
  abbrev clean : ℕ → Bool
  clean t = each (f t) nodes

  -- a row that is not clean has a lowest node that fails
  lowest : (t : ℕ) → clean t ≡ false → (n : ℕ) × FirstBad (f t) nodes n
  lowest t = each_not (f t) nodes

  pub nowhere_each : first_place f times nodes ≡ None → (t n : ℕ) → t < times → n < nodes → f t n ≡ true
  unfolding first_place
  nowhere_each e t n h l = go (first_bad clean times) refl e
    where
      go : (s : Option ℕ) → first_bad clean times ≡ s → place_at f nodes s ≡ None → f t n ≡ true
      go None p q = each_e (f t) nodes (of_true _ (clear_each clean times p t h)) n l
      go (Some u) p q =
          let m = lowest u (stopped_at clean times p).fails in
          none_some (sym (rw (at_stopped (f u) nodes m.1) at q))

  pub each_nowhere : ((t n : ℕ) → t < times → n < nodes → f t n ≡ true) → first_place f times nodes ≡ None
  unfolding first_place
  each_nowhere h = rw (each_clear clean times (λ t l. is_true _ (each_i (f t) nodes (λ n. h t n l))))

  pub found_at : {t n : ℕ} → first_place f times nodes ≡ Some (t, n) → FirstPlace f times nodes t n
  unfolding first_place
  found_at {t} {n} e = go (first_bad clean times) refl e
    where
      row : (u : ℕ) → FirstBad clean times u → (s : Option ℕ) → first_bad (f u) nodes ≡ s → place_in u s ≡ Some (t, n) → FirstPlace f times nodes t n
      row u r None p q = none_some q
      row u r (Some m) p q =
          let s = stopped_at (f u) nodes p in
          let w : u ≡ t = (some_pair q).0 in
          let v : m ≡ n = (some_pair q).1 in
          let here : FirstPlace f times nodes u m =
          record {
            in_time = r.below;
            in_row = s.below;
            fails = s.fails;
            earlier = λ t' n' l. each_e (f t') nodes (of_true _ (r.before t' l)) n';
            lower = s.before;
          } in
          rw (w, v) at here

      go : (s : Option ℕ) → first_bad clean times ≡ s → place_at f nodes s ≡ Some (t, n) → FirstPlace f times nodes t n
      go None p q = none_some q
      go (Some u) p q = row u (stopped_at clean times p) (first_bad (f u) nodes) refl q

  pub at_found : {t n : ℕ} → FirstPlace f times nodes t n → first_place f times nodes ≡ Some (t, n)
  unfolding first_place
  at_found {t} {n} r =
      let row : first_bad (f t) nodes ≡ Some n = at_stopped (f t) nodes (record { below = r.in_row; fails = r.fails; before = r.lower }) in
      let bad : clean t ≡ false = is_false _ (λ c. both_ways (each_e (f t) nodes c n r.in_row) r.fails) in
      let time : first_bad clean times ≡ Some t =
      at_stopped clean times (record { below = r.in_time; fails = bad; before = λ u l. is_true _ (each_i (f u) nodes (λ m. r.earlier u m l)) }) in
      rw (time, row)
