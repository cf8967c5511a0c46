-- An answer fits ten numbers of four bytes: its word says how many numbers it has, and each is below 2^32.
-- A table of refusals goes stage by stage; what its last answer has is asked only where every test is passed.
-- Assumes nothing.
use Rattle.std.specs.Prelude.{Option, None, Some}
use mathlib.Core.Path.{◌≡◌, refl}
use mathlib.Core.Bool.{Bool, true, false}
use mathlib.Core.List.{List, [], ◌∷◌}
use Prim.Native.Nat.{ℕ, zero, suc, ◌≤◌, ◌<◌}
use native.Mathlib.Omega.{arith}
use lib.ListN.{length, get_or}
use Rattle.scans.specs.First.{first_bad}
use Rattle.scans.specs.Refusals.{Stage, whole, unless_at, in_order}
use Rattle.scans.proofs.Search.{stopped_at}
use Rattle.meaning.specs.Stated.{Word, DONE, REFUSED, PASSES, EMPTY, FAILS, HOLDS, VACANT, Stated}
use Rattle.stored.specs.Reading.{refused}

-- how many numbers each word has; for DONE and FAILS the operation decides
abbrev pub number_count : ℕ → ℕ → Word → ℕ
number_count done fails DONE = done
number_count done fails REFUSED = 3
number_count done fails PASSES = 0
number_count done fails EMPTY = 2
number_count done fails FAILS = fails
number_count done fails HOLDS = 4
number_count done fails VACANT = 7

pub count_most : (done fails : ℕ) → done ≤ 9 → fails ≤ 9 → (w : Word) → number_count done fails w ≤ 9
count_most done fails d f DONE = d
count_most done fails d f REFUSED = omega arith
count_most done fails d f PASSES = omega arith
count_most done fails d f EMPTY = omega arith
count_most done fails d f FAILS = f
count_most done fails d f HOLDS = omega arith
count_most done fails d f VACANT = omega arith

-- each number is below 2^32
abbrev pub Small : List ℕ → Type 0
Small [] = Unit {0}
Small (n ∷ ns) = (n < 4294967296) × Small ns

pub small_at : (ns : List ℕ) → Small ns → (i : ℕ) → get_or ns i 0 < 4294967296
small_at [] s i = omega arith
small_at (n ∷ ns) s zero = s.0
small_at (n ∷ ns) s (suc i) = small_at ns s.1 i

pub record Fits (done fails : ℕ) (a : Stated) : Type 0 where
  pub counted : length a.numbers ≡ number_count done fails a.word
  pub small : Small a.numbers

module _ (done fails : ℕ) where
  refused_fits : (m b l : ℕ) → m < 4294967296 → b < 4294967296 → l < 4294967296 → Fits done fails (refused m b l)
  refused_fits m b l p q r = record { counted = refl; small = omega arith }

  -- what a table refuses fits; what comes after it is to fit where the table lets `last` pass
  pub record Within (stages : List Stage) (last : Stated) : Type 0 where
    pub fits : (next : Stated) → (in_order refused stages last ≡ last → Fits done fails next) → Fits done fails (in_order refused stages next)

  pub within_none : (last : Stated) → Within [] last
  unfolding in_order
  within_none last = record { fits = λ next h. h refl }

  pub within_stage : (st : Stage) {rest : List Stage} {last : Stated} → st.number < 4294967296 → ((i : ℕ) → i < st.count → (st.block i < 4294967296) × (st.slot i < 4294967296)) → Within rest last → Within (st ∷ rest) last
  unfolding in_order unless_at
  within_stage st {rest} {last} m places w = record { fits = λ next h. go next h (first_bad st.ok st.count) refl }
    where
      go : (next : Stated) → (in_order refused (st ∷ rest) last ≡ last → Fits done fails next) → (x : Option ℕ) → first_bad st.ok st.count ≡ x → Fits done fails (in_order refused (st ∷ rest) next)
      go next h None p = rw p (w.fits next (λ e. h (rw p e)))
      go next h (Some i) p = let at = places i (stopped_at st.ok st.count p).below in rw p (refused_fits st.number (st.block i) (st.slot i) m at.0 at.1)

  pub within_whole : (number : ℕ) (x : Bool) {rest : List Stage} {last : Stated} → number < 4294967296 → (x ≡ true → Within rest last) → Within (whole number x ∷ rest) last
  unfolding in_order unless_at first_bad
  within_whole number true m w = record { fits = λ next h. (w refl).fits next h }
  within_whole number false m w = record { fits = λ next h. refused_fits number 0 0 m (omega arith) (omega arith) }

  -- no test, and one test more, before what fits
  pub end_fits : {next : Stated} → Fits done fails next → Fits done fails (in_order refused [] next)
  unfolding in_order
  end_fits f = f

  pub test_fits : (number : ℕ) (x : Bool) (rest : List Stage) (next : Stated) → number < 4294967296 → Fits done fails (in_order refused rest next) → Fits done fails (in_order refused (whole number x ∷ rest) next)
  unfolding in_order unless_at first_bad
  test_fits number true rest next m f = f
  test_fits number false rest next m f = refused_fits number 0 0 m (omega arith) (omega arith)
