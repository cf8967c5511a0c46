-- A list given by a function of the place: its elements; and a loop that writes one from the front, the elements past it staying as they were.
-- Assumes nothing.
use mathlib.Core.Path.{◌≡◌, refl, sym, ◌∙◌, ap}
use mathlib.Core.List.{List, [], ◌∷◌, ◌++◌}
use Prim.Native.Nat.{ℕ, zero, suc, ◌+◌, ◌≤◌, ◌<◌}
use native.Mathlib.Decide.{dec_lt}
use native.Mathlib.Numerals.{add-one}
use native.Mathlib.Omega.{arith}
use borrow.Author.Rules.{rules}
use lib.ListN.{length, get_or, drop, set, length-append, length-set, get_or-append, get_or-eq_default}
use lib.Seq.{get_or_at, ext_get_or, drop-cons, set_at, append_snoc}
use Rattle.scans.specs.Lists.{list_of}

-- a list of n elements
pub length_list_of : (f : ℕ → ℕ) (n : ℕ) → length (list_of f n) ≡ n
unfolding list_of
length_list_of f zero = refl
length_list_of f (suc n) = rw (length-append, length_list_of f n) (omega arith)

-- element i is f i
pub list_of_at : (f : ℕ → ℕ) (n i : ℕ) → i < n → get_or (list_of f n) i 0 ≡ f i
unfolding list_of
list_of_at f zero i h = absurd (omega arith)
list_of_at f (suc n) i h = go (dec_lt i n) (list_of_at f n i)
  where
    go : Dec (i < n) → (i < n → get_or (list_of f n) i 0 ≡ f i) → get_or (list_of f n ++ f n ∷ []) i 0 ≡ f i
    go (yes l) ih = get_or-append (list_of f n) (f n ∷ []) 0 i (omega (arith, length_list_of f n)) ∙ ih l
    go (no l) ih = let e : i ≡ n = omega arith in rw e (get_or_at (list_of f n) (f n) [] 0 n (length_list_of f n))

-- past the end it is 0
pub list_of_past : (f : ℕ → ℕ) (n i : ℕ) → n ≤ i → get_or (list_of f n) i 0 ≡ 0
list_of_past f n i h = get_or-eq_default (list_of f n) 0 (omega (arith, length_list_of f n))

-- a list whose elements f gives is the list of f
pub list_of_is : (f : ℕ → ℕ) (s : List ℕ) → ((i : ℕ) → i < length s → get_or s i 0 ≡ f i) → s ≡ list_of f (length s)
list_of_is f s h = ext_get_or 0 s (list_of f (length s)) (sym (length_list_of f (length s))) (λ i l. h i l ∙ sym (list_of_at f (length s) i l))

-- the first i elements are f's, the others those of d₀
pub record Filled (f : ℕ → ℕ) (d₀ d : List ℕ) (i : ℕ) : Type 0 where
  pub size : length d ≡ length d₀
  pub is : d ≡ list_of f i ++ drop i d₀

pub filled_none : (f : ℕ → ℕ) (d : List ℕ) → Filled f d d 0
unfolding list_of
filled_none f d = record { size = refl; is = refl }

pub filled_more : {f : ℕ → ℕ} {d₀ d : List ℕ} {i n v : ℕ} → Filled f d₀ d i → v ≡ f i → i < n → n ≤ length d₀ → Filled f d₀ (set d i v) (i + 1)
unfolding list_of
filled_more {f} {d₀} {d} {i} {n} {v} p e l h =
    record {
      size = length-set d i v ∙ p.size;
      is = ap (λ x. set x i v) (p.is ∙ ap (λ x. list_of f i ++ x) (drop-cons d₀ i 0 (omega arith)))
          ∙ set_at (list_of f i) (get_or d₀ i 0) (drop (suc i) d₀) v i (length_list_of f i)
          ∙ rw (add-one, e) (sym (append_snoc (list_of f i) (f i) (drop (suc i) d₀)));
    }

pub filled_length : {f : ℕ → ℕ} {d₀ d : List ℕ} {i n : ℕ} → Filled f d₀ d i → i < n → n ≤ length d₀ → i < length d
filled_length p l h = omega (arith, p.size)

pub filled_all : {f : ℕ → ℕ} {d₀ d : List ℕ} {i n : ℕ} → Filled f d₀ d i → i ≤ n → n ≤ i → d ≡ list_of f n ++ drop n d₀
filled_all {i = i} {n} p l h = let e : i ≡ n = omega arith in rw e at p.is

pub filled_size : {f : ℕ → ℕ} {d₀ d : List ℕ} {i : ℕ} → Filled f d₀ d i → length d ≡ length d₀
filled_size p = p.size

pub ruleset filling = (rules, filled_none, filled_more, filled_length, filled_all, filled_size)
