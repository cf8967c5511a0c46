-- The bits of a word: what the operations on words do at a place.
-- Assumes nothing.
use mathlib.Core.Path.{◌≡◌, refl, sym, ap, ap₂, ◌∙◌}
use mathlib.Core.Bool.{Bool, true, false, not, ◌&&◌, ◌||◌, xor, cond}
use Prim.Native.Nat.{ℕ, zero, suc, ◌+◌, ◌-◌, ◌*◌, ◌/◌, ◌%◌, ◌^◌, ◌≤◌, ◌<◌}
use native.Mathlib.Nat.{mod-lt, zero-lt-suc, mod-eq_of_lt, div-eq_of_lt, lt_of_lt_of_le, mod-one, div-one}
use native.Mathlib.Decide.{dec_lt}
use native.Mathlib.Numerals.{one-add}
use native.Mathlib.Omega.{arith}
use borrow.Author.Tests.{eq-eqb, ne_eqb}
use lib.Dec.{eqb}
use lib.Count.{ones, ones_cat, count_trailing_zeros, under}
use lib.Pow.{pow_pos, pow_mono, shr-shr, mod-pow-add, field, mod-mod-pow}
use lib.Bits.{bit_and, bit_or, bit_xor, and_shr, or_shr, xor_shr, and_mod, or_mod, xor_mod, and_mask, xor_add_and}
use Rattle.scans.specs.First.{first_bad, each}
use Rattle.scans.proofs.Bools.{both_ways}
use Rattle.scans.proofs.Search.{each_e}
use Rattle.meaning.specs.Guards.{bit_of}
use Rattle.meaning.specs.Answers.{tally}
use Rattle.meaning.proofs.Tallies.{Least}

abbrev set : ℕ → Bool
set d = eqb d 1

-- what holds of the digits 0 and 1 holds of every one
digit : (P : ℕ → Type 0) → P 0 → P 1 → (d : ℕ) → d < 2 → P d
digit P p q zero h = p
digit P p q (suc zero) h = q
digit P p q (suc (suc d)) h = absurd (omega arith)

digits : (P : ℕ → ℕ → Type 0) → P 0 0 → P 0 1 → P 1 0 → P 1 1 → (a b : ℕ) → a < 2 → b < 2 → P a b
digits P p q r s a b h l = digit (λ a. P a b) (digit (P 0) p q b l) (digit (P 1) r s b l) a h

-- an operation on words that is one on their digits, at a place
module _ (op : ℕ → ℕ → ℕ) (f : Bool → Bool → Bool)
    (shr : (a b k : ℕ) → op a b / 2 ^ k ≡ op (a / 2 ^ k) (b / 2 ^ k))
    (rem : (a b k : ℕ) → op a b % 2 ^ k ≡ op (a % 2 ^ k) (b % 2 ^ k))
    (one : (a b : ℕ) → a < 2 → b < 2 → set (op a b) ≡ f (set a) (set b)) where
  bit_op : (x y i : ℕ) → bit_of (op x y) i ≡ f (bit_of x i) (bit_of y i)
  unfolding bit_of
  bit_op x y i =
      ap (λ n. set (n % 2)) (shr x y i) ∙ ap set (rem (x / 2 ^ i) (y / 2 ^ i) 1)
      ∙ one (x / 2 ^ i % 2) (y / 2 ^ i % 2) (mod-lt (x / 2 ^ i) (zero-lt-suc 1)) (mod-lt (y / 2 ^ i) (zero-lt-suc 1))

pub bit_and_lem : (x y i : ℕ) → bit_of (bit_and x y) i ≡ bit_of x i && bit_of y i
bit_and_lem = bit_op bit_and ◌&&◌ and_shr and_mod (digits (λ a b. set (bit_and a b) ≡ set a && set b) refl refl refl refl)

pub bit_or_lem : (x y i : ℕ) → bit_of (bit_or x y) i ≡ (bit_of x i || bit_of y i)
bit_or_lem = bit_op bit_or ◌||◌ or_shr or_mod (digits (λ a b. set (bit_or a b) ≡ (set a || set b)) refl refl refl refl)

pub bit_xor_lem : (x y i : ℕ) → bit_of (bit_xor x y) i ≡ xor (bit_of x i) (bit_of y i)
unfolding xor
bit_xor_lem = bit_op bit_xor xor xor_shr xor_mod (digits (λ a b. set (bit_xor a b) ≡ xor (set a) (set b)) refl refl refl refl)

-- 0 has no bit
pub bit_zero : (i : ℕ) → bit_of 0 i ≡ false
unfolding bit_of
bit_zero i = rw (div-eq_of_lt (pow_pos i))

-- a word of k places has no bit past them
pub bit_past : (x k i : ℕ) → x < 2 ^ k → k ≤ i → bit_of x i ≡ false
unfolding bit_of
bit_past x k i h l = rw (div-eq_of_lt (lt_of_lt_of_le h (pow_mono l)))

-- every place is set: one test of the 64
pub bit_all : (i : ℕ) → i < 64 → bit_of (2 ^ 64 - 1) i ≡ true
unfolding first_bad each bit_of
bit_all = each_e (bit_of (2 ^ 64 - 1)) 64 tt

-- the complement of a word
pub bit_not : (x i : ℕ) → x < 2 ^ 64 → i < 64 → bit_of (2 ^ 64 - 1 - x) i ≡ not (bit_of x i)
unfolding xor
bit_not x i h l =
    let e : 2 ^ 64 - 1 - x ≡ bit_xor x (2 ^ 64 - 1) = omega (arith, xor_add_and x (2 ^ 64 - 1), and_mask x 64, mod-eq_of_lt h) in
    ap (λ n. bit_of n i) e ∙ bit_xor_lem x (2 ^ 64 - 1) i ∙ rw (bit_all i l) (other (bit_of x i))
  where
    other : (b : Bool) → xor b true ≡ not b
    other true = refl
    other false = refl

-- the bits of x / 2^k are those of x from k on
pub bit_high : (x k i : ℕ) → bit_of (x / 2 ^ k) i ≡ bit_of x (k + i)
unfolding bit_of
bit_high x k i = rw (shr-shr x k i)

-- those of x % 2^k are those of x below k
pub bit_low : (x k i : ℕ) → i < k → bit_of (x % 2 ^ k) i ≡ bit_of x i
unfolding bit_of
bit_low x k i h =
    let j : ℕ = k - (i + 1) in
    let e : k ≡ (j + 1) + i = omega arith in
    ap (λ n. set (x % 2 ^ n / 2 ^ i % 2)) e ∙ ap (λ n. set (n % 2)) (field x (j + 1) i) ∙ ap set (mod-mod-pow (x / 2 ^ i) j 1)

-- a bit as the code looks at it, `(x >> i) & 1 == 1`
pub bit_set : (x i : ℕ) → bit_and (x / 2 ^ i) 1 ≡ 1 → bit_of x i ≡ true
unfolding bit_of
bit_set x i e = eq-eqb _ 1 (sym (and_mask (x / 2 ^ i) 1) ∙ e)

pub bit_clear : (x i : ℕ) → (bit_and (x / 2 ^ i) 1 ≡ 1 → ⊥) → bit_of x i ≡ false
unfolding bit_of
bit_clear x i h = ne_eqb _ 1 (λ e. h (and_mask (x / 2 ^ i) 1 ∙ e))

-- case 64 g + i: variables 0 to 5 are the bits of i, the others those of g
module _ (g i : ℕ) (h : i < 64) where
  pub bit_in_place : (v : ℕ) → v < 6 → bit_of (64 * g + i) v ≡ bit_of i v
  bit_in_place v l = let e : (64 * g + i) % 64 ≡ i = omega arith in sym (bit_low (64 * g + i) 6 v l) ∙ ap (λ n. bit_of n v) e

  pub bit_in_group : (v : ℕ) → 6 ≤ v → bit_of (64 * g + i) v ≡ bit_of g (v - 6)
  bit_in_group v l =
      let e : (64 * g + i) / 64 ≡ g = omega arith in
      let w : v ≡ 6 + (v - 6) = omega arith in
      ap (bit_of (64 * g + i)) w ∙ sym (bit_high (64 * g + i) 6 (v - 6)) ∙ ap (λ n. bit_of n (v - 6)) e

-- how many places are set
ones_low : (k x : ℕ) → ones (x % 2 ^ k) ≡ tally (bit_of x) k
unfolding tally bit_of ones
ones_low zero x = ap ones (mod-one x)
ones_low (suc k) x =
    ap (λ n. ones (x % 2 ^ n)) (sym (one-add k)) ∙ ap ones (mod-pow-add x 1 k)
    ∙ ones_cat k (x / 2 ^ k % 2) (x % 2 ^ k) (mod-lt x (pow_pos k))
    ∙ omega (arith, ones_low k x, digit (λ d. ones d ≡ cond (set d) 1 0) refl refl (x / 2 ^ k % 2) (mod-lt (x / 2 ^ k) (zero-lt-suc 1)))

pub ones_tally : (k x : ℕ) → x < 2 ^ k → ones x ≡ tally (bit_of x) k
ones_tally k x h = ap ones (sym (mod-eq_of_lt h)) ∙ ones_low k x

-- a word with no place below k set is 0 there
none_set : (k x : ℕ) → ((i : ℕ) → i < k → bit_of x i ≡ false) → x % 2 ^ k ≡ 0
unfolding bit_of
none_set zero x h = mod-one x
none_set (suc k) x h =
    ap (λ n. x % 2 ^ n) (sym (one-add k)) ∙ mod-pow-add x 1 k
    ∙ ap₂ (λ a b. a * 2 ^ k + b)
    (digit (λ d. set d ≡ false → d ≡ 0) (λ e. refl) (λ e. both_ways refl e) (x / 2 ^ k % 2) (mod-lt (x / 2 ^ k) (zero-lt-suc 1)) (h k (omega arith)))
    (none_set k x (λ i l. h i (omega arith)))
    ∙ omega arith

-- the lowest bit, and the others as those of the half
bit_first : (x d : ℕ) → x % 2 ≡ d → bit_of x 0 ≡ set d
unfolding bit_of
bit_first x d e = rw (div-one x, e)

bit_next : (x i : ℕ) → bit_of x (suc i) ≡ bit_of (x / 2) i
bit_next x i = ap (bit_of x) (sym (one-add i)) ∙ sym (bit_high x 1 i)

-- the places before i are not set, and place i is, if it is below k
record Trailing (k x i : ℕ) : Type 0 where
  before : (j : ℕ) → j < i → bit_of x j ≡ false
  here : i < k → bit_of x i ≡ true

trailing : (k x : ℕ) → Trailing k x (count_trailing_zeros k x)
unfolding count_trailing_zeros
trailing zero x = record { before = λ j h. absurd (omega arith); here = λ h. absurd (omega arith) }
trailing (suc k) x = go (x % 2) (mod-lt x (zero-lt-suc 1)) refl (trailing k (x / 2))
  where
    go : (d : ℕ) → d < 2 → x % 2 ≡ d → Trailing k (x / 2) (count_trailing_zeros k (x / 2)) → Trailing (suc k) x (under d (count_trailing_zeros k (x / 2)))
    go zero l e t = record { before = later; here = λ h. bit_next x _ ∙ t.here (omega arith) }
      where
        later : (j : ℕ) → j < suc (count_trailing_zeros k (x / 2)) → bit_of x j ≡ false
        later zero h = bit_first x 0 e
        later (suc j) h = bit_next x j ∙ t.before j (omega arith)
    go (suc zero) l e t = record { before = λ j h. absurd (omega arith); here = λ h. bit_first x 1 e }
    go (suc (suc d)) l e t = absurd (omega arith)

-- a word that is not 0 has a least place
pub trailing_least : (k x : ℕ) → x < 2 ^ k → (x ≡ 0 → ⊥) → Least (bit_of x) k (count_trailing_zeros k x)
trailing_least k x h n = go (dec_lt (count_trailing_zeros k x) k)
  where
    t : Trailing k x (count_trailing_zeros k x)
    t = trailing k x

    go : Dec (count_trailing_zeros k x < k) → Least (bit_of x) k (count_trailing_zeros k x)
    go (yes l) = record { below = l; here = t.here l; before = t.before }
    go (no l) = absurd (n (sym (mod-eq_of_lt h) ∙ none_set k x (λ i g. t.before i (omega arith))))

-- 0 has no place set, and any other word has one
pub zero_none : {x : ℕ} → x ≡ 0 → (i : ℕ) → bit_of x i ≡ false
zero_none e i = rw e (bit_zero i)

pub some_bit : {x : ℕ} → x < 2 ^ 64 → (x ≡ 0 → ⊥) → (i : ℕ) × (i < 64) × (bit_of x i ≡ true)
some_bit {x} h n = let l = trailing_least 64 x h n in (count_trailing_zeros 64 x, l.below, l.here)
