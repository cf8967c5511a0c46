-- Two exchanged words of a block leave its sum as it was.
-- What two sums differ by stays while their words agree: it is nothing before the first of the two words, the difference of the two between them, and nothing after the second.
-- Assumes nothing.
use mathlib.Core.Path.{◌≡◌, refl, ap}
use mathlib.Core.Logic.{◌≢◌}
use mathlib.Core.List.{List}
use native.Mathlib.Decide.{dec_lt}
use native.Mathlib.Omega.{arith}
use Prim.Native.Nat.{ℕ, zero, suc, ◌+◌, ◌%◌, ◌≤◌, ◌<◌}
use lib.Dec.{eqb}
use Rattle.stored.specs.Bytes.{word_of, word_sum, block_from}
use Rattle.stored.specs.Reading.{sum_ok}

-- the first n words of g are those of f, with words i and k exchanged
pub record Exchanged (f g : ℕ → ℕ) (n i k : ℕ) : Type 0 where
  pub i_below : i < n
  pub k_below : k < n
  pub at_i : word_of g i ≡ word_of f k
  pub at_k : word_of g k ≡ word_of f i
  pub elsewhere : (m : ℕ) → m < n → m ≢ i → m ≢ k → word_of g m ≡ word_of f m

module _ (f g : ℕ → ℕ) where
  -- what the sums differ by at word a they differ by at word n, where the words from a on agree
  sums_carry : (a n x y : ℕ) → a ≤ n → word_sum g a + x ≡ word_sum f a + y → ((m : ℕ) → a ≤ m → m < n → word_of g m ≡ word_of f m) → word_sum g n + x ≡ word_sum f n + y
  unfolding word_sum
  sums_carry a zero x y h e same = let z : a ≡ 0 = omega arith in rw z at e
  sums_carry a (suc n) x y h e same = go (dec_lt n a) (sums_carry a n x y)
    where
      go : Dec (n < a) → (a ≤ n → word_sum g a + x ≡ word_sum f a + y → ((m : ℕ) → a ≤ m → m < n → word_of g m ≡ word_of f m) → word_sum g n + x ≡ word_sum f n + y) → word_sum g (suc n) + x ≡ word_sum f (suc n) + y
      go (yes l) ih = let z : a ≡ suc n = omega arith in rw z at e
      go (no l) ih = omega (arith, ih (omega arith) e (λ m p q. same m p (omega arith)), same n (omega arith) (omega arith))

  -- i is the first of the two, or both are one
  ordered : {n i k : ℕ} → i ≤ k → Exchanged f g n i k → word_sum g n ≡ word_sum f n
  unfolding word_sum
  ordered {n} {i} {k} h x = let after = sums_carry (suc k) n 0 0 x.k_below (past_both (dec_lt i k)) (λ m p q. x.elsewhere m q (omega arith) (omega arith)) in omega arith
    where
      before : word_sum g i + 0 ≡ word_sum f i + 0
      before = sums_carry 0 i 0 0 (omega arith) refl (λ m p q. x.elsewhere m (omega arith) (omega arith) (omega arith))

      past_both : Dec (i < k) → word_sum g (suc k) + 0 ≡ word_sum f (suc k) + 0
      past_both (yes l) =
          let between = sums_carry (suc i) k (word_of f i) (word_of f k) l (omega (arith, before)) (λ m p q. x.elsewhere m (omega arith) (omega arith) (omega arith)) in
          omega arith
      past_both (no l) = let e : k ≡ i = omega arith in rw e (omega (arith, before, rw e at x.at_i))

  -- exchanged words leave the sum
  pub exchanged_sum : {n i k : ℕ} → Exchanged f g n i k → word_sum g n ≡ word_sum f n
  exchanged_sum {n} {i} {k} x = go (dec_lt k i)
    where
      go : Dec (k < i) → word_sum g n ≡ word_sum f n
      go (yes h) = ordered (omega arith) (record { i_below = x.k_below; k_below = x.i_below; at_i = x.at_k; at_k = x.at_i; elsewhere = λ m l p q. x.elsewhere m l q p })
      go (no h) = ordered (omega arith) x

-- so a block adds up as it did
pub exchanged_ok : (s t : List ℕ) (b i k : ℕ) → Exchanged (block_from s b) (block_from t b) 128 i k → sum_ok t b ≡ sum_ok s b
unfolding sum_ok
exchanged_ok s t b i k x = ap (λ w. eqb (w % 4294967296) 4294967295) (exchanged_sum (block_from s b) (block_from t b) x)
