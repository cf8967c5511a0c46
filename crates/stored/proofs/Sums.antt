-- The sum of a block's words: what it reads, that the check word makes it come out and is the only word that does, and that one changed byte changes it.
-- Two sums that are apart, and by less than 2^32, are apart modulo 2^32.
-- Assumes nothing.
use mathlib.Core.Path.{◌≡◌, refl, sym, ◌∙◌, subst}
use mathlib.Core.Logic.{◌≢◌}
use native.Mathlib.Decide.{dec_lt}
use native.Mathlib.Omega.{arith}
use Prim.Native.Nat.{ℕ, zero, suc, ◌+◌, ◌*◌, ◌-◌, ◌%◌, ◌≤◌, ◌<◌}
use Rattle.stored.specs.Bytes.{digit, word_of, word_sum}
use Rattle.stored.specs.Layout.{check_word}
use Rattle.stored.proofs.ByteLaws.{Digits₄, digits_4}

-- bytes that agree make the same word, and the same sum
pub word_of_same : (f g : ℕ → ℕ) (i : ℕ) → ((o : ℕ) → 4 * i ≤ o → o < 4 * i + 4 → f o ≡ g o) → word_of f i ≡ word_of g i
word_of_same f g i h =
    omega
    (arith, h (4 * i) (omega arith) (omega arith), h (4 * i + 1) (omega arith) (omega arith), h (4 * i + 2) (omega arith) (omega arith), h (4 * i + 3) (omega arith) (omega arith))

pub word_sum_same : (f g : ℕ → ℕ) (n : ℕ) → ((o : ℕ) → o < 4 * n → f o ≡ g o) → word_sum f n ≡ word_sum g n
unfolding word_sum
word_sum_same f g zero h = refl
word_sum_same f g (suc n) h =
    rw (word_sum_same f g n (λ o l. h o (omega arith)), word_of_same f g n (λ o k l. h o (omega arith)))

-- a word of bytes is below 2^32
pub word_of_below : (f : ℕ → ℕ) (i : ℕ) → ((o : ℕ) → f o < 256) → word_of f i < 4294967296
word_of_below f i h = omega (arith, h (4 * i), h (4 * i + 1), h (4 * i + 2), h (4 * i + 3))

-- the digits of a word are its bytes
pub word_digits : (f : ℕ → ℕ) → ((o : ℕ) → f o < 256) → (i : ℕ) → Digits₄ (word_of f i) (f (4 * i)) (f (4 * i + 1)) (f (4 * i + 2)) (f (4 * i + 3))
word_digits f h i = digits_4 (f (4 * i)) (f (4 * i + 1)) (f (4 * i + 2)) (f (4 * i + 3)) (h (4 * i)) (h (4 * i + 1)) (h (4 * i + 2)) (h (4 * i + 3))

-- what holds of the four places of word i holds of each place in it
in_word : (P : ℕ → Type 0) (i o : ℕ) → 4 * i ≤ o → o < 4 * i + 4 → P (4 * i) → P (4 * i + 1) → P (4 * i + 2) → P (4 * i + 3) → P o
in_word P i o l h a b c d = go (dec_lt o (4 * i + 1)) (dec_lt o (4 * i + 2)) (dec_lt o (4 * i + 3))
  where
    go : Dec (o < 4 * i + 1) → Dec (o < 4 * i + 2) → Dec (o < 4 * i + 3) → P o
    go (yes k) y z = let e : 4 * i ≡ o = omega arith in rw e at a
    go (no k) (yes m) z = let e : 4 * i + 1 ≡ o = omega arith in rw e at b
    go (no k) (no m) (yes n) = let e : 4 * i + 2 ≡ o = omega arith in rw e at c
    go (no k) (no m) (no n) = let e : 4 * i + 3 ≡ o = omega arith in rw e at d

-- one word more
pub word_sum_more : (f : ℕ → ℕ) (n : ℕ) → word_sum f (suc n) ≡ word_sum f n + word_of f n
unfolding word_sum
word_sum_more f n = refl

-- with the check word as their last, the 128 words add up
pub check_sums : (f : ℕ → ℕ) → word_of f 127 ≡ check_word f → word_sum f 128 % 4294967296 ≡ 4294967295
unfolding check_word
check_sums f e = omega (arith, word_sum_more f 127)

-- and where the words of a block add up, its last four bytes are those of the check word
pub sums_check : (f : ℕ → ℕ) → ((o : ℕ) → f o < 256) → word_sum f 128 % 4294967296 ≡ 4294967295 → (o : ℕ) → 508 ≤ o → o < 512 → f o ≡ digit (check_word f) (o - 508)
sums_check f bytes e o l h =
    let d : Digits₄ (check_word f) (f 508) (f 509) (f 510) (f 511) = subst (λ v. Digits₄ v (f 508) (f 509) (f 510) (f 511)) last (word_digits f bytes 127) in
    in_word (λ i. f i ≡ digit (check_word f) (i - 508)) 127 o l h (sym d.first) (sym d.second) (sym d.third) (sym d.fourth)
  where
    last : word_of f 127 ≡ check_word f
    last = unfold check_word in omega (arith, word_sum_more f 127, word_of_below f 127 bytes)

-- the check word reads the words before it, and is a word
pub check_word_same : (f g : ℕ → ℕ) → ((o : ℕ) → o < 508 → f o ≡ g o) → check_word f ≡ check_word g
unfolding check_word
check_word_same f g h = rw (word_sum_same f g 127 h)

pub check_word_below : (f : ℕ → ℕ) → check_word f < 4294967296
unfolding check_word
check_word_below f = omega arith

-- apart, and by less than 2^32
record Apart (x y : ℕ) : Type 0 where
  differ : x ≢ y
  above : x < y + 4294967296
  below : y < x + 4294967296

module _ (f g : ℕ → ℕ) (p : (o : ℕ) → f o < 256) (q : (o : ℕ) → g o < 256) (at : ℕ) (differ : f at ≢ g at) where
  -- equal words have equal bytes, so theirs are not equal
  word_differs : (i : ℕ) → 4 * i ≤ at → at < 4 * i + 4 → word_of f i ≢ word_of g i
  word_differs i l h e =
      let u = word_digits f p i in
      let v : Digits₄ (word_of f i) (g (4 * i)) (g (4 * i + 1)) (g (4 * i + 2)) (g (4 * i + 3)) = rw e (word_digits g q i) in
      differ
      (in_word (λ o. f o ≡ g o) i at l h (sym u.first ∙ v.first) (sym u.second ∙ v.second) (sym u.third ∙ v.third) (sym u.fourth ∙ v.fourth))

  word_apart : (i : ℕ) → 4 * i ≤ at → at < 4 * i + 4 → Apart (word_of f i) (word_of g i)
  word_apart i l h = record { differ = word_differs i l h; above = omega (arith, word_of_below f i p); below = omega (arith, word_of_below g i q) }

  -- two blocks of bytes that differ at one place only
  sums_apart : (n : ℕ) → at < 4 * n → ((o : ℕ) → o < 4 * n → o ≢ at → f o ≡ g o) → Apart (word_sum f n) (word_sum g n)
  unfolding word_sum
  sums_apart zero h same = absurd (omega arith)
  sums_apart (suc n) h same = go (dec_lt at (4 * n)) (sums_apart n)
    where
      go : Dec (at < 4 * n) → (at < 4 * n → ((o : ℕ) → o < 4 * n → o ≢ at → f o ≡ g o) → Apart (word_sum f n) (word_sum g n)) → Apart (word_sum f n + word_of f n) (word_sum g n + word_of g n)
      go (yes l) ih =
          let s = ih l (λ o k d. same o (omega arith) d) in
          let w = word_of_same f g n (λ o k m. same o (omega arith) (λ e. omega arith)) in
          omega arith
      go (no l) ih =
          let s = word_sum_same f g n (λ o k. same o (omega arith) (λ e. omega arith)) in
          let w = word_apart n (omega arith) (omega arith) in
          omega arith

  -- so their sums differ, modulo 2^32 too
  pub changed_sum : at < 512 → ((o : ℕ) → o < 512 → o ≢ at → f o ≡ g o) → word_sum f 128 % 4294967296 ≢ word_sum g 128 % 4294967296
  changed_sum h same = let s = sums_apart 128 h same in omega arith
