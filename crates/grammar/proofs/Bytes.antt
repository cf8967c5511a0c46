-- Bytes told apart: gaps, marks, letters and digits, and the items that they begin.
-- Assumes nothing.
use borrow.Author.Tests.{eqb-true, ne_eqb, leb-true, le-leb, lt-ltb, le-ltb}
use mathlib.Core.Path.{◌≡◌, refl, sym, ◌∙◌}
use mathlib.Core.Bool.{Bool, true, false, ◌&&◌, true≢false}
use mathlib.Core.List.{◌∷◌}
use mathlib.Core.Option.{Option, some, none}
use native.Mathlib.Omega.{arith}
use Prim.Native.Nat.{ℕ, ◌≤◌, ◌<◌}
use lib.Dec.{leb, ltb, eqb}
use Rattle.grammar.specs.Items.{GIVEN, EXPECT, WHEN, IS, AT, AND, XOR, OR, Mark, NOT, OPEN, CLOSE, COLON, SEMICOLON, SIGN, letters, mark_byte}
use Rattle.grammar.specs.Spelling.{is_gap}
use Rattle.grammar.specs.Bytewise.{pick, mark_of, word_of, tail, is_digit}
use Rattle.grammar.proofs.Options.{Each, cond_each}

picked : {A : Type 0} (P : A → Type 0) (b c : ℕ) (a : A) (o : Option A) → (b ≡ c → P a) → Each P o → Each P (pick b c a o)
picked P b c a o h rest = cond_each P (eqb b c) (some a) o (λ e. h (eqb-true b c e)) (λ e. rest)

pub mark_byte_lem : (b : ℕ) → Each (λ m. mark_byte m ≡ b) (mark_of b)
unfolding mark_of
mark_byte_lem b =
    picked _ b 33 NOT _ sym
    (picked _ b 40 OPEN _ sym
    (picked _ b 41 CLOSE _ sym
    (picked _ b 58 COLON _ sym
    (picked _ b 59 SEMICOLON _ sym (picked _ b 38 (SIGN AND) _ sym (picked _ b 94 (SIGN XOR) _ sym (picked _ b 124 (SIGN OR) none sym tt)))))))

pub word_byte : (b : ℕ) → Each (λ w. letters w ≡ b ∷ tail (letters w)) (word_of b)
unfolding word_of letters
word_byte b =
    picked _ b 103 GIVEN _ (λ e. rw e)
    (picked _ b 101 EXPECT _ (λ e. rw e) (picked _ b 119 WHEN _ (λ e. rw e) (picked _ b 105 IS _ (λ e. rw e) (picked _ b 97 AT none (λ e. rw e) tt))))

pub mark_found : (m : Mark) → mark_of (mark_byte m) ≡ some m
unfolding mark_of
mark_found NOT = refl
mark_found OPEN = refl
mark_found CLOSE = refl
mark_found COLON = refl
mark_found SEMICOLON = refl
mark_found (SIGN AND) = refl
mark_found (SIGN XOR) = refl
mark_found (SIGN OR) = refl

pub same_mark : (m o : Mark) → mark_byte m ≡ mark_byte o → m ≡ o
same_mark m o e = cc (mark_found m, mark_found o)

-- no mark is a gap, a digit or a letter
pub apart : (m : Mark) → (33 ≤ mark_byte m) × (48 ≤ mark_byte m → 58 ≤ mark_byte m) × (97 ≤ mark_byte m → 123 ≤ mark_byte m)
apart NOT = omega arith
apart OPEN = omega arith
apart CLOSE = omega arith
apart COLON = omega arith
apart SEMICOLON = omega arith
apart (SIGN AND) = omega arith
apart (SIGN XOR) = omega arith
apart (SIGN OR) = omega arith

pub no_gap : (b : ℕ) → 33 ≤ b → is_gap b ≡ false
unfolding is_gap
no_gap b h = rw (ne_eqb b 32 (omega arith), ne_eqb b 10 (omega arith), ne_eqb b 13 (omega arith))

no_mark : (b : ℕ) → ((m : Mark) → mark_byte m ≡ b → ⊥) → mark_of b ≡ none
no_mark b h = go (mark_of b) (mark_byte_lem b)
  where
    go : (o : Option Mark) → Each (λ m. mark_byte m ≡ b) o → o ≡ none
    go none e = refl
    go (some m) e = absurd (h m e)

pub no_digit : (b : ℕ) → (48 ≤ b → 58 ≤ b) → is_digit b ≡ false
no_digit b h = go (leb 48 b) (λ e. le-ltb b 58 (h (leb-true 48 b e)))
  where
    go : (t : Bool) → (t ≡ true → ltb b 58 ≡ false) → t && ltb b 58 ≡ false
    go true f = f refl
    go false f = refl

pub gap_no_digit : (b : ℕ) → is_gap b ≡ true → is_digit b ≡ false
gap_no_digit b g = no_digit b λ l. absurd (true≢false (sym g ∙ no_gap b (omega arith)))

module _ (b : ℕ) where
  pub digit_plain : 48 ≤ b → b < 58 → (is_gap b ≡ false) × (mark_of b ≡ none) × (is_digit b ≡ true)
  digit_plain l h = (no_gap b (omega arith), no_mark b (λ m e. omega (arith, (apart m).1 (omega arith))), rw (le-leb 48 b l, lt-ltb b 58 h))

  pub letter_plain : 97 ≤ b → b < 123 → (is_gap b ≡ false) × (mark_of b ≡ none) × (is_digit b ≡ false)
  letter_plain l h = (no_gap b (omega arith), no_mark b (λ m e. omega (arith, (apart m).2 (omega arith))), no_digit b (omega arith))
