-- Nothing is lost in the forty bytes: an operation's answers that differ have different bytes.
-- Each number is the one that its four bytes spell, the first tells the word, and the word how many there are.
-- Assumes nothing.
use mathlib.Core.Path.{◌≡◌, refl, sym, ◌∙◌, ap}
use mathlib.Core.List.{List, [], ◌∷◌}
use Prim.Native.Nat.{ℕ, suc, ◌+◌, ◌*◌, ◌/◌, ◌%◌, ◌≤◌, ◌<◌}
use native.Mathlib.Omega.{arith}
use lib.ListN.{length, get_or}
use lib.Seq.{ext_get_or}
use Rattle.scans.proofs.Lists.{list_of_at}
use Rattle.meaning.specs.Stated.{Word, DONE, REFUSED, PASSES, EMPTY, FAILS, HOLDS, VACANT, Stated}
use Rattle.stored.specs.Bytes.{digit}
use Rattle.stored.specs.Layout.{Records}
use Rattle.stored.specs.Reading.{read_answer, unpack_answer}
use Rattle.stored.specs.Packing.{pack_answer}
use Rattle.stored.proofs.ByteLaws.{of_digits_4}
use Rattle.verdicts.specs.Running.{check_answer, one_case_answer, row_answer}
use Rattle.boundary.specs.Words.{word_number}
use Rattle.boundary.specs.Answer.{ten_numbers, bytes_of, answer_bytes}
use Rattle.boundary.proofs.Fits.{number_count, count_most, small_at, Fits}
use Rattle.boundary.proofs.StoredFit.{sizes_fit, unpack_fit, pack_fit}
use Rattle.boundary.proofs.RunsFit.{check_fit, one_case_fit, row_fit}

-- words differ in their numbers
abbrev word_of : ℕ → Word
word_of n = get_or (DONE ∷ DONE ∷ REFUSED ∷ PASSES ∷ EMPTY ∷ FAILS ∷ HOLDS ∷ VACANT ∷ []) n DONE

word_back : (w : Word) → word_of (word_number w) ≡ w
word_back DONE = refl
word_back REFUSED = refl
word_back PASSES = refl
word_back EMPTY = refl
word_back FAILS = refl
word_back HOLDS = refl
word_back VACANT = refl

pub word_injective : (v w : Word) → word_number v ≡ word_number w → v ≡ w
word_injective v w e = sym (word_back v) ∙ ap word_of e ∙ word_back w

word_small : (w : Word) → word_number w < 4294967296
word_small DONE = omega arith
word_small REFUSED = omega arith
word_small PASSES = omega arith
word_small EMPTY = omega arith
word_small FAILS = omega arith
word_small HOLDS = omega arith
word_small VACANT = omega arith

-- number i, from its four bytes
module _ (ns ms : List ℕ) (same : bytes_of ns ≡ bytes_of ms) (i : ℕ) (within : i < 10) where
  digit_same : (o : ℕ) → o < 4 → digit (get_or ns i 0) o ≡ digit (get_or ms i 0) o
  unfolding bytes_of
  digit_same o h =
      let at : (4 * i + o) / 4 ≡ i = omega arith in
      let place : (4 * i + o) % 4 ≡ o = omega arith in
      let p = list_of_at (λ k. digit (get_or ns (k / 4) 0) (k % 4)) 40 (4 * i + o) (omega arith) in
      let q = list_of_at (λ k. digit (get_or ms (k / 4) 0) (k % 4)) 40 (4 * i + o) (omega arith) in
      rw (at, place) at (sym p ∙ ap (λ l. get_or l (4 * i + o) 0) same ∙ q)

  number_same : get_or ns i 0 < 4294967296 → get_or ms i 0 < 4294967296 → get_or ns i 0 ≡ get_or ms i 0
  number_same p q =
      let d₀ = digit_same 0 (omega arith) in
      let d₁ = digit_same 1 (omega arith) in
      let d₂ = digit_same 2 (omega arith) in
      let d₃ = digit_same 3 (omega arith) in
      cc (of_digits_4 (get_or ns i 0) p, of_digits_4 (get_or ms i 0) q)

module _ (done fails : ℕ) (d : done ≤ 9) (f : fails ≤ 9) (a b : Stated) (p : Fits done fails a) (q : Fits done fails b) (same : answer_bytes a ≡ answer_bytes b) where
  ten_at : (c : Stated) (i : ℕ) → i < 10 → get_or (ten_numbers c) i 0 ≡ get_or (word_number c.word ∷ c.numbers) i 0
  unfolding ten_numbers
  ten_at c i h = list_of_at (λ k. get_or (word_number c.word ∷ c.numbers) k 0) 10 i h

  small_ten : (c : Stated) → Fits done fails c → (i : ℕ) → i < 10 → get_or (ten_numbers c) i 0 < 4294967296
  small_ten c x i h = rw (ten_at c i h) (small_at (word_number c.word ∷ c.numbers) (word_small c.word, x.small) i)

  ten_same : (i : ℕ) → i < 10 → get_or (word_number a.word ∷ a.numbers) i 0 ≡ get_or (word_number b.word ∷ b.numbers) i 0
  ten_same i h = sym (ten_at a i h) ∙ number_same (ten_numbers a) (ten_numbers b) same i h (small_ten a p i h) (small_ten b q i h) ∙ ten_at b i h

  word_same : a.word ≡ b.word
  word_same = word_injective a.word b.word (ten_same 0 (omega arith))

  length_same : length a.numbers ≡ length b.numbers
  length_same = p.counted ∙ ap (number_count done fails) word_same ∙ sym q.counted

  numbers_same : a.numbers ≡ b.numbers
  numbers_same = ext_get_or 0 a.numbers b.numbers length_same (λ i h. ten_same (suc i) (omega (arith, p.counted, count_most done fails d f a.word)))

  pub answer_same : a ≡ b
  answer_same = λ i. record { word = word_same i; numbers = numbers_same i }

-- the bytes that an operation tells determine its answer
pub sizes_apart : (s s' : List ℕ) → answer_bytes (read_answer s) ≡ answer_bytes (read_answer s') → read_answer s ≡ read_answer s'
sizes_apart s s' = answer_same 4 0 (omega arith) (omega arith) _ _ (sizes_fit s) (sizes_fit s')

pub unpack_apart : (s s' : List ℕ) (n e c n' e' c' : ℕ) → answer_bytes (unpack_answer s n e c) ≡ answer_bytes (unpack_answer s' n' e' c') → unpack_answer s n e c ≡ unpack_answer s' n' e' c'
unpack_apart s s' n e c n' e' c' = answer_same 4 0 (omega arith) (omega arith) _ _ (unpack_fit s n e c) (unpack_fit s' n' e' c')

pub pack_apart : (r r' : Records) (room room' : ℕ) → answer_bytes (pack_answer r room) ≡ answer_bytes (pack_answer r' room') → pack_answer r room ≡ pack_answer r' room'
pack_apart r r' room room' = answer_same 1 0 (omega arith) (omega arith) _ _ (pack_fit r room) (pack_fit r' room')

pub row_apart : (s s' : List ℕ) (x t room x' t' room' : ℕ) → answer_bytes (row_answer s x t room) ≡ answer_bytes (row_answer s' x' t' room') → row_answer s x t room ≡ row_answer s' x' t' room'
row_apart s s' x t room x' t' room' = answer_same 1 0 (omega arith) (omega arith) _ _ (row_fit s x t room) (row_fit s' x' t' room')

pub one_case_apart : (s s' : List ℕ) (x x' : ℕ) → answer_bytes (one_case_answer s x) ≡ answer_bytes (one_case_answer s' x') → one_case_answer s x ≡ one_case_answer s' x'
one_case_apart s s' x x' = answer_same 0 4 (omega arith) (omega arith) _ _ (one_case_fit s x) (one_case_fit s' x')

pub check_apart : (s s' : List ℕ) → answer_bytes (check_answer s) ≡ answer_bytes (check_answer s') → check_answer s ≡ check_answer s'
check_apart s s' = answer_same 0 9 (omega arith) (omega arith) _ _ (check_fit s) (check_fit s')
