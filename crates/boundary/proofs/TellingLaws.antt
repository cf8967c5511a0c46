-- The laws of telling: ten numbers, a word's first, and the four low bytes of each.
-- Assumes nothing.
use Rattle.std.proofs.Common.{◌≡◌, ℕ, zero, suc, ◌-◌, ◌<◌, ◌≤◌, List, ◌∷◌, ◌++◌, length, get_or, drop, refl, ap, ◌∙◌, arith, length-append, replicate}
use Rattle.std.specs.Int.{to_le_bytes, w64}
use Rattle.std.proofs.lemmas.List.{drop-replicate, get_or-replicate, get_or_past, length-replicate}
use Rattle.scans.specs.Lists.{list_of}
use Rattle.scans.proofs.Lists.{list_of_is}
use Rattle.std.proofs.lemmas.Grind.{common_steps}
use Rattle.std.specs.Prelude.{true, leb}
use borrow.Author.Tests.{le-leb}
use Rattle.meaning.specs.Stated.{Word, Stated, state}
use Rattle.stored.specs.Bytes.{digit}
use Rattle.boundary.specs.Words.{word_number}
use Rattle.boundary.specs.Answer.{ten_numbers, answer_bytes}
use Rattle.boundary.specs.Told.{if_room, Told}

-- a byte of a number, low byte first
pub low_byte : (n o : ℕ) → o < 4 → get_or (to_le_bytes w64 n) o 0 ≡ digit n o
low_byte n zero h = refl
low_byte n (suc zero) h = refl
low_byte n (suc (suc zero)) h = omega arith
low_byte n (suc (suc (suc zero))) h = omega arith
low_byte n (suc (suc (suc (suc o)))) h = absurd (omega arith)

-- zeros after a list are what it reads as past its end
abbrev pub zeros : ℕ → List ℕ
zeros n = replicate n 0

padded_at : (ns : List ℕ) (m i : ℕ) → get_or (ns ++ zeros m) i 0 ≡ get_or ns i 0
padded_at ns m i = grind (arith, common_steps, get_or-replicate {A = ℕ}, get_or_past {X = ℕ})

pub padded : (w : Word) (ns : List ℕ) {n : ℕ} → n ≡ length ns → n ≤ 9 → word_number w ∷ (ns ++ drop n (zeros 9)) ≡ ten_numbers (state w ns)
unfolding ten_numbers
padded w ns {n} e h =
    let all = word_number w ∷ ns in
    let f = λ (i : ℕ). get_or all i 0 in
    let s = all ++ zeros (9 - n) in
    let long : length s ≡ 10 = omega (arith, length-append ns (zeros (9 - n)), length-replicate {A = ℕ}) in
    rw drop-replicate (list_of_is f s (λ i l. padded_at all (9 - n) i) ∙ ap (list_of f) long)

-- an operation is tried where its answer has room, and what it answered is told
module _ (answer : List ℕ) (room : 40 ≤ length answer) where
  pub room_there : leb 40 (length answer) ≡ true
  room_there = le-leb 40 (length answer) room

  pub comes : {A : Type 0} {tried : A} (kept : A) {new : A} → new ≡ tried → new ≡ if_room answer tried kept
  comes kept is = rw room_there is

  pub told : {a b : Stated} {forty : List ℕ} {r : ℕ} → b ≡ a → r ≡ word_number b.word → forty ≡ answer_bytes b → Told a answer (forty ++ drop 40 answer) r
  told e n p = record { result_is = comes 0 (n ∙ ap (λ s. word_number s.word) e); answer_is = comes answer (ap (λ l. l ++ drop 40 answer) (p ∙ ap answer_bytes e)) }

pub ruleset telling = (told, comes)
