-- Words by a formula or in a table: the variables, and the places in use.
-- Assumes nothing.
use mathlib.Core.Path.{◌≡◌, refl, sym, ◌∙◌, ap}
use mathlib.Core.Bool.{Bool, true, false, beq}
use mathlib.Core.List.{List, [], ◌∷◌}
use Prim.Native.Nat.{ℕ, ◌+◌, ◌*◌, ◌-◌, ◌/◌, ◌%◌, ◌^◌, ◌≤◌, ◌<◌}
use native.Mathlib.Omega.{arith}
use borrow.Author.Tests.{lt-ltb, ltb-true}
use lib.Bits.{bit_and}
use lib.Dec.{T, ltb}
use lib.ListN.{length, get_or}
use lib.Pow.{pow_mono}
use Rattle.scans.specs.First.{first_bad, each}
use Rattle.scans.specs.Lists.{list_of}
use Rattle.scans.proofs.Lists.{list_of_at}
use Rattle.scans.proofs.Bools.{of_true}
use Rattle.scans.proofs.Search.{each_e}
use Rattle.meaning.specs.Guards.{bit_of}
use Rattle.words.specs.Places.{VariableWord, UsedPlaces}
use Rattle.words.proofs.Bits.{bit_all, bit_zero, bit_set, bit_clear, bit_in_place, bit_in_group}

same : (a b : Bool) → T (beq a b) → a ≡ b
same true true t = refl
same true false t = absurd t
same false true t = absurd t
same false false t = refl

-- a table of words has the bits that a rule says: one test over its entries and the 64 places
abbrev keeps : (ℕ → ℕ → Bool) → List ℕ → Bool
keeps rule words = each (λ n. each (λ i. beq (bit_of (get_or words n 0) i) (rule n i)) 64) (length words)

table_at : (rule : ℕ → ℕ → Bool) (words : List ℕ) → T (keeps rule words) → (n i : ℕ) → n < length words → i < 64 → bit_of (get_or words n 0) i ≡ rule n i
table_at rule words t n i h l =
    let row : T (each (λ i. beq (bit_of (get_or words n 0) i) (rule n i)) 64) = of_true _ (each_e (λ n. each (λ i. beq (bit_of (get_or words n 0) i) (rule n i)) 64) (length words) t n h) in
    same _ _ (of_true _ (each_e (λ i. beq (bit_of (get_or words n 0) i) (rule n i)) 64 row i l))

-- the word of a variable below 6 as the code works it out: how long its runs are, and the word
abbrev run : ℕ → ℕ
run v = 1 * 2 ^ v % 2 ^ 64

abbrev step : ℕ → ℕ
step v = 1 * 2 ^ run v % 2 ^ 64 + 1

abbrev formula : ℕ → ℕ
formula v = (2 ^ 64 - 1) / step v * 2 ^ run v % 2 ^ 64

tested : (f : ℕ → Bool) → T (each f 6) → (v : ℕ) → v < 6 → f v ≡ true
tested f t v h = each_e f 6 t v h

pub run_below : (v : ℕ) → v < 6 → run v < 64
unfolding first_bad each
run_below v h = ltb-true (run v) 64 (tested (λ v. ltb (run v) 64) tt v h)

pub step_fits : (v : ℕ) → v < 6 → step v < 2 ^ 64
unfolding first_bad each
step_fits v h = ltb-true (step v) (2 ^ 64) (tested (λ v. ltb (step v) (2 ^ 64)) tt v h)

pub variable_in : (v : ℕ) → v < 6 → (g : ℕ) → VariableWord g v (formula v)
unfolding first_bad each bit_of list_of
variable_in v h g =
    record { at = λ i l. ap (λ w. bit_of w i) (sym (list_of_at formula 6 v h)) ∙ table_at (λ v i. bit_of i v) (list_of formula 6) tt v i h l ∙ sym (bit_in_place g i l v h) }

-- from variable 6 on a word is all or nothing, by the group's bit as the code takes it
pub variable_set : {g v : ℕ} → 6 ≤ v → bit_and (g / 2 ^ (v - 6)) 1 ≡ 1 → VariableWord g v (2 ^ 64 - 1)
variable_set {g} {v} h e = record { at = λ i l. bit_all i l ∙ sym (bit_in_group g i l v h ∙ bit_set g (v - 6) e) }

pub variable_clear : {g v : ℕ} → 6 ≤ v → (bit_and (g / 2 ^ (v - 6)) 1 ≡ 1 → ⊥) → VariableWord g v 0
variable_clear {g} {v} h n = record { at = λ i l. bit_zero i ∙ sym (bit_in_group g i l v h ∙ bit_clear g (v - 6) n) }

-- the low 2^k places, for k below 6; from there on all are used
abbrev low : List ℕ
low = 0x1 ∷ 0x3 ∷ 0xF ∷ 0xFF ∷ 0xFFFF ∷ 0xFFFF_FFFF ∷ []

pub used_in : {k : ℕ} → k < 6 → UsedPlaces k (get_or low k 0)
unfolding first_bad each bit_of
used_in {k} h = record { at = λ i l. table_at (λ k i. ltb i (2 ^ k)) low tt k i h l }

pub used_all : {k : ℕ} → 6 ≤ k → UsedPlaces k (2 ^ 64 - 1)
used_all {k} h = record { at = λ i l. bit_all i l ∙ sym (lt-ltb i (2 ^ k) (omega (arith, pow_mono h))) }
