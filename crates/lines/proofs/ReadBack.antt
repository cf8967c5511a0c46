-- A line says what was answered: read back, it gives the word and the numbers that 01 states for the answer.
-- Assumes nothing.
use Rattle.std.specs.Prelude.{Result, Ok, Err}
use Rattle.stored.specs.declared.Refusal.{Refusal}
use mathlib.Core.Path.{◌≡◌, refl, ◌∙◌, ap}
use mathlib.Core.Bool.{Bool, true, false, not, ◌&&◌, cond}
use mathlib.Core.List.{List, [], ◌∷◌, ◌++◌, append_assoc}
use mathlib.Core.Option.{Option, none, some}
use native.Mathlib.Omega.{arith}
use Prim.Native.Nat.{ℕ, ◌+◌, ◌-◌, ◌*◌, ◌%◌, ◌<◌}
use Prim.Native.String.{String}
use lib.Dec.{T, leb, ltb, eqb}
use lib.ListN.{get_or}
use lib.Seq.{append_snoc}
use Rattle.std.proofs.lemmas.Grind.{common_steps}
use Rattle.std.proofs.lemmas.Bool.Decides.{nat_tests}
use Rattle.meaning.specs.declared.Counts.{Counts}
use Rattle.meaning.specs.declared.JobAnswer.{JobAnswer}
use Rattle.meaning.specs.declared.JobAnswer.TheVariants.{Holds, Fails, Vacant}
use Rattle.meaning.specs.Stated.{Word, REFUSED, HOLDS, FAILS, VACANT, Stated, state, stated_job}
use Rattle.stored.specs.Reading.{refused}
use Rattle.verdicts.specs.Running.{stated_checked}
use Rattle.texts.specs.Texts.{text}
use Rattle.texts.specs.Decimals.{digit, decimal}
use Rattle.lines.specs.Lines.{field, value, counts, place, missed, verdict_line, refusal_line, checked_line}
use Rattle.texts.proofs.DecimalLaws.{by_digits}

is_digit : ℕ → Bool
is_digit b = leb 48 b && ltb b 58

-- the numbers in a line, an X being 2; `run` is the number whose digits are being read
unfoldable pub numbers : Option ℕ → List ℕ → List ℕ
unfolding is_digit
numbers none [] = []
numbers none (b ∷ s) = cond (is_digit b) (numbers (some (b - 48)) s) (cond (eqb b 88) (2 ∷ numbers none s) (numbers none s))
numbers (some run) [] = run ∷ []
numbers (some run) (b ∷ s) = cond (is_digit b) (numbers (some (10 * run + (b - 48))) s) (run ∷ numbers none s)

-- the word, by its first letter
unfoldable pub word_in : List ℕ → Word
word_in s = cond (eqb (get_or s 0 0) 82) REFUSED (cond (eqb (get_or s 0 0) 72) HOLDS (cond (eqb (get_or s 0 0) 70) FAILS VACANT))

unfoldable pub read_line : List ℕ → Stated
read_line s = state (word_in s) (numbers none s)

digit_is : (d : ℕ) → d < 10 → is_digit (digit d) ≡ true
unfolding is_digit
digit_is d h = grind (arith, nat_tests)

-- the digits of a number are read as that number
number_read : (x : ℕ) (s : List ℕ) → numbers none (decimal x ++ s) ≡ numbers (some x) s
unfolding numbers
number_read = by_digits (λ x ds. (s : List ℕ) → numbers none (ds ++ s) ≡ numbers (some x) s)
    (λ x l s. grind (arith, digit_is x))
    (λ x ds h ih s. grind (arith, append_snoc ds (digit (x % 10)) s, ih (digit (x % 10) ∷ s), digit_is (x % 10)))

-- a text without digits and X is passed over
quiet : List ℕ → Bool
unfolding is_digit
quiet [] = true
quiet (b ∷ p) = not (is_digit b) && (not (eqb b 88) && quiet p)

skipped : (p s : List ℕ) → T (quiet p) → numbers none (p ++ s) ≡ numbers none s
unfolding numbers is_digit quiet
skipped [] s t = refl
skipped (b ∷ p) s t = grind (arith, nat_tests, common_steps, skipped p s)

-- and ends the number before it
parts : List ℕ → Bool
unfolding is_digit quiet
parts [] = false
parts (b ∷ p) = not (is_digit b) && quiet p

ended : (x : ℕ) (p s : List ℕ) → T (parts p) → numbers (some x) (p ++ s) ≡ x ∷ numbers none s
unfolding numbers is_digit quiet parts
ended x [] s t = absurd t
ended x (b ∷ p) s t = grind (arith, nat_tests, common_steps, skipped p s)

-- the first field of a line, and the next one
first_read : (name : String) (x : ℕ) (s : List ℕ) → T (quiet (text name)) → numbers none (field name x ++ s) ≡ numbers (some x) s
unfolding field
first_read name x s t = ap (numbers none) (append_assoc (text name) (decimal x) s) ∙ skipped (text name) (decimal x ++ s) t ∙ number_read x s

next_read : (x : ℕ) (name : String) (y : ℕ) (s : List ℕ) → T (parts (text name)) → numbers (some x) (field name y ++ s) ≡ x ∷ numbers (some y) s
unfolding field
next_read x name y s t = ap (numbers (some x)) (append_assoc (text name) (decimal y) s) ∙ ended x (text name) (decimal y ++ s) t ∙ ap (λ ns. x ∷ ns) (number_read y s)

value_read : (v : ℕ) → numbers none (value v ++ text "\n") ≡ v ∷ []
unfolding numbers is_digit value
value_read v = grind (arith, nat_tests, common_steps, number_read v (text "\n"))

-- the numbers of each piece of a verdict's line
counts_read : (c : Counts) (s : List ℕ) → numbers none (counts c ++ s) ≡ c.cases ∷ c.passing ∷ c.failing ∷ numbers (some c.empty) s
unfolding is_digit quiet parts counts
counts_read c s =
    simp append_assoc
    (rw (first_read " cases=" c.cases _ tt, next_read c.cases " passing=" c.passing _ tt, next_read c.passing " failing=" c.failing _ tt)
    (rw (next_read c.failing " empty=" c.empty s tt)))

place_read : (y x t n : ℕ) (s : List ℕ) → numbers (some y) (place x t n ++ s) ≡ y ∷ x ∷ t ∷ numbers (some n) s
unfolding is_digit quiet parts place
place_read y x t n s = simp append_assoc (rw (next_read y " case=" x _ tt, next_read x " time=" t _ tt, next_read t " node=" n s tt))

missed_read : (y w f : ℕ) → numbers (some y) (missed w f ++ text "\n") ≡ y ∷ w ∷ f ∷ []
unfolding is_digit quiet parts missed
missed_read y w f =
    simp append_assoc
    (rw (next_read y " wanted=" w _ tt, ended w (text " found=") (value f ++ text "\n") tt, value_read f))

last_read : (x : ℕ) → numbers (some x) (text "\n") ≡ x ∷ []
unfolding numbers is_digit
last_read x = refl

verdict_numbers : (a : JobAnswer) → numbers none (verdict_line a) ≡ (stated_job a).numbers
unfolding is_digit quiet verdict_line
verdict_numbers (Holds c) = simp append_assoc (rw (skipped (text "HOLDS") _ tt, counts_read c (text "\n"), last_read c.empty))
verdict_numbers (Fails c x t n w f) =
    simp append_assoc (rw (skipped (text "FAILS") _ tt, counts_read c _, place_read c.empty x t n _, missed_read n w f))
verdict_numbers (Vacant c x t n) = simp append_assoc (rw (skipped (text "VACANT") _ tt, counts_read c _, place_read c.empty x t n _, last_read n))

refusal_numbers : (number block slot : ℕ) → numbers none (refusal_line number block slot) ≡ number ∷ block ∷ slot ∷ []
unfolding is_digit quiet parts refusal_line
refusal_numbers number block slot =
    simp append_assoc
    (rw (first_read "REFUSED " number _ tt, next_read number " block=" block _ tt, next_read block " record=" slot _ tt, last_read slot))

pub verdict_reads : (a : JobAnswer) → read_line (verdict_line a) ≡ stated_job a
unfolding read_line word_in verdict_line
verdict_reads (Holds c) = ap (state HOLDS) (verdict_numbers (Holds c))
verdict_reads (Fails c x t n w f) = ap (state FAILS) (verdict_numbers (Fails c x t n w f))
verdict_reads (Vacant c x t n) = ap (state VACANT) (verdict_numbers (Vacant c x t n))

pub refusal_reads : (number block slot : ℕ) → read_line (refusal_line number block slot) ≡ refused number block slot
unfolding read_line word_in field refusal_line
refusal_reads number block slot = ap (state REFUSED) (refusal_numbers number block slot)

-- whatever was answered
pub line_reads : (a : Result JobAnswer Refusal) → read_line (checked_line a) ≡ stated_checked a
line_reads (Ok a) = verdict_reads a
line_reads (Err r) = refusal_reads r.number r.block r.«record»
