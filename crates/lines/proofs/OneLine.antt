-- Every answer is one line: printable ASCII, and then the newline. So it is never empty.
-- Assumes nothing.
use mathlib.Core.Path.{◌≡◌, refl}
use mathlib.Core.Bool.{Bool, true, false, ◌&&◌, cond}
use mathlib.Core.List.{List, [], ◌∷◌, ◌++◌}
use native.Mathlib.Omega.{arith}
use Prim.Native.Nat.{ℕ, ◌%◌, ◌≤◌, ◌<◌}
use Prim.Native.String.{String}
use lib.Dec.{T, leb, ltb, eqb, leb→le, ltb→lt}
use lib.ListN.{length, length-append}
use Rattle.scans.proofs.Bools.{and_left, and_right}
use Rattle.meaning.specs.declared.Counts.{Counts}
use Rattle.meaning.specs.declared.JobAnswer.{JobAnswer}
use Rattle.meaning.specs.declared.JobAnswer.TheVariants.{Holds, Fails, Vacant}
use Rattle.texts.specs.Texts.{text}
use Rattle.texts.specs.Decimals.{digit, decimal}
use Rattle.lines.specs.Lines.{field, value, counts, place, missed, verdict_line, refusal_line}
use Rattle.texts.proofs.DecimalLaws.{by_digits}

-- from the space to the tilde
pub data Printable : List ℕ → Type 0 where
  none : Printable []
  byte : {b : ℕ} {s : List ℕ} → 32 ≤ b → b < 127 → Printable s → Printable (b ∷ s)

pub record OneLine (line : List ℕ) : Type 0 where
  pub front : List ℕ
  pub is : line ≡ front ++ text "\n"
  pub shown : Printable front

both : {p q : List ℕ} → Printable p → Printable q → Printable (p ++ q)
both none t = t
both (byte low high p) t = byte low high (both p t)

-- a text, by a test
bytes_shown : List ℕ → Bool
bytes_shown [] = true
bytes_shown (b ∷ s) = leb 32 b && (ltb b 127 && bytes_shown s)

shown : (s : List ℕ) → T (bytes_shown s) → Printable s
unfolding bytes_shown
shown [] t = none
shown (b ∷ s) t =
    let rest = and_right (leb 32 b) _ t in
    byte (leb→le 32 b (and_left (leb 32 b) _ t)) (ltb→lt b 127 (and_left (ltb b 127) _ rest)) (shown s (and_right (ltb b 127) _ rest))

shown_digit : (d : ℕ) → d < 10 → Printable (digit d ∷ [])
shown_digit d h = byte {b = digit d} (omega arith) (omega arith) none

shown_number : (x : ℕ) → Printable (decimal x)
shown_number = by_digits (λ _ s. Printable s) shown_digit (λ x s h ih. both ih (shown_digit (x % 10) (omega arith)))

shown_field : (name : String) (x : ℕ) → T (bytes_shown (text name)) → Printable (field name x)
unfolding field
shown_field name x t = both (shown (text name) t) (shown_number x)

shown_value : (v : ℕ) → Printable (value v)
unfolding bytes_shown value
shown_value v = go (eqb v 2)
  where
    go : (b : Bool) → Printable (cond b (text "X") (decimal v))
    go true = shown (text "X") tt
    go false = shown_number v

shown_counts : (c : Counts) → Printable (counts c)
unfolding bytes_shown counts
shown_counts c =
    both (both (both (shown_field " cases=" c.cases tt) (shown_field " passing=" c.passing tt)) (shown_field " failing=" c.failing tt)) (shown_field " empty=" c.empty tt)

shown_place : (x t n : ℕ) → Printable (place x t n)
unfolding bytes_shown place
shown_place x t n = both (both (shown_field " case=" x tt) (shown_field " time=" t tt)) (shown_field " node=" n tt)

shown_missed : (w f : ℕ) → Printable (missed w f)
unfolding bytes_shown missed
shown_missed w f = both (both (shown_field " wanted=" w tt) (shown (text " found=") tt)) (shown_value f)

one_line : (front : List ℕ) → Printable front → OneLine (front ++ text "\n")
one_line front t = record { front = front; is = refl; shown = t }

pub verdict_one_line : (a : JobAnswer) → OneLine (verdict_line a)
unfolding bytes_shown verdict_line
verdict_one_line (Holds c) = one_line _ (both (shown (text "HOLDS") tt) (shown_counts c))
verdict_one_line (Fails c x t n w f) = one_line _ (both (both (both (shown (text "FAILS") tt) (shown_counts c)) (shown_place x t n)) (shown_missed w f))
verdict_one_line (Vacant c x t n) = one_line _ (both (both (shown (text "VACANT") tt) (shown_counts c)) (shown_place x t n))

pub refusal_one_line : (number block slot : ℕ) → OneLine (refusal_line number block slot)
unfolding bytes_shown refusal_line
refusal_one_line number block slot = one_line _ (both (both (shown_field "REFUSED " number tt) (shown_field " block=" block tt)) (shown_field " record=" slot tt))

pub never_empty : {line : List ℕ} → OneLine line → 0 < length line
never_empty one = rw (one.is, length-append) (omega arith)
