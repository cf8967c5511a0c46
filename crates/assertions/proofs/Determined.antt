-- The promise of `read_text` determines its answer and both lists: two outcomes that it allows are equal.
-- Assumes nothing.
use mathlib.Core.Path.{◌≡◌, refl, sym, ◌∙◌, ap, subst}
use mathlib.Core.Bool.{true}
use mathlib.Core.List.{List, ◌++◌}
use native.Mathlib.Omega.{arith}
use Prim.Native.Nat.{ℕ}
use lib.ListN.{length, drop}
use Rattle.scans.proofs.Bools.{both_ways}
use Rattle.stored.specs.Broken.{Limits}
use Rattle.stored.proofs.RuleTests.{limits_rule}
use Rattle.std.specs.Prelude.{Result, Ok, Err}
use Rattle.assertions.specs.declared.Written.{Written}
use Rattle.assertions.specs.declared.TextRefusal.{TextRefusal}
use Rattle.assertions.specs.declared.TextRefusal.TheVariants.{Header, Text as TextStops, Room as ListTooShort}
use Rattle.grammar.specs.Grammar.{Text, Reads, limits}
use Rattle.grammar.specs.Records.{text_expressions, text_clauses}
use Rattle.assertions.specs.Answering.{Room, WrittenAs, Why, Answered}
use Rattle.grammar.proofs.Readings.{never_both, stop_unique, reading_unique}

module _ {k n : ℕ} {s : List ℕ} where
  -- within the limits a text reads in one way
  pub one_reading : limits k n ≡ true → {t u : Text} → Reads k n t s → Reads k n u s → t ≡ u
  one_reading l a b = let kept : Limits _ = (limits_rule (record { k = k; n = n; e = 0; c = 0 })).0 l in reading_unique k n (omega (arith, kept.k_most)) kept.n_least a b

module _ (k n : ℕ) (s expressions clauses : List ℕ) where
  -- a text of the grammar is not refused, within the limits and given room
  never_refused : (r : TextRefusal) {t : Text} → limits k n ≡ true → Reads k n t s → Room t expressions clauses → Why k n s expressions clauses r → ⊥
  never_refused Header l reads room x = both_ways l x
  never_refused (TextStops b) l reads room x = never_both reads x.1
  never_refused ListTooShort l reads room x = x.1.short (subst (λ t. Room t expressions clauses) (one_reading l reads x.1.reads) room)

  -- one reason only
  one_reason : (r r' : TextRefusal) → Why k n s expressions clauses r → Why k n s expressions clauses r' → r ≡ r'
  one_reason Header Header x y = refl
  one_reason Header (TextStops b) x y = both_ways y.0 x
  one_reason Header ListTooShort x y = both_ways y.0 x
  one_reason (TextStops b) Header x y = both_ways x.0 y
  one_reason (TextStops b) (TextStops b') x y = ap TextStops (stop_unique x.1 y.1)
  one_reason (TextStops b) ListTooShort x y = absurd (never_both y.1.reads x.1)
  one_reason ListTooShort Header x y = both_ways x.0 y
  one_reason ListTooShort (TextStops b) x y = absurd (never_both x.1.reads y.1)
  one_reason ListTooShort ListTooShort x y = refl

  module _ {es cs es' cs' : List ℕ} where
    same_written : (w w' : Written) → WrittenAs k n s expressions clauses es cs w.expressions w.clauses → WrittenAs k n s expressions clauses es' cs' w'.expressions w'.clauses → (w ≡ w') × (es ≡ es') × (cs ≡ cs')
    same_written w w' x y =
        let same = one_reading x.in_limits x.reads y.reads in
        let e_same = ap text_expressions same in
        let c_same = ap text_clauses same in
        let e_count : w.expressions ≡ w'.expressions = omega (arith, x.e_is, y.e_is, ap length e_same) in
        let c_count : w.clauses ≡ w'.clauses = omega (arith, x.c_is, y.c_is, ap length c_same) in (
          ap (λ (e : ℕ). let v : Written = record { expressions = e; clauses = w.clauses } in v) e_count ∙ ap (λ (c : ℕ). let v : Written = record { expressions = w'.expressions; clauses = c } in v) c_count,
          x.expressions_are ∙ ap (λ l. l ++ drop (length l) expressions) e_same ∙ sym y.expressions_are,
          x.clauses_are ∙ ap (λ l. l ++ drop (length l) clauses) c_same ∙ sym y.clauses_are,
        )

    determined : (r r' : Result Written TextRefusal) → Answered k n s expressions clauses es cs r → Answered k n s expressions clauses es' cs' r' → (r ≡ r') × (es ≡ es') × (cs ≡ cs')
    determined (Ok w) (Ok w') x y = let (a, b, c) = same_written w w' x.says y.says in (ap Ok a, b, c)
    determined (Ok w) (Err f) x y = absurd (never_refused f x.says.in_limits x.says.reads x.says.room y.says.why)
    determined (Err f) (Ok w) x y = absurd (never_refused f y.says.in_limits y.says.reads y.says.room x.says.why)
    determined (Err f) (Err f') x y = (ap Err (one_reason f f' x.says.why y.says.why), x.says.expressions_stay ∙ sym y.says.expressions_stay, x.says.clauses_stay ∙ sym y.says.clauses_stay)

  pub text_determined : {es cs es' cs' : List ℕ} {r r' : Result Written TextRefusal} → Answered k n s expressions clauses es cs r → Answered k n s expressions clauses es' cs' r' → (r ≡ r') × (es ≡ es') × (cs ≡ cs')
  text_determined {r = r} {r'} = determined r r'

  -- accepted exactly when the text is in the grammar, within the limits and given room
  pub accepted_reads : {es cs : List ℕ} {w : Written} → Answered k n s expressions clauses es cs (Ok w) → (t : Text) × Reads k n t s × Room t expressions clauses
  accepted_reads x = (x.says.text, x.says.reads, x.says.room)

  pub reads_accepted : {es cs : List ℕ} {f : TextRefusal} {t : Text} → limits k n ≡ true → Reads k n t s → Room t expressions clauses → ¬ Answered k n s expressions clauses es cs (Err f)
  reads_accepted {f = f} l reads room x = never_refused f l reads room x.says.why
