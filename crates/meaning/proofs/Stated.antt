-- Two answers that are stated alike are one.
-- Assumes nothing.
use mathlib.Core.Path.{◌≡◌, refl}
use mathlib.Core.List.{List}
use Prim.Native.Nat.{ℕ}
use native.Mathlib.Omega.{arith}
use Rattle.meaning.specs.declared.CaseAnswer.{CaseAnswer}
use Rattle.meaning.specs.declared.CaseAnswer.TheVariants.{Passes, Empty, Fails}
use Rattle.meaning.specs.declared.Counts.{Counts}
use Rattle.meaning.specs.declared.JobAnswer.{JobAnswer}
use Rattle.meaning.specs.declared.JobAnswer.TheVariants.{Holds, Vacant}
use Rattle.meaning.specs.Stated.{Word, state, stated_case, with_counts, stated_job}

-- by its words: two different words are never equal
apart : {P : Type 0} → ◌≡◌ {A = ℕ} 0 1 → P
apart e = absurd (omega arith)

word_of_lem : {v w : Word} {ms ns : List ℕ} → state v ms ≡ state w ns → v ≡ w
word_of_lem e = λ i. (e i).word

numbers_of : {v w : Word} {ms ns : List ℕ} → state v ms ≡ state w ns → ms ≡ ns
numbers_of e = λ i. (e i).numbers

pub case_injective : (a b : CaseAnswer) → stated_case a ≡ stated_case b → a ≡ b
case_injective Passes Passes e = refl
case_injective Passes (Empty t n) e = apart (cc (word_of_lem e))
case_injective Passes (Fails t n w f) e = apart (cc (word_of_lem e))
case_injective (Empty t n) Passes e = apart (cc (word_of_lem e))
case_injective (Empty t n) (Empty t' n') e = cc (numbers_of e)
case_injective (Empty t n) (Fails t' n' w f) e = apart (cc (word_of_lem e))
case_injective (Fails t n w f) Passes e = apart (cc (word_of_lem e))
case_injective (Fails t n w f) (Empty t' n') e = apart (cc (word_of_lem e))
case_injective (Fails t n w f) (Fails t' n' w' f') e = cc (numbers_of e)

counts_same : (c d : Counts) {r s : List ℕ} → with_counts c r ≡ with_counts d s → c ≡ d
counts_same c d e =
    let a : c.cases ≡ d.cases = cc in
    let p : c.passing ≡ d.passing = cc in
    let f : c.failing ≡ d.failing = cc in
    let m : c.empty ≡ d.empty = cc in
    λ i. record { cases = a i; passing = p i; failing = f i; empty = m i }

rest_same : (c d : Counts) {r s : List ℕ} → with_counts c r ≡ with_counts d s → r ≡ s
rest_same c d e = cc

pub job_injective : (a b : JobAnswer) → stated_job a ≡ stated_job b → a ≡ b
job_injective (Holds c) (Holds d) e = cc (counts_same c d (numbers_of e))
job_injective (Holds c) (JobAnswer.Fails d x t n w f) e = apart (cc (word_of_lem e))
job_injective (Holds c) (Vacant d x t n) e = apart (cc (word_of_lem e))
job_injective (JobAnswer.Fails c x t n w f) (Holds d) e = apart (cc (word_of_lem e))
job_injective (JobAnswer.Fails c x t n w f) (JobAnswer.Fails d x' t' n' w' f') e = cc (counts_same c d (numbers_of e), rest_same c d (numbers_of e))
job_injective (JobAnswer.Fails c x t n w f) (Vacant d x' t' n') e = apart (cc (word_of_lem e))
job_injective (Vacant c x t n) (Holds d) e = apart (cc (word_of_lem e))
job_injective (Vacant c x t n) (JobAnswer.Fails d x' t' n' w f) e = apart (cc (word_of_lem e))
job_injective (Vacant c x t n) (Vacant d x' t' n') e = cc (counts_same c d (numbers_of e), rest_same c d (numbers_of e))
