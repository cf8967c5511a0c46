-- The words and counts of a job's answer; and no answer of a job or of a case is a refusal.
-- Assumes nothing.
use mathlib.Core.Path.{◌≡◌, refl, ap}
use mathlib.Core.Logic.{◌↔◌}
use native.Mathlib.Omega.{arith}
use Prim.Native.Nat.{ℕ}
use lib.Dec.{T}
use Rattle.meaning.specs.declared.CaseAnswer.{CaseAnswer}
use Rattle.meaning.specs.declared.CaseAnswer.TheVariants.{Passes, Empty, Fails}
use Rattle.meaning.specs.declared.Counts.{Counts}
use Rattle.meaning.specs.declared.JobAnswer.{JobAnswer}
use Rattle.meaning.specs.declared.JobAnswer.TheVariants.{Holds, Vacant}
use Rattle.meaning.specs.Jobs.{Job}
use Rattle.meaning.specs.Stated.{FAILS, HOLDS, VACANT, stated_case, stated_job}
use Rattle.meaning.specs.Answers.{counts_of}
use Rattle.meaning.specs.Demands.{JobSays}
use Rattle.meaning.proofs.JobDemand.{is_holds, is_fails_job, is_vacant}
use Rattle.stored.specs.Reading.{refused}

-- by its word: two different words are never equal
never : ◌≡◌ {A = ℕ} 0 1 → ⊥
never e = omega arith

pub refused_job : (a : JobAnswer) (m b l : ℕ) → refused m b l ≡ stated_job a → ⊥
refused_job (Holds c) m b l e = let w = ap (λ x. x.word) e in never (cc)
refused_job (JobAnswer.Fails c x t n w f) m b l e = let w = ap (λ x. x.word) e in never (cc)
refused_job (Vacant c x t n) m b l e = let w = ap (λ x. x.word) e in never (cc)

pub refused_case : (a : CaseAnswer) (m b l : ℕ) → refused m b l ≡ stated_case a → ⊥
refused_case Passes m b l e = let w = ap (λ x. x.word) e in never (cc)
refused_case (Empty t n) m b l e = let w = ap (λ x. x.word) e in never (cc)
refused_case (Fails t n w f) m b l e = let w = ap (λ x. x.word) e in never (cc)

-- which of the three a job's answer is, by its word
pub job_words : (a : JobAnswer) → (((stated_job a).word ≡ HOLDS) ↔ T (is_holds a)) × (((stated_job a).word ≡ FAILS) ↔ T (is_fails_job a)) × (((stated_job a).word ≡ VACANT) ↔ T (is_vacant a))
job_words (Holds c) = (((λ _. tt), λ _. refl), ((λ e. never (cc)), absurd), ((λ e. never (cc)), absurd))
job_words (JobAnswer.Fails c x t n w f) = (((λ e. never (cc)), absurd), ((λ _. tt), λ _. refl), ((λ e. never (cc)), absurd))
job_words (Vacant c x t n) = (((λ e. never (cc)), absurd), ((λ e. never (cc)), absurd), ((λ _. tt), λ _. refl))

-- the counts that an answer has
abbrev pub counts_in : JobAnswer → Counts
counts_in (Holds c) = c
counts_in (JobAnswer.Fails c x t n w f) = c
counts_in (Vacant c x t n) = c

pub counts_said : (j : Job) (a : JobAnswer) → JobSays j a → counts_in a ≡ counts_of j
counts_said j (Holds c) p = p.0
counts_said j (JobAnswer.Fails c x t n w f) p = p.0
counts_said j (Vacant c x t n) p = p.0
