-- Demand 3 over stored bytes: what check and one case answer is exactly what says of the job's runs what the minutes ask; the counts add up.
-- Assumes nothing.
use mathlib.Core.Path.{◌≡◌, sym, ◌∙◌, ap}
use mathlib.Core.Logic.Iff
use mathlib.Core.Logic.{◌↔◌}
use mathlib.Core.List.{List}
use Prim.Native.Nat.{ℕ, ◌+◌, ◌^◌}
use Rattle.meaning.specs.declared.CaseAnswer.{CaseAnswer}
use Rattle.meaning.specs.declared.JobAnswer.{JobAnswer}
use Rattle.meaning.specs.Jobs.{WellFormed}
use Rattle.meaning.specs.Stated.{HOLDS, FAILS, VACANT, stated_case, stated_job}
use Rattle.meaning.specs.Cases.{case_answer}
use Rattle.meaning.specs.Answers.{counts_of, job_answer}
use Rattle.meaning.specs.Demands.{CaseSays, EveryCasePasses, SomeCaseFails, JobSays}
use Rattle.meaning.proofs.Stated.{case_injective, job_injective}
use Rattle.meaning.proofs.CaseDemand.{case_demand}
use Rattle.meaning.proofs.JobDemand.{counts_add, job_demand, holds_iff, fails_job_iff, vacant_iff}
use Rattle.stored.specs.Layout.{header_sizes, records_of}
use Rattle.stored.specs.Decoding.{job_of}
use Rattle.stored.proofs.Promise.{accepted_promise}
use Rattle.verdicts.specs.Running.{job_in, check_answer, one_case_answer}
use Rattle.verdicts.specs.Said.{Accepted, InCase}
use Rattle.verdicts.proofs.Answers.{job_words, counts_in, counts_said}
use Rattle.verdicts.proofs.Refusals.{check_gives, case_gives}

-- what reading promises
pub job_formed : (s : List ℕ) → Accepted s → WellFormed (job_in s)
job_formed s a = (accepted_promise s (header_sizes s) a).1

module _ (s : List ℕ) (accepted : Accepted s) where
  -- demand 3: of an accepted job an answer is given exactly when it says so of the job's runs
  pub check_demand : (a : JobAnswer) → (stated_job a ≡ check_answer s) ↔ JobSays (job_in s) a
  check_demand a =
      let given = (check_gives s).1 accepted in
      let demand = job_demand (job_in s) (job_formed s accepted) a in
      ((λ e. demand.0 (job_injective a (job_answer (job_in s)) (e ∙ given))), λ p. ap stated_job (demand.1 p) ∙ sym given)

  -- in its own words: HOLDS exactly when, FAILS exactly when, VACANT otherwise
  pub words_demand :
      (((check_answer s).word ≡ HOLDS) ↔ EveryCasePasses (job_in s))
      × (((check_answer s).word ≡ FAILS) ↔ SomeCaseFails (job_in s))
      × (((check_answer s).word ≡ VACANT) ↔ (¬ (EveryCasePasses (job_in s)) × ¬ (SomeCaseFails (job_in s))))
  words_demand =
      let w = job_formed s accepted in
      let is = job_words (job_answer (job_in s)) in
      rw ((check_gives s).1 accepted) (simp (is.0, is.1, is.2, holds_iff (job_in s) w, fails_job_iff (job_in s) w, vacant_iff (job_in s) w) (Iff.rfl, Iff.rfl, Iff.rfl))

  -- the counts are those of the definitions, and add up to the number of cases
  pub counts_are : (a : JobAnswer) → stated_job a ≡ check_answer s → counts_in a ≡ counts_of (job_in s)
  counts_are a e = counts_said (job_in s) a ((check_demand a).0 e)

  pub counts_add_up : (a : JobAnswer) → stated_job a ≡ check_answer s → (counts_in a).passing + (counts_in a).failing + (counts_in a).empty ≡ 2 ^ (header_sizes s).k
  unfolding job_of records_of
  counts_add_up a e = rw (counts_are a e) (counts_add (job_in s))

  pub counts_cases : (a : JobAnswer) → stated_job a ≡ check_answer s → (counts_in a).cases ≡ 2 ^ (header_sizes s).k
  unfolding job_of records_of counts_of
  counts_cases a e = ap (λ c. c.cases) (counts_are a e)

-- the same of one case
pub one_case_demand : (s : List ℕ) (x : ℕ) → InCase s x → (a : CaseAnswer) → (stated_case a ≡ one_case_answer s x) ↔ CaseSays (job_in s) x a
one_case_demand s x c a =
    let given = (case_gives s x).1 c in
    let demand = case_demand (job_in s) (job_formed s c.accepted) x a in
    ((λ e. demand.0 (case_injective a (case_answer (job_in s) x) (e ∙ given))), λ p. ap stated_case (demand.1 p) ∙ sym given)
