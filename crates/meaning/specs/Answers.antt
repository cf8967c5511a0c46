-- The answer for the whole job: three counts over the cases below 2^k, and the case that decides.
-- Assumes nothing.
use Rattle.std.specs.Prelude.{Option, None, Some}
use Rattle.std.specs.Prelude.{Bool, not, cond, ℕ, zero, suc, ◌+◌, ltb}
use Rattle.meaning.specs.declared.CaseAnswer.{CaseAnswer}
use Rattle.meaning.specs.declared.CaseAnswer.TheVariants.{Passes, Empty, Fails}
use Rattle.meaning.specs.declared.Counts.{Counts}
use Rattle.meaning.specs.declared.JobAnswer.{JobAnswer}
use Rattle.meaning.specs.declared.JobAnswer.TheVariants.{Holds, Vacant}
use Rattle.meaning.specs.Jobs.{Job, cases}
use Rattle.meaning.specs.Cases.{case_answer, is_passes, is_empty, is_fails}
use Rattle.scans.specs.First.{first_bad}

-- how many of the first n cases pass a test
unfoldable pub tally : (ℕ → Bool) → ℕ → ℕ
tally f zero = 0
tally f (suc n) = tally f n + cond (f n) 1 0

-- the least of the first n cases that passes it, 0 if none does
abbrev pub or_zero : Option ℕ → ℕ
or_zero None = 0
or_zero (Some x) = x

unfoldable pub least : (ℕ → Bool) → ℕ → ℕ
least f n = or_zero (first_bad (λ x. not (f x)) n)

abbrev pub passing : Job → ℕ → Bool
passing j x = is_passes (case_answer j x)

abbrev pub failing : Job → ℕ → Bool
failing j x = is_fails (case_answer j x)

abbrev pub empty : Job → ℕ → Bool
empty j x = is_empty (case_answer j x)

unfoldable pub counts_of : Job → Counts
counts_of j = record { cases = cases j; passing = tally (passing j) (cases j); failing = tally (failing j) (cases j); empty = tally (empty j) (cases j) }

-- the job's answer where case x decides it, with the place that the case's answer has
abbrev pub decided_by : Counts → ℕ → CaseAnswer → JobAnswer
decided_by c x Passes = Holds c
decided_by c x (Empty t n) = Vacant c x t n
decided_by c x (Fails t n w f) = JobAnswer.Fails c x t n w f

-- FAILS if failing is above 0, with the least failing case; else VACANT if empty is above 0, with the least empty case; else HOLDS
unfoldable pub job_answer : Job → JobAnswer
job_answer j =
    cond (ltb 0 (counts_of j).failing) (let x = least (failing j) (cases j) in decided_by (counts_of j) x (case_answer j x))
    (cond (ltb 0 (counts_of j).empty) (let x = least (empty j) (cases j) in decided_by (counts_of j) x (case_answer j x))
    (Holds (counts_of j)))
