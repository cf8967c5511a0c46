-- From the counts and least cases of all groups to the job's answer.
-- Assumes nothing.
use Rattle.std.specs.Prelude.{Option, None, Some}
use Rattle.std.specs.Option.{option_or}
use Rattle.std.proofs.Common.{◌≡◌, refl, sym, ◌∙◌, ap, Bool, not, ℕ, ◌+◌, ◌≤◌, ◌<◌, arith}
use borrow.Author.Tests.{lt-ltb, le-ltb, not-true, not-false}
use Rattle.scans.specs.First.{first_bad}
use Rattle.scans.proofs.Search.{clear_each, stopped_at}
use Rattle.meaning.specs.declared.CaseAnswer.{CaseAnswer}
use Rattle.meaning.specs.declared.Counts.{Counts}
use Rattle.meaning.specs.declared.JobAnswer.{JobAnswer}
use Rattle.meaning.specs.declared.JobAnswer.TheVariants.{Holds}
use Rattle.meaning.specs.Jobs.{Job, cases}
use Rattle.meaning.specs.Cases.{case_answer}
use Rattle.meaning.specs.Answers.{tally, or_zero, least, failing, empty, counts_of, decided_by, job_answer}
use Rattle.meaning.proofs.Tallies.{none_tally, some_tally}
use Rattle.meaning.proofs.JobDemand.{counts_add}
use Rattle.tallies.specs.declared.Found.{Found}
use Rattle.tallies.specs.Counting.{FoundIn}

-- a search that finds a case finds the least, and there is one
some_found : (f : ℕ → Bool) (n : ℕ) {x : ℕ} → first_bad (λ y. not (f y)) n ≡ Some x → (0 < tally f n) × (least f n ≡ x)
unfolding least
some_found f n {x} e = let r = stopped_at (λ y. not (f y)) n e in (some_tally f n x r.below (not-false (f x) r.fails), ap or_zero e)

none_found : (f : ℕ → Bool) (n : ℕ) → first_bad (λ y. not (f y)) n ≡ None → tally f n ≡ 0
none_found f n e = none_tally f n (λ i l. not-true (f i) (clear_each (λ y. not (f y)) n e i l))

module _ (j : Job) {fails empties : Found} (f : FoundIn (failing j) (cases j) fails) (e : FoundIn (empty j) (cases j) empties) where
  -- no case is counted twice
  pub counts_fit : fails.count + empties.count ≤ cases j
  unfolding counts_of
  counts_fit = omega (arith, f.count_is, e.count_is, counts_add j)

  module _ (r : Counts) (all : r.cases ≡ cases j) (rest : r.passing + (fails.count + empties.count) ≡ cases j) (a : r.failing ≡ fails.count) (b : r.empty ≡ empties.count) where
    counts_are : r ≡ counts_of j
    unfolding counts_of
    counts_are =
        let p : r.passing ≡ (counts_of j).passing = omega (arith, f.count_is, e.count_is, counts_add j) in
        let q : r.failing ≡ (counts_of j).failing = a ∙ f.count_is in
        let s : r.empty ≡ (counts_of j).empty = b ∙ e.count_is in
        λ i. record { cases = all i; passing = p i; failing = q i; empty = s i }

    by_case : {x y : ℕ} {c : CaseAnswer} → y ≡ x → c ≡ case_answer j x → decided_by r x c ≡ decided_by (counts_of j) y (case_answer j y)
    by_case {x} {y} {c} p q = ap (λ v. decided_by r x v) q ∙ ap (λ v. decided_by r v (case_answer j v)) (sym p) ∙ ap (λ v. decided_by v y (case_answer j y)) counts_are

    -- the least failing case decides, else the least empty one
    pub decided_is : {x : ℕ} {c : CaseAnswer} {d : JobAnswer} → option_or fails.least empties.least ≡ Some x → c ≡ case_answer j x → d ≡ decided_by r x c → d ≡ job_answer j
    unfolding job_answer counts_of
    decided_is {x} {c} {d} w q s = s ∙ go fails.least refl w
      where
        go : (l : Option ℕ) → fails.least ≡ l → option_or l empties.least ≡ Some x → decided_by r x c ≡ job_answer j
        go (Some y) p v =
            let found = some_found (failing j) (cases j) (sym f.least_is ∙ p ∙ v) in
            by_case found.1 q ∙ sym (rw (lt-ltb 0 (tally (failing j) (cases j)) found.0))
        go None p v =
            let none = none_found (failing j) (cases j) (sym f.least_is ∙ p) in
            let found = some_found (empty j) (cases j) (sym e.least_is ∙ v) in
            by_case found.1 q ∙ sym (rw (le-ltb 0 (tally (failing j) (cases j)) (omega arith), lt-ltb 0 (tally (empty j) (cases j)) found.0))

    -- else the job holds
    pub holds_is : option_or fails.least empties.least ≡ None → Holds r ≡ job_answer j
    unfolding job_answer counts_of
    holds_is w = ap Holds counts_are ∙ go fails.least refl w
      where
        go : (l : Option ℕ) → fails.least ≡ l → option_or l empties.least ≡ None → Holds (counts_of j) ≡ job_answer j
        go (Some y) p v = absurd cc
        go None p v =
            let fails_none = none_found (failing j) (cases j) (sym f.least_is ∙ p) in
            let empty_none = none_found (empty j) (cases j) (sym e.least_is ∙ v) in
            sym (rw (le-ltb 0 (tally (failing j) (cases j)) (omega arith), le-ltb 0 (tally (empty j) (cases j)) (omega arith)))
