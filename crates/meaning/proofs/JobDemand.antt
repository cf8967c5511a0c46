-- Demand 3 for the whole job: the answer by counts and least cases is exactly the answer by runs; the three counts add up.
-- Assumes nothing.
use mathlib.Core.Path.{◌≡◌, refl, sym, ◌∙◌, ap}
use mathlib.Core.Logic.{◌↔◌}
use mathlib.Core.Bool.{Bool, true, false, cond}
use Prim.Native.Nat.{ℕ, zero, suc, ◌+◌, ◌≤◌, ◌<◌}
use native.Mathlib.Decide.{dec_lt}
use native.Mathlib.Omega.{arith}
use borrow.Author.Tests.{ltb-true, ltb-false}
use lib.Dec.{T, ltb}
use Rattle.scans.proofs.Bools.{both_ways, of_true, of_false}
use Rattle.meaning.specs.declared.CaseAnswer.{CaseAnswer}
use Rattle.meaning.specs.declared.CaseAnswer.TheVariants.{Passes, Empty, Fails}
use Rattle.meaning.specs.declared.JobAnswer.{JobAnswer}
use Rattle.meaning.specs.declared.JobAnswer.TheVariants.{Holds, Vacant}
use Rattle.meaning.specs.Jobs.{Job, cases, WellFormed}
use Rattle.meaning.specs.Cases.{case_answer, is_passes, is_empty, is_fails}
use Rattle.meaning.specs.Answers.{tally, least, passing, failing, empty, counts_of, decided_by, job_answer}
use Rattle.meaning.specs.Demands.{Failing, Unmet, FirstMissed, FirstCollision, CaseSays, FirstCase, EveryCasePasses, SomeCaseFails, JobSays}
use Rattle.meaning.proofs.CaseDemand.{case_demand, case_says, not_both, passes_iff, fails_iff, empty_iff}
use Rattle.meaning.proofs.Tallies.{tally_none, Least, least_of}

abbrev pub is_holds : JobAnswer → Bool
is_holds (Holds c) = true
is_holds (JobAnswer.Fails c x t n w f) = false
is_holds (Vacant c x t n) = false

abbrev pub is_fails_job : JobAnswer → Bool
is_fails_job (Holds c) = false
is_fails_job (JobAnswer.Fails c x t n w f) = true
is_fails_job (Vacant c x t n) = false

abbrev pub is_vacant : JobAnswer → Bool
is_vacant (Holds c) = false
is_vacant (JobAnswer.Fails c x t n w f) = false
is_vacant (Vacant c x t n) = true

-- each case has one of the three answers: the counts add up to 2^k
pub counts_add : (j : Job) → (counts_of j).passing + (counts_of j).failing + (counts_of j).empty ≡ cases j
unfolding counts_of tally
counts_add j = go (cases j)
  where
    one : (a : CaseAnswer) → cond (is_passes a) 1 0 + cond (is_fails a) 1 0 + cond (is_empty a) 1 0 ≡ 1
    one Passes = refl
    one (Empty t n) = refl
    one (Fails t n w f) = refl

    go : (n : ℕ) → tally (passing j) n + tally (failing j) n + tally (empty j) n ≡ n
    go zero = refl
    go (suc n) = omega (arith, go n, one (case_answer j n))

-- an answer that neither fails nor is empty passes
third : (a : CaseAnswer) → is_fails a ≡ false → is_empty a ≡ false → T (is_passes a)
third Passes f e = tt
third (Empty t n) f e = both_ways refl e
third (Fails t n w f) e g = both_ways refl e

module _ (j : Job) (w : WellFormed j) where
  no_failing : (counts_of j).failing ≤ 0 → (y : ℕ) → y < cases j → failing j y ≡ false
  unfolding counts_of
  no_failing h = tally_none (failing j) (cases j) (omega arith)

  no_empty : (counts_of j).empty ≤ 0 → (y : ℕ) → y < cases j → empty j y ≡ false
  unfolding counts_of
  no_empty h = tally_none (empty j) (cases j) (omega arith)

  -- a failing case that decides, an empty one, or none
  by_failing : (x : ℕ) → Least (failing j) (cases j) x → JobSays j (decided_by (counts_of j) x (case_answer j x))
  by_failing x l = go (case_answer j x) l.here (case_says j w x)
    where
      first : FirstCase j (Failing j) x
      first = record { below = l.below; here = (fails_iff j w x).0 (of_true _ l.here); before = λ y h f. of_false _ (l.before y h) ((fails_iff j w y).1 f) }

      go : (a : CaseAnswer) → is_fails a ≡ true → CaseSays j x a → JobSays j (decided_by (counts_of j) x a)
      go Passes e s = both_ways e refl
      go (Empty t n) e s = both_ways e refl
      go (Fails t n v f) e s = (refl, first, s)

  by_empty : ((y : ℕ) → y < cases j → failing j y ≡ false) → (x : ℕ) → Least (empty j) (cases j) x → JobSays j (decided_by (counts_of j) x (case_answer j x))
  by_empty none x l = go (case_answer j x) l.here (case_says j w x)
    where
      first : FirstCase j (Unmet j) x
      first = record { below = l.below; here = (empty_iff j w x).0 (of_true _ l.here); before = λ y h u. of_false _ (l.before y h) ((empty_iff j w y).1 u) }

      go : (a : CaseAnswer) → is_empty a ≡ true → CaseSays j x a → JobSays j (decided_by (counts_of j) x a)
      go Passes e s = both_ways e refl
      go (Empty t n) e s = (refl, (λ f. of_false _ (none f.0 f.1) ((fails_iff j w f.0).1 f.2)), first, s.1)
      go (Fails t n v f) e s = both_ways e refl

  pub job_says : JobSays j (job_answer j)
  unfolding job_answer counts_of
  job_says = go (ltb 0 (counts_of j).failing) refl (ltb 0 (counts_of j).empty) refl
    where
      go : (a : Bool) → ltb 0 (counts_of j).failing ≡ a → (b : Bool) → ltb 0 (counts_of j).empty ≡ b → JobSays j
          (cond a (decided_by (counts_of j) (least (failing j) (cases j)) (case_answer j (least (failing j) (cases j))))
          (cond b (decided_by (counts_of j) (least (empty j) (cases j)) (case_answer j (least (empty j) (cases j)))) (Holds (counts_of j))))
      go true p b q = by_failing (least (failing j) (cases j)) (least_of (failing j) (cases j) (ltb-true 0 _ p))
      go false p true q = by_empty (no_failing (ltb-false 0 _ p)) (least (empty j) (cases j)) (least_of (empty j) (cases j) (ltb-true 0 _ q))
      go false p false q = (refl, λ x h. (passes_iff j w x).0 (third (case_answer j x) (no_failing (ltb-false 0 _ p) x h) (no_empty (ltb-false 0 _ q) x h)))

  -- two answers that both say so are one
  first_same : {P : ℕ → Type 0} {x y : ℕ} → FirstCase j P x → FirstCase j P y → x ≡ y
  first_same {x = x} {y} a b = go (dec_lt x y) (dec_lt y x)
    where
      go : Dec (x < y) → Dec (y < x) → x ≡ y
      go (yes l) d = absurd (b.before x l a.here)
      go (no l) (yes h) = absurd (a.before y h b.here)
      go (no l) (no h) = omega arith

  same_missed : {x t n v f t' n' v' f' : ℕ} → FirstMissed j x t n v f → FirstMissed j x t' n' v' f' → Fails t n v f ≡ Fails t' n' v' f'
  same_missed {x} {t} {n} {v} {f} {t'} {n'} {v'} {f'} p q = (case_demand j w x (Fails t n v f)).1 p ∙ sym ((case_demand j w x (Fails t' n' v' f')).1 q)

  same_collision : {x t n t' n' : ℕ} → Unmet j x → FirstCollision j x t n → FirstCollision j x t' n' → Empty t n ≡ Empty t' n'
  same_collision {x} {t} {n} {t'} {n'} u p q = (case_demand j w x (Empty t n)).1 (u, p) ∙ sym ((case_demand j w x (Empty t' n')).1 (u, q))

  one_answer : (a b : JobAnswer) → JobSays j a → JobSays j b → a ≡ b
  one_answer (Holds c) (Holds d) p q = ap Holds (p.0 ∙ sym q.0)
  one_answer (Holds c) (JobAnswer.Fails d x t n v f) p q = absurd (not_both j w x (p.1 x q.1.below) q.1.here)
  one_answer (Holds c) (Vacant d x t n) p q = let r = (p.1 x q.2.below).some in absurd (q.2.here r.0 r.1)
  one_answer (JobAnswer.Fails c x t n v f) (Holds d) p q = absurd (not_both j w x (q.1 x p.1.below) p.1.here)
  one_answer (JobAnswer.Fails c x t n v f) (JobAnswer.Fails d x' t' n' v' f') p q =
      let e : x ≡ x' = first_same p.1 q.1 in
      let m : FirstMissed j x t' n' v' f' = rw (← e) at q.2 in
      let k : c ≡ d = p.0 ∙ sym q.0 in
      cc (same_missed p.2 m)
  one_answer (JobAnswer.Fails c x t n v f) (Vacant d x' t' n') p q = absurd (q.1 (x, p.1.below, p.1.here))
  one_answer (Vacant c x t n) (Holds d) p q = let r = (q.1 x p.2.below).some in absurd (p.2.here r.0 r.1)
  one_answer (Vacant c x t n) (JobAnswer.Fails d x' t' n' v f) p q = absurd (p.1 (x', q.1.below, q.1.here))
  one_answer (Vacant c x t n) (Vacant d x' t' n') p q =
      let e : x ≡ x' = first_same p.2 q.2 in
      let m : FirstCollision j x t' n' = rw (← e) at q.3 in
      let k : c ≡ d = p.0 ∙ sym q.0 in
      cc (same_collision p.2.here p.3 m)

  -- demand 3
  pub job_demand : (a : JobAnswer) → (a ≡ job_answer j) ↔ JobSays j a
  job_demand a = ((λ e. rw e job_says), λ s. one_answer a (job_answer j) s job_says)

  -- HOLDS, FAILS exactly when; VACANT otherwise
  exactly : (a : JobAnswer) → JobSays j a → (T (is_holds a) ↔ EveryCasePasses j) × (T (is_fails_job a) ↔ SomeCaseFails j) × (T (is_vacant a) ↔ (¬ (EveryCasePasses j) × ¬ (SomeCaseFails j)))
  exactly (Holds c) p =
      (((λ _. p.1), (λ _. tt)), (absurd, (λ f. not_both j w f.0 (p.1 f.0 f.1) f.2)), (absurd, (λ o. o.0 p.1)))
  exactly (JobAnswer.Fails c x t n v f) p =
      let some : SomeCaseFails j = (x, p.1.below, p.1.here) in
      ((absurd, (λ e. not_both j w x (e x p.1.below) p.1.here)), ((λ _. some), (λ _. tt)), (absurd, (λ o. o.1 some)))
  exactly (Vacant c x t n) p =
      let unmet : ¬ (EveryCasePasses j) = λ e. let r = (e x p.2.below).some in p.2.here r.0 r.1 in
      ((absurd, unmet), (absurd, p.1), ((λ _. (unmet, p.1)), (λ _. tt)))

  pub holds_iff : T (is_holds (job_answer j)) ↔ EveryCasePasses j
  holds_iff = (exactly (job_answer j) job_says).0

  pub fails_job_iff : T (is_fails_job (job_answer j)) ↔ SomeCaseFails j
  fails_job_iff = (exactly (job_answer j) job_says).1

  pub vacant_iff : T (is_vacant (job_answer j)) ↔ (¬ (EveryCasePasses j) × ¬ (SomeCaseFails j))
  vacant_iff = (exactly (job_answer j) job_says).2
