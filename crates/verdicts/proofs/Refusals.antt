-- What check and one case refuse and give, said without tests: check refuses what reading refuses, one case also 11.
-- Assumes nothing.
use borrow.Author.Tests.{lt-ltb}
use mathlib.Core.Path.{◌≡◌, refl, sym, ◌∙◌, ap, subst₃}
use mathlib.Core.Logic.{◌⊎◌, inl, inr, ⊎_elim, ◌↔◌}
use mathlib.Core.List.{List, [], ◌∷◌}
use Prim.Native.Nat.{ℕ, ◌^◌, ◌<◌}
use lib.Dec.{ltb, ltb→lt}
use Rattle.scans.specs.Refusals.{Stage, whole, in_order}
use Rattle.scans.proofs.Bools.{both_ways, is_false, lt_says}
use Rattle.scans.proofs.Exactly.{refused_still, passed_on, answer_is}
use Rattle.meaning.specs.declared.CaseAnswer.{CaseAnswer}
use Rattle.meaning.specs.declared.JobAnswer.{JobAnswer}
use Rattle.meaning.specs.Stated.{Stated, stated_case, stated_job}
use Rattle.meaning.specs.Cases.{case_answer}
use Rattle.meaning.specs.Answers.{job_answer}
use Rattle.stored.specs.declared.Size.{Size}
use Rattle.stored.specs.Layout.{header_sizes}
use Rattle.stored.specs.Reading.{refused, accepted_as, read_answer}
use Rattle.stored.specs.Broken.{RefusedAs}
use Rattle.stored.proofs.Accepted.{refused_done, accepted_sizes}
use Rattle.stored.proofs.Refusals.{refused_iff}
use Rattle.verdicts.specs.Running.{job_in, check_stages, check_answer, case_stages, one_case_answer}
use Rattle.verdicts.specs.Said.{Accepted, InCase, CaseRefused, READING, CASE}
use Rattle.verdicts.proofs.Answers.{refused_job, refused_case}
use Rattle.verdicts.proofs.Tables.{either_part, both_parts, test_or_rest}

pub accepted_some : (s : List ℕ) → ((z : Size) × (read_answer s ≡ accepted_as z)) ↔ Accepted s
accepted_some s = (λ (z, e). e ∙ ap accepted_as (accepted_sizes s z e), λ e. (header_sizes s, e))

-- check refuses exactly what reading refuses, with the same number and place
pub check_refused : (s : List ℕ) (n b l : ℕ) → (check_answer s ≡ refused n b l) ↔ (read_answer s ≡ refused n b l)
unfolding check_answer read_answer
check_refused s n b l = (
  (λ e. refused_still refused (check_stages s) (λ f. refused_job (job_answer (job_in s)) n b l (sym f)) e _),
  (λ e. refused_still refused (check_stages s) (λ f. refused_done n b l (sym f)) e _),
)

-- that is, where something is broken, at its lowest number and place
pub check_refused_as : (s : List ℕ) (n b l : ℕ) → (check_answer s ≡ refused n b l) ↔ RefusedAs s n b l
check_refused_as s n b l = (λ e. (refused_iff s n b l).0 ((check_refused s n b l).0 e), λ r. (check_refused s n b l).1 ((refused_iff s n b l).1 r))

-- it gives the job's verdict exactly when reading accepts
pub check_gives : (s : List ℕ) → (check_answer s ≡ stated_job (job_answer (job_in s))) ↔ Accepted s
unfolding check_answer read_answer
check_gives s = ((λ e. passed_on refused (check_stages s) (refused_job (job_answer (job_in s))) e _), λ e. passed_on refused (check_stages s) refused_done e _)

-- and any verdict only then
pub check_answered : (s : List ℕ) → ((a : JobAnswer) × (check_answer s ≡ stated_job a)) ↔ ((z : Size) × (read_answer s ≡ accepted_as z))
unfolding check_answer
check_answered s = (
  (λ (a, e). (accepted_some s).1 ((check_gives s).0 (e ∙ sym (answer_is refused (check_stages s) (refused_job a) e)))),
  (λ z. (job_answer (job_in s), (check_gives s).1 ((accepted_some s).0 z))),
)

-- demand 1: a well-formed job is never refused by the check
pub never_refused : (s : List ℕ) → Accepted s → (n b l : ℕ) → ¬ (check_answer s ≡ refused n b l)
never_refused s a n b l e = refused_job (job_answer (job_in s)) n b l (sym e ∙ (check_gives s).1 a)

-- a refusal has one number and one place
pub placed : (P : ℕ → ℕ → ℕ → Type 0) {m b l m' b' l' : ℕ} → refused m b l ≡ refused m' b' l' → P m b l → P m' b' l'
placed P {m} {b} {l} {m'} {b'} {l'} e p =
    let ns = ap (λ a. a.numbers) e in
    let number : m ≡ m' = cc in
    let block : b ≡ b' = cc in
    let slot : l ≡ l' = cc in
    subst₃ P number block slot p

module _ (s : List ℕ) (x : ℕ) where
  abbrev pub case_is : Stated
  case_is = stated_case (case_answer (job_in s) x)

  -- no refusal is the case's answer
  pub case_apart : (n b l : ℕ) → refused n b l ≡ case_is → ⊥
  case_apart = refused_case (case_answer (job_in s) x)

  -- the test after reading's table, and what it gives
  abbrev from11 : List Stage
  from11 = whole 11 (ltb x (2 ^ (header_sizes s).k)) ∷ []

  test_11 : (r : Stated) → (in_order refused from11 case_is ≡ r) ↔ ((¬ (x < 2 ^ (header_sizes s).k) × (refused 11 0 0 ≡ r)) ⊎ ((x < 2 ^ (header_sizes s).k) × (case_is ≡ r)))
  unfolding in_order
  test_11 = test_or_rest refused 11 _ (lt_says _ _) ((λ f h. both_ways (lt-ltb _ _ h) f), λ h. is_false _ (λ u. h (ltb→lt _ _ u))) [] case_is

  case_parts : (n b l : ℕ) → (one_case_answer s x ≡ refused n b l) ↔ ((read_answer s ≡ refused n b l) ⊎ (Accepted s × (in_order refused from11 case_is ≡ refused n b l)))
  unfolding one_case_answer read_answer
  case_parts n b l = either_part refused (check_stages s) from11 case_is refused_done (λ f. refused_done n b l (sym f))

  case_back : {n b l : ℕ} → CaseRefused s x n b l → one_case_answer s x ≡ refused n b l
  case_back (READING e) = (case_parts _ _ _).1 (inl e)
  case_back (CASE a h) = (case_parts 11 0 0).1 (inr (a, (test_11 _).1 (inl (h, refl))))

  pub case_refused : (n b l : ℕ) → (one_case_answer s x ≡ refused n b l) ↔ CaseRefused s x n b l
  case_refused n b l = (λ e. ⊎_elim READING after ((case_parts n b l).0 e), case_back)
    where
      after : Accepted s × (in_order refused from11 case_is ≡ refused n b l) → CaseRefused s x n b l
      after (a, e) = ⊎_elim (λ f. placed (CaseRefused s x) f.1 (CASE a f.0)) (λ f. absurd (case_apart n b l (sym f.1))) ((test_11 _).0 e)

  -- it gives the case's answer exactly when the case is one of an accepted job
  pub case_gives : (one_case_answer s x ≡ stated_case (case_answer (job_in s) x)) ↔ InCase s x
  unfolding one_case_answer read_answer
  case_gives = (λ e. there (parts.0 e), λ c. parts.1 (c.accepted, (test_11 _).1 (inr (c.below, refl))))
    where
      parts : (one_case_answer s x ≡ case_is) ↔ (Accepted s × (in_order refused from11 case_is ≡ case_is))
      parts = both_parts refused (check_stages s) from11 case_is refused_done case_apart

      there : Accepted s × (in_order refused from11 case_is ≡ case_is) → InCase s x
      there (a, e) = record { accepted = a; below = ⊎_elim (λ f. absurd (case_apart 11 0 0 f.1)) (λ f. f.0) ((test_11 _).0 e) }

  -- and any answer only then
  pub case_answered : ((a : CaseAnswer) × (one_case_answer s x ≡ stated_case a)) ↔ InCase s x
  unfolding one_case_answer
  case_answered = (
    (λ (a, e). case_gives.0 (e ∙ sym (answer_is refused (case_stages s x) (refused_case a) e))),
    (λ c. (case_answer (job_in s) x, case_gives.1 c)),
  )
