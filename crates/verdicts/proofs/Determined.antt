-- Each operation's promise determines its answer and all lent memory: two outcomes that it allows are equal.
-- Assumes nothing.
use Rattle.std.specs.Prelude.{Result, Ok, Err}
use Rattle.meaning.specs.declared.JobAnswer.{JobAnswer}
use Rattle.meaning.specs.declared.CaseAnswer.{CaseAnswer}
use Rattle.stored.specs.declared.Size.{Size}
use mathlib.Core.Path.{◌≡◌, sym, ◌∙◌}
use mathlib.Core.List.{List, [], ◌∷◌}
use Prim.Native.Nat.{ℕ}
use Rattle.meaning.specs.Stated.{stated_case, stated_job}
use Rattle.meaning.proofs.Stated.{case_injective, job_injective}
use Rattle.stored.specs.declared.Refusal.{Refusal}
use Rattle.stored.specs.Reading.{refused}
use Rattle.stored.proofs.Accepted.{refused_done}
use Rattle.stored.proofs.Determined.{stated_injective, packed_injective}
use Rattle.verdicts.specs.Running.{check_answer, one_case_answer, stated_checked, stated_case_checked, stated_row, GivesRow}
use Rattle.verdicts.proofs.Answers.{refused_job, refused_case}

pub checked_injective : (a b : Result JobAnswer Refusal) → stated_checked a ≡ stated_checked b → a ≡ b
checked_injective = stated_injective stated_job job_injective (λ x m b l. refused_job x m b l)

pub case_checked_injective : (a b : Result CaseAnswer Refusal) → stated_case_checked a ≡ stated_case_checked b → a ≡ b
case_checked_injective = stated_injective stated_case case_injective (λ x m b l. refused_case x m b l)

pub row_injective : (a b : Result ℕ Refusal) → stated_row a ≡ stated_row b → a ≡ b
row_injective = packed_injective

pub check_determined : (job : List ℕ) (a b : Result JobAnswer Refusal) → stated_checked a ≡ check_answer job → stated_checked b ≡ check_answer job → a ≡ b
check_determined job a b p q = checked_injective a b (p ∙ sym q)

pub one_case_determined : (job : List ℕ) (x : ℕ) (a b : Result CaseAnswer Refusal) → stated_case_checked a ≡ one_case_answer job x → stated_case_checked b ≡ one_case_answer job x → a ≡ b
one_case_determined job x a b p q = case_checked_injective a b (p ∙ sym q)

pub row_determined : {job : List ℕ} {x t : ℕ} {out out₁ out₂ : List ℕ} {a b : Result ℕ Refusal} → GivesRow job x t out out₁ a → GivesRow job x t out out₂ b → (a ≡ b) × (out₁ ≡ out₂)
row_determined {a = a} {b} p q = (row_injective a b (p.answer ∙ sym q.answer), p.out_is ∙ sym q.out_is)
