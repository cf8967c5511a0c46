-- No two answers have the same line, and no refusal has the line of a verdict.
-- Assumes nothing.
use Rattle.std.specs.Prelude.{Result}
use Rattle.stored.specs.declared.Refusal.{Refusal}
use mathlib.Core.Path.{◌≡◌, sym, ◌∙◌, ap}
use Prim.Native.Nat.{ℕ}
use Rattle.meaning.specs.declared.JobAnswer.{JobAnswer}
use Rattle.meaning.proofs.Stated.{job_injective}
use Rattle.verdicts.proofs.Answers.{refused_job}
use Rattle.verdicts.proofs.Determined.{checked_injective}
use Rattle.lines.specs.Lines.{verdict_line, refusal_line, checked_line}
use Rattle.lines.proofs.ReadBack.{read_line, verdict_reads, refusal_reads, line_reads}

pub lines_apart : (a b : Result JobAnswer Refusal) → checked_line a ≡ checked_line b → a ≡ b
lines_apart a b e = checked_injective a b (sym (line_reads a) ∙ ap read_line e ∙ line_reads b)

pub verdicts_apart : (a b : JobAnswer) → verdict_line a ≡ verdict_line b → a ≡ b
verdicts_apart a b e = job_injective a b (sym (verdict_reads a) ∙ ap read_line e ∙ verdict_reads b)

pub refusals_apart : (number block slot number' block' slot' : ℕ) → refusal_line number block slot ≡ refusal_line number' block' slot' → (number ≡ number') × (block ≡ block') × (slot ≡ slot')
refusals_apart number block slot number' block' slot' e =
    let same = ap (λ s. s.numbers) (sym (refusal_reads number block slot) ∙ ap read_line e ∙ refusal_reads number' block' slot') in (cc, cc, cc)

pub refusal_no_verdict : (number block slot : ℕ) (a : JobAnswer) → refusal_line number block slot ≡ verdict_line a → ⊥
refusal_no_verdict number block slot a e = refused_job a number block slot (sym (refusal_reads number block slot) ∙ ap read_line e ∙ verdict_reads a)
