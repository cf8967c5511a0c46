-- P1 to P12 as one table of claims; those of jobs are made of their stored bytes.
-- Assumes nothing.
use Rattle.std.specs.Prelude.{◌≡◌, List, [], ◌∷◌, ℕ, length}
use Rattle.meaning.specs.declared.CaseAnswer.{CaseAnswer}
use Rattle.meaning.specs.declared.CaseAnswer.TheVariants.{Passes, Empty, Fails}
use Rattle.meaning.specs.declared.Counts.{Counts}
use Rattle.meaning.specs.declared.JobAnswer.{JobAnswer}
use Rattle.meaning.specs.declared.JobAnswer.TheVariants.{Holds, Vacant}
use Rattle.meaning.specs.Values.{Value, v0, v1, v_x}
use Rattle.meaning.specs.declared.Gate.{Gate}
use Rattle.meaning.specs.declared.Gate.TheVariants.{And, Or, Xor, Mux}
use Rattle.meaning.specs.Gates.{gate_forces}
use Rattle.meaning.specs.Rows.{row_numbers}
use Rattle.meaning.specs.Stated.{stated_case, stated_job}
use Rattle.stored.specs.Packing.{written}
use Rattle.verdicts.specs.Running.{job_in, check_answer, one_case_answer, row_answer}
use Rattle.worked.specs.Jobs.{Sample, packed, flag, known_records, forced_records, one_records, quiet_records, zero_records}

-- what an example claims: what a gate forces; or of a job what check answers, what one case is answered, what stands in a row
pub data Claim : Type 0 where
  gate : Gate → Value → Value → Value → Value → Claim
  check : Sample → JobAnswer → Claim
  one_case : Sample → ℕ → CaseAnswer → Claim
  row : (job : Sample) (x t : ℕ) → List ℕ → Claim

abbrev pub Claims : Claim → Type 0
Claims (gate g p q r v) = gate_forces g p q r ≡ v
Claims (check job a) = check_answer job.bytes ≡ stated_job a
Claims (one_case job x a) = one_case_answer job.bytes x ≡ stated_case a
Claims (row job x t ns) = (row_answer job.bytes x t (length ns) ≡ written (length ns)) × (row_numbers (job_in job.bytes) x t (length ns) ≡ ns)

abbrev counts : ℕ → ℕ → ℕ → ℕ → Counts
counts c p f e = record { cases = c; passing = p; failing = f; empty = e }

abbrev pub table : List Claim
table =
    gate And v0 v_x v_x v0  -- P1
    ∷ gate Or v_x v1 v_x v1  -- P2
    ∷ gate Xor v_x v_x v_x v_x  -- P3
    ∷ gate Mux v_x v1 v1 v1  -- P4
    ∷ gate Mux v_x v0 v0 v0  -- P5
    ∷ one_case flag 0 (Fails 1 1 0 2)  -- P6
    ∷ check flag (JobAnswer.Fails (counts 2 1 1 0) 0 1 1 0 2)
    ∷ one_case flag 1 Passes  -- P7
    ∷ check (packed known_records) (Holds (counts 2 2 0 0))  -- P8
    ∷ check (packed forced_records) (Vacant (counts 2 1 0 1) 1 1 1)  -- P9
    ∷ row (packed one_records) 0 0 (2 ∷ [])  -- P10
    ∷ row (packed one_records) 0 1 (1 ∷ [])
    ∷ check (packed quiet_records) (Holds (counts 2 2 0 0))  -- P11
    ∷ one_case (packed zero_records) 0 (Empty 1 0)  -- P12
    ∷ check (packed zero_records) (Vacant (counts 1 0 0 1) 0 1 0)
    ∷ []

-- each claim of a list, one after the other
infixr 5 ◌&◌
pub data Each (P : Claim → Type 0) : List Claim → Type 0 where
  end : Each P []
  ◌&◌ : {c : Claim} {cs : List Claim} → P c → Each P cs → Each P (c ∷ cs)
