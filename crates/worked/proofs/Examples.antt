-- P1 to P12: antt computes each claim over its job's records, and what check, one case and row answer for records carries it to the bytes.
-- Assumes nothing.
use borrow.Author.Tests.{ltb-true, leb-true}
use mathlib.Core.Path.{◌≡◌, refl, ◌∙◌, ap}
use mathlib.Core.Bool.{true}
use mathlib.Core.List.{List}
use native.Mathlib.Omega.{arith}
use Prim.Native.Nat.{ℕ, suc, ◌^◌}
use lib.Dec.{ltb, leb}
use lib.ListN.{length}
use Rattle.scans.specs.First.{first_bad, each, first_place}
use Rattle.meaning.specs.declared.CaseAnswer.{CaseAnswer}
use Rattle.meaning.specs.declared.JobAnswer.{JobAnswer}
use Rattle.meaning.specs.Values.{Value, join, join_cells}
use Rattle.meaning.specs.declared.Gate.{Gate}
use Rattle.meaning.specs.Gates.{gate_forces}
use Rattle.meaning.specs.Guards.{bit_of, truth_given, truths, truth}
use Rattle.meaning.specs.Jobs.{on, until, speaks, asks, latest, last_time}
use Rattle.meaning.specs.Rows.{asked_by, stimulus_at, forces_from, forced, cell, row_clear, row_numbers}
use Rattle.meaning.specs.Cases.{met_at, wanted_at, answer_of, case_answer}
use Rattle.meaning.specs.Answers.{tally, least, counts_of, job_answer}
use Rattle.meaning.specs.Stated.{stated_case, stated_job}
use Rattle.stored.specs.Layout.{sizes_of}
use Rattle.stored.specs.Packing.{written}
use Rattle.stored.specs.Decoding.{node_at, expression_at, clause_at, job_of}
use Rattle.verdicts.specs.Running.{job_in, check_answer, one_case_answer, row_answer}
use Rattle.verdicts.proofs.Clear.{clear_iff}
use Rattle.verdicts.proofs.Packed.{packed_job, packed_check, packed_case, packed_row}
use Rattle.worked.specs.Jobs.{Sample, flag_records, known_records, forced_records, one_records, quiet_records, zero_records}
use Rattle.worked.specs.Examples.{Claim, gate, check, one_case, row, Claims, table, Each, end, ◌&◌}
use Rattle.worked.proofs.Samples.{Sound, flag_sound, known_sound, forced_sound, one_sound, quiet_sound, zero_sound}

-- a claim over the records of its job
data Computed : Claim → Type 0 where
  by_gate : {g : Gate} {p q r v : Value} → gate_forces g p q r ≡ v → Computed (gate g p q r v)
  by_check : {job : Sample} {a : JobAnswer} → Sound job → job_answer (job_of job.records) ≡ a → Computed (check job a)
  by_case : {job : Sample} {x : ℕ} {a : CaseAnswer} → Sound job → ltb x (2 ^ job.records.k) ≡ true → case_answer (job_of job.records) x ≡ a → Computed (one_case job x a)
  by_row : {job : Sample} {x t : ℕ} {ns : List ℕ} → Sound job → ltb x (2 ^ job.records.k) ≡ true → leb t 255 ≡ true → (sizes_of job.records).n ≡ length ns
      → each (row_clear (job_of job.records) x) (suc t) ≡ true → row_numbers (job_of job.records) x t (length ns) ≡ ns → Computed (row job x t ns)

-- carried to its bytes
over_bytes : {c : Claim} → Computed c → Claims c
over_bytes (by_gate e) = e
over_bytes (by_check {job} s e) = ap check_answer s.is ∙ packed_check job.records s.keeps s.byte_lists ∙ ap stated_job e
over_bytes (by_case {job} {x} s h e) =
    ap (λ b. one_case_answer b x) s.is ∙ packed_case job.records s.keeps s.byte_lists x (ltb-true _ _ h) ∙ ap stated_case e
over_bytes (by_row {job} {x} {t} {ns} s h l n f e) =
    let r = job.records in
    let free = (clear_iff (job_of r) x t).0 f in
    let answered = packed_row r s.keeps s.byte_lists x t (length ns) (ltb-true _ _ h) (leb-true _ _ l) (omega arith) free in
    let same = packed_job r s.keeps s.byte_lists in (
      ap (λ b. row_answer b x t (length ns)) s.is ∙ answered ∙ ap written n,
      ap (λ b. row_numbers (job_in b) x t (length ns)) s.is ∙ ap (λ j. row_numbers j x t (length ns)) same ∙ e,
    )

computed : Each Computed table
unfolding
    flag_records known_records forced_records one_records quiet_records zero_records node_at expression_at clause_at job_of gate_forces bit_of truth_given truths truth on until speaks asks
    latest last_time join join_cells asked_by stimulus_at forces_from forced cell row_clear row_numbers met_at wanted_at answer_of case_answer tally least counts_of job_answer first_bad each
    first_place
computed =
    by_gate refl
    & by_gate refl
    & by_gate refl
    & by_gate refl
    & by_gate refl
    & by_case flag_sound refl refl
    & by_check flag_sound refl
    & by_case flag_sound refl refl
    & by_check known_sound refl
    & by_check forced_sound refl
    & by_row one_sound refl refl refl refl refl
    & by_row one_sound refl refl refl refl refl
    & by_check quiet_sound refl
    & by_case zero_sound refl refl
    & by_check zero_sound refl
    & end

each_over : {cs : List Claim} → Each Computed cs → Each Claims cs
each_over end = end
each_over (p & ps) = over_bytes p & each_over ps

-- every claim of the table holds
pub examples : Each Claims table
examples = each_over computed
