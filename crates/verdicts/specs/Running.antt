-- Running a stored job: the tables of refusals of check, one case and row, and what each answers.
-- Assumes nothing.
use Rattle.std.specs.Prelude.{Result}
use Rattle.meaning.specs.declared.JobAnswer.{JobAnswer}
use Rattle.stored.specs.declared.Refusal.{Refusal}
use Rattle.meaning.specs.declared.CaseAnswer.{CaseAnswer}
use Rattle.std.specs.Prelude.{◌≡◌, List, [], ◌∷◌, ◌++◌, ℕ, suc, ◌/◌, ◌^◌, ltb, leb, length}
use Rattle.scans.specs.First.{each}
use Rattle.scans.specs.Refusals.{Stage, whole, in_order}
use Rattle.meaning.specs.Jobs.{Job}
use Rattle.meaning.specs.Rows.{row_clear, row_numbers}
use Rattle.meaning.specs.Cases.{case_answer}
use Rattle.meaning.specs.Answers.{job_answer}
use Rattle.meaning.specs.Stated.{Stated, stated_case, stated_job}
use Rattle.stored.specs.Layout.{header_sizes, records_of}
use Rattle.stored.specs.Reading.{read_stages, refused, lent, stated_by}
use Rattle.stored.specs.Packing.{written}
use Rattle.stored.specs.Decoding.{job_of}

-- the job that stored bytes mean
abbrev pub job_in : List ℕ → Job
job_in s = job_of (records_of s)

-- check: 1-10, as reading has them
abbrev pub check_stages : List ℕ → List Stage
check_stages s = read_stages s (length s / 512)

unfoldable pub check_answer : List ℕ → Stated
check_answer s = in_order refused (check_stages s) (stated_job (job_answer (job_in s)))

-- one case: 1-10, then 11 CASE: case not below 2^k
abbrev pub case_stages : List ℕ → ℕ → List Stage
case_stages s x = check_stages s ++ whole 11 (ltb x (2 ^ (header_sizes s).k)) ∷ []

unfoldable pub one_case_answer : List ℕ → ℕ → Stated
one_case_answer s x = in_order refused (case_stages s x) (stated_case (case_answer (job_in s) x))

-- row: 1-11, then 12 TIME: time above 255; 13 ROOM: a lent output is too short; 14 EMPTY: the case collides at or before the asked time
abbrev pub row_stages : List ℕ → ℕ → ℕ → ℕ → List Stage
row_stages s x t room =
    case_stages s x
    ++ whole 12 (leb t 255)
    ∷ whole 13 (leb (header_sizes s).n room)
    ∷ whole 14 (each (row_clear (job_in s) x) (suc t))
    ∷ []

unfoldable pub row_answer : List ℕ → ℕ → ℕ → ℕ → Stated
row_answer s x t room = in_order refused (row_stages s x t room) (written (header_sizes s).n)

abbrev pub stated_checked : Result JobAnswer Refusal → Stated
stated_checked = stated_by stated_job

abbrev pub stated_case_checked : Result CaseAnswer Refusal → Stated
stated_case_checked = stated_by stated_case

abbrev pub stated_row : Result ℕ Refusal → Stated
stated_row = stated_by written

-- what row promises: the answer, and the lent output after it, n bytes 0, 1, or 2 for X
pub record GivesRow (job : List ℕ) (x t : ℕ) (out out' : List ℕ) (r : Result ℕ Refusal) : Type 0 where
  pub answer : stated_row r ≡ row_answer job x t (length out)
  pub out_is : out' ≡ lent (row_answer job x t (length out)) (row_numbers (job_in job) x t (header_sizes job).n) out
