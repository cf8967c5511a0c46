-- What a caller is told, and what each lent slice then holds.
-- Assumes nothing.
use Rattle.std.specs.Prelude.{◌≡◌, cond, List, ◌++◌, ℕ, leb, length, drop}
use Rattle.meaning.specs.Stated.{Stated}
use Rattle.meaning.specs.Rows.{row_numbers}
use Rattle.stored.specs.Layout.{Records, stored, header_sizes, records_of}
use Rattle.stored.specs.Reading.{unpack_answer, lent}
use Rattle.stored.specs.Packing.{pack_answer}
use Rattle.verdicts.specs.Running.{job_in, row_answer}
use Rattle.boundary.specs.Words.{word_number}
use Rattle.boundary.specs.Answer.{answer_bytes}

-- an operation is tried only if its answer has room for forty bytes; else this is as it was
abbrev pub if_room : {A : Type 0} → List ℕ → A → A → A
if_room answer tried kept = cond (leb 40 (length answer)) tried kept

-- the result is the word's number, 0 if nothing was tried; bytes past the forty stay
pub record Told (a : Stated) (answer answer' : List ℕ) (result : ℕ) : Type 0 where
  pub result_is : result ≡ if_room answer (word_number a.word) 0
  pub answer_is : answer' ≡ if_room answer (answer_bytes a ++ drop 40 answer) answer

pub record UnpackTold (job nodes expressions clauses answer nodes' expressions' clauses' answer' : List ℕ) (result : ℕ) : Type 0 where
  pub told : Told (unpack_answer job (length nodes) (length expressions) (length clauses)) answer answer' result
  pub nodes_are : nodes' ≡ if_room answer (lent (unpack_answer job (length nodes) (length expressions) (length clauses)) (records_of job).nodes nodes) nodes
  pub expressions_are : expressions' ≡ if_room answer (lent (unpack_answer job (length nodes) (length expressions) (length clauses)) (records_of job).expressions expressions) expressions
  pub clauses_are : clauses' ≡ if_room answer (lent (unpack_answer job (length nodes) (length expressions) (length clauses)) (records_of job).clauses clauses) clauses

pub record PackTold (r : Records) (out answer out' answer' : List ℕ) (result : ℕ) : Type 0 where
  pub told : Told (pack_answer r (length out)) answer answer' result
  pub out_is : out' ≡ if_room answer (lent (pack_answer r (length out)) (stored r) out) out

pub record RowTold (job : List ℕ) (x t : ℕ) (out answer out' answer' : List ℕ) (result : ℕ) : Type 0 where
  pub told : Told (row_answer job x t (length out)) answer answer' result
  pub out_is : out' ≡ if_room answer (lent (row_answer job x t (length out)) (row_numbers (job_in job) x t (header_sizes job).n) out) out
