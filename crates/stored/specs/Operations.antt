-- What unpack and pack promise: the answer, and every lent list after it.
-- Assumes nothing.
use Rattle.std.specs.Prelude.{Result}
use Rattle.stored.specs.declared.Size.{Size}
use Rattle.stored.specs.declared.Refusal.{Refusal}
use Rattle.std.specs.Prelude.{◌≡◌, List, ℕ, length}
use Rattle.stored.specs.Layout.{Records, stored, records_of}
use Rattle.stored.specs.Reading.{unpack_answer, lent, stated_read}
use Rattle.stored.specs.Packing.{pack_answer, stated_packed}

pub record Unpacks (job nodes expressions clauses nodes' expressions' clauses' : List ℕ) (r : Result Size Refusal) : Type 0 where
  pub answer : stated_read r ≡ unpack_answer job (length nodes) (length expressions) (length clauses)
  pub nodes_are : nodes' ≡ lent (unpack_answer job (length nodes) (length expressions) (length clauses)) (records_of job).nodes nodes
  pub expressions_are : expressions' ≡ lent (unpack_answer job (length nodes) (length expressions) (length clauses)) (records_of job).expressions expressions
  pub clauses_are : clauses' ≡ lent (unpack_answer job (length nodes) (length expressions) (length clauses)) (records_of job).clauses clauses

-- records by their parts
abbrev pub records_for : ℕ → List ℕ → List ℕ → List ℕ → Records
records_for k nodes expressions clauses = record { k = k; nodes = nodes; expressions = expressions; clauses = clauses }

pub record Packs (r : Records) (out out' : List ℕ) (p : Result ℕ Refusal) : Type 0 where
  pub answer : stated_packed p ≡ pack_answer r (length out)
  pub out_is : out' ≡ lent (pack_answer r (length out)) (stored r) out
