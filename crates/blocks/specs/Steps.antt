-- What the functions of this crate promise: places of records, and the records' rules looked at where they stand.
-- Assumes nothing.
use Rattle.std.specs.Prelude.{◌≡◌, ℕ, ◌+◌, ◌*◌, ◌/◌, ◌%◌, List, [], ◌∷◌, Option, None, Some, Result}
use Rattle.scans.specs.Refusals.{Stage, in_order}
use Rattle.meaning.specs.Stated.{Stated}
use Rattle.stored.specs.declared.Refusal.{Refusal}
use Rattle.stored.specs.declared.Size.{Size}
use Rattle.stored.specs.Bytes.{u16_at}
use Rattle.stored.specs.Layout.{first_expressions, first_clauses}
use Rattle.stored.specs.Rules.{node_ok, expression_ok, clause_ok}
use Rattle.stored.specs.Reading.{per_record, refused}
use Rattle.stored.specs.Checked.{followed}

abbrev pub word_at : List ℕ → ℕ → ℕ
word_at s i = u16_at s i + 65536 * u16_at s (i + 2)

-- where record i stands: in the blocks from block first on, or, with no such block, in a list by itself
abbrev pub spot : Option ℕ → ℕ → ℕ
spot None i = 8 * i
spot (Some first) i = 512 * (first + i / 63) + 4 + 8 * (i % 63)

-- the three stages of the records' rules, wherever the records stand
abbrev pub spotted_stages : Size → List ℕ → Option ℕ → List ℕ → Option ℕ → List ℕ → Option ℕ → List Stage
spotted_stages z nodes n1 expressions e1 clauses c1 =
    per_record 8 1 z.n (λ i. node_ok z.n nodes (spot n1 i))
    ∷ per_record 9 (first_expressions z) z.e (λ i. expression_ok z.k i expressions (spot e1 i))
    ∷ per_record 10 (first_clauses z) z.c (λ i. clause_ok z.n z.e clauses (spot c1 i))
    ∷ []

-- the rules have been looked at: they are followed by what comes next, or by a refusal of the table
pub record Follows (z : Size) (nodes : List ℕ) (n1 : Option ℕ) (expressions : List ℕ) (e1 : Option ℕ) (clauses : List ℕ) (c1 : Option ℕ) (r : Result Unit Refusal) : Type 0 where
  pub is : (next : Stated) → followed r next ≡ in_order refused (spotted_stages z nodes n1 expressions e1 clauses c1) next
