-- What a run of a case knows: the guards of the case, and the cells of the row that it has come to.
-- Assumes nothing.
use Rattle.std.specs.Prelude.{◌≡◌, Bool, not, ◌&&◌, Option, None, List, ℕ, suc}
use Rattle.scans.specs.First.{first_bad, place_in}
use Rattle.meaning.specs.declared.CaseAnswer.{CaseAnswer}
use Rattle.meaning.specs.Values.{Cell, has, bit}
use Rattle.meaning.specs.Cases.{met_at, answer_at}
use Rattle.meaning.specs.Guards.{truth}
use Rattle.meaning.specs.declared.Side.{Side}
use Rattle.meaning.specs.declared.Side.TheVariants.{Expectation}
use Rattle.meaning.specs.declared.Clause.{Clause}
use Rattle.meaning.specs.Jobs.{Job, same_side}
use Rattle.meaning.specs.Rows.{cell}
use Rattle.decoded.specs.declared.Plan.{Plan}
use Rattle.decoded.specs.Meant.{job_in}
use Rattle.cases.specs.declared.values.Value.{Value}
use Rattle.cases.specs.Cells.{Shows}

-- the row is that of the time before `next`; at time 0 it may be any row
pub record Before (p : Plan) (x next : ℕ) (row : List (Option Value)) : Type 0 where
  pub shows : (t : ℕ) → next ≡ suc t → Shows p.size.n row (cell (job_in p) x t)

-- the clause is of this side, and its guard is true in the case
abbrev pub counts : Job → ℕ → Side → Clause → Bool
counts j x side k = same_side k.side side && truth j.expressions x k.guard

-- the clause is an expectation that counts, and the row has not its value
abbrev pub misses : Job → ℕ → (ℕ → Cell) → Clause → Bool
misses j x row k = counts j x Expectation k && not (has (row k.node) (bit k.value))

-- the lowest node at which a row misses the expectation of time t
abbrev pub lowest_missed : Job → ℕ → ℕ → (ℕ → Cell) → Option ℕ
lowest_missed j x t row = first_bad (λ m. met_at j x t m (row m)) j.netlist.size

-- what the expectation of time t says of a row in case x
abbrev pub judged : Job → ℕ → ℕ → (ℕ → Cell) → CaseAnswer
judged j x t row = answer_at j x (λ _. row) None (place_in t (lowest_missed j x t row))
