-- The answer for one case, from its rows.
-- Assumes nothing.
use Rattle.std.specs.Prelude.{Option, None, Some}
use Rattle.std.specs.Prelude.{Bool, true, false, not, ◌&&◌, cond, ℕ, suc}
use Rattle.meaning.specs.declared.CaseAnswer.{CaseAnswer}
use Rattle.meaning.specs.declared.CaseAnswer.TheVariants.{Passes, Empty, Fails}
use Rattle.meaning.specs.Values.{Cell, collides, has, bit, cell_number}
use Rattle.meaning.specs.declared.Clause.{Clause}
use Rattle.meaning.specs.declared.Side.TheVariants.{Expectation}
use Rattle.meaning.specs.Jobs.{Job, asks, last_time}
use Rattle.meaning.specs.Rows.{cell}
use Rattle.scans.specs.First.{each, first_place}

-- c is an expectation that speaks of node n at time t in case x, and the row's value differs from it, X included
abbrev pub missed : Job → ℕ → ℕ → ℕ → Cell → Clause → Bool
missed j x t n here c = asks j Expectation x t n c && not (has here (bit c.value))

-- no expectation is missed there
unfoldable pub met_at : Job → ℕ → ℕ → ℕ → Cell → Bool
met_at j x t n here = each (λ i. not (missed j x t n here (j.clause i))) j.count

-- what is wanted there: 0 if a missed clause wants 0, else 1
unfoldable pub wanted_at : Job → ℕ → ℕ → ℕ → Cell → ℕ
wanted_at j x t n here = cond (each (λ i. not (missed j x t n here (j.clause i) && not (j.clause i).value)) j.count) 1 0

-- a collision first, then a miss, else the case passes
abbrev pub answer_at : Job → ℕ → (ℕ → ℕ → Cell) → Option (ℕ × ℕ) → Option (ℕ × ℕ) → CaseAnswer
answer_at j x rows (Some (t, n)) miss = Empty t n
answer_at j x rows None (Some (t, n)) = Fails t n (wanted_at j x t n (rows t n)) (cell_number (rows t n))
answer_at j x rows None None = Passes

abbrev pub first_collision : Job → (ℕ → ℕ → Cell) → Option (ℕ × ℕ)
first_collision j rows = first_place (λ t n. not (collides (rows t n))) (suc (last_time j)) j.netlist.size

abbrev pub first_miss : Job → ℕ → (ℕ → ℕ → Cell) → Option (ℕ × ℕ)
first_miss j x rows = first_place (λ t n. met_at j x t n (rows t n)) (suc (last_time j)) j.netlist.size

-- the answer that rows give, whatever rows they are
unfoldable pub answer_of : Job → ℕ → (ℕ → ℕ → Cell) → CaseAnswer
answer_of j x rows = answer_at j x rows (first_collision j rows) (first_miss j x rows)

unfoldable pub case_answer : Job → ℕ → CaseAnswer
case_answer j x = answer_of j x (cell j x)

abbrev pub is_passes : CaseAnswer → Bool
is_passes Passes = true
is_passes (Empty t n) = false
is_passes (Fails t n w f) = false

abbrev pub is_empty : CaseAnswer → Bool
is_empty Passes = false
is_empty (Empty t n) = true
is_empty (Fails t n w f) = false

abbrev pub is_fails : CaseAnswer → Bool
is_fails Passes = false
is_fails (Empty t n) = false
is_fails (Fails t n w f) = true
