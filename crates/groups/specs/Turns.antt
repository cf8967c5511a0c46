-- Time by time, at each of the 64 places of group g: what holds as long as the case that stands there has not collided.
-- Assumes nothing.
use Rattle.std.specs.Prelude.{◌≡◌, Bool, true, not, List, ℕ, suc, ◌+◌, ◌*◌, ◌<◌}
use Rattle.scans.specs.First.{each}
use Rattle.meaning.specs.Guards.{bit_of}
use Rattle.meaning.specs.Jobs.{Job}
use Rattle.meaning.specs.Rows.{forced, cell, row_clear}
use Rattle.meaning.specs.Cases.{met_at}
use Rattle.meaning.specs.Answers.{empty, failing}
use Rattle.words.specs.declared.Pair.{Pair}
use Rattle.groups.specs.declared.times.Told.{Told}
use Rattle.groups.specs.declared.Answered.{Answered}
use Rattle.groups.specs.Held.{Held, clear}

-- no expectation is missed at time t
abbrev pub row_met : Job → ℕ → ℕ → Bool
row_met j x t = each (λ m. met_at j x t m (cell j x t m)) j.netlist.size

-- at place i the row holds what the gates force at time t in case x, and nothing has collided in it
pub record Alive (j : Job) (x t : ℕ) (row : List Pair) (i : ℕ) : Type 0 where
  pub held : Held j row i (forced j x t)
  pub free : clear j (forced j x t) ≡ true

-- time t: where the row is that of a case that has not collided, whether it does so now; if not, whether it misses an expectation now, and the row of
-- the time after
pub record Turns (j : Job) (g t : ℕ) (row row' : List Pair) (r : Told) : Type 0 where
  pub collided : (i : ℕ) → i < 64 → Alive j (64 * g + i) t row i → bit_of r.collided i ≡ not (row_clear j (64 * g + i) t)
  pub missed : (i : ℕ) → i < 64 → Alive j (64 * g + i) t row i → row_clear j (64 * g + i) t ≡ true → bit_of r.missed i ≡ not (row_met j (64 * g + i) t)
  pub next : (i : ℕ) → i < 64 → Alive j (64 * g + i) t row i → row_clear j (64 * g + i) t ≡ true → Alive j (64 * g + i) (suc t) row' i

-- the times before t: where a case has collided; if it has not, where it has missed an expectation
pub record Ran (j : Job) (g t : ℕ) (r : Told) : Type 0 where
  pub collided : (i : ℕ) → i < 64 → bit_of r.collided i ≡ not (each (row_clear j (64 * g + i)) t)
  pub missed : (i : ℕ) → i < 64 → each (row_clear j (64 * g + i)) t ≡ true → bit_of r.missed i ≡ not (each (row_met j (64 * g + i)) t)

-- group g: place i stands for case 64 g + i
pub record GroupTells (j : Job) (g : ℕ) (r : Answered) : Type 0 where
  pub empties : (i : ℕ) → i < 64 → bit_of r.empty i ≡ empty j (64 * g + i)
  pub failings : (i : ℕ) → i < 64 → bit_of r.failing i ≡ failing j (64 * g + i)
