-- Clauses chained by their time: from a time to its first clause, and from a clause to the next of the same time.
-- Assumes nothing.
use Rattle.std.specs.Prelude.{◌≡◌, cond, List, ℕ, zero, suc, ◌-◌, ◌≤◌, ◌<◌, length, get_or}
use Rattle.meaning.specs.declared.Clause.{Clause}
use Rattle.meaning.specs.Jobs.{on}

-- of the last d of c clauses, the first one of time t; c if there is none
unfoldable pub next_of : (ℕ → Clause) → ℕ → ℕ → ℕ → ℕ
next_of clause c t zero = c
next_of clause c t (suc d) = cond (on (clause (c - suc d)) t) (c - suc d) (next_of clause c t d)

-- the first clause of time t from index i on
abbrev pub next_from : (ℕ → Clause) → ℕ → ℕ → ℕ → ℕ
next_from clause c t i = next_of clause c t (c - i)

-- the chains of the clauses from index i on
pub record Chained (clause : ℕ → Clause) (c i : ℕ) (heads nexts : List ℕ) : Type 0 where
  pub within : i ≤ c
  pub heads_long : length heads ≡ 256
  pub nexts_long : c ≤ length nexts
  pub head : (t : ℕ) → t < 256 → get_or heads t 0 ≡ next_from clause c t i
  pub next : (m : ℕ) → i ≤ m → m < c → get_or nexts m 0 ≡ next_from clause c (clause m).time (suc m)
