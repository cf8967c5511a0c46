-- The clauses of one time: those of a job, and those that a walk over them has left.
-- Assumes nothing.
use Rattle.std.specs.Prelude.{List, ℕ, filter, take, drop}
use Rattle.meaning.specs.declared.Clause.{Clause}
use Rattle.meaning.specs.Jobs.{on}

-- of the first c clauses those of time t, from number i on
abbrev pub timed_from : List Clause → ℕ → ℕ → ℕ → List Clause
timed_from clauses c t i = filter (λ k. on k t) (drop i (take c clauses))

-- of the first c clauses those of time t, in their order
abbrev pub timed : List Clause → ℕ → ℕ → List Clause
timed clauses c t = filter (λ k. on k t) (take c clauses)
