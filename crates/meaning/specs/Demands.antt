-- Demand 3 in its own words: what an answer says of runs.
-- Assumes nothing.
use Rattle.std.specs.Prelude.{◌≡◌, ◌⊎◌, ◌↔◌, false, not, ℕ, ◌≤◌, ◌<◌, T}
use Rattle.meaning.specs.declared.CaseAnswer.{CaseAnswer}
use Rattle.meaning.specs.declared.CaseAnswer.TheVariants.{Passes, Empty, Fails}
use Rattle.meaning.specs.declared.JobAnswer.{JobAnswer}
use Rattle.meaning.specs.declared.JobAnswer.TheVariants.{Holds, Vacant}
use Rattle.meaning.specs.Values.{collides, number}
use Rattle.meaning.specs.declared.Side.TheVariants.{Expectation}
use Rattle.meaning.specs.Jobs.{Job, cases, last_time}
use Rattle.meaning.specs.Rows.{cell}
use Rattle.meaning.specs.Runs.{States, Meets, Meeting, MissedBy, Misses, Weakest}
use Rattle.meaning.specs.Answers.{counts_of}

-- some run meets the stimulus, and every such run meets the expectation
pub record Passing (j : Job) (x : ℕ) : Type 0 where
  pub some : (s : States) × Meeting j x (last_time j) s
  pub every : (s : States) → Meeting j x (last_time j) s → Meets j Expectation x (last_time j) s

-- a run meets the stimulus and misses the expectation
pub record Failing (j : Job) (x : ℕ) : Type 0 where
  pub run : States
  pub meeting : Meeting j x (last_time j) run
  pub misses : Misses j x run

-- no run meets the stimulus
abbrev pub Unmet : Job → ℕ → Type 0
Unmet j x = (s : States) → Meeting j x (last_time j) s → ⊥

-- (t, n) comes before (t', n'): by time, then by node
abbrev pub Before : ℕ → ℕ → ℕ → ℕ → Type 0
Before t n t' n' = (t < t') ⊎ ((t ≡ t') × (n < n'))

-- the first time and node missed by the weakest run, what it has there, and what was wanted
pub record FirstMissed (j : Job) (x t n wanted found : ℕ) : Type 0 where
  pub run : States
  pub weakest : Weakest j x (last_time j) run
  pub here : (i : ℕ) × MissedBy j x run t n i
  pub before : (t' n' i : ℕ) → Before t' n' t n → ¬ (MissedBy j x run t' n' i)
  pub found_is : found ≡ number (run t n)
  pub wanted_0 : (wanted ≡ 0) ↔ ((i : ℕ) × MissedBy j x run t n i × ((j.clause i).value ≡ false))
  pub wanted_1 : wanted ≤ 1

-- the first time at which a node collides, and the lowest node colliding then
pub record FirstCollision (j : Job) (x t n : ℕ) : Type 0 where
  pub in_time : t ≤ last_time j
  pub in_row : n < j.netlist.size
  pub here : T (collides (cell j x t n))
  pub before : (t' n' : ℕ) → n' < j.netlist.size → Before t' n' t n → T (not (collides (cell j x t' n')))

-- what the answer for case x says
abbrev pub CaseSays : Job → ℕ → CaseAnswer → Type 0
CaseSays j x Passes = Passing j x
CaseSays j x (Empty t n) = Unmet j x × FirstCollision j x t n
CaseSays j x (Fails t n w f) = FirstMissed j x t n w f

-- the first case of which P holds
pub record FirstCase (j : Job) (P : ℕ → Type 0) (x : ℕ) : Type 0 where
  pub below : x < cases j
  pub here : P x
  pub before : (y : ℕ) → y < x → ¬ (P y)

-- in every case some run meets the stimulus and every such run meets the expectation
abbrev pub EveryCasePasses : Job → Type 0
EveryCasePasses j = (x : ℕ) → x < cases j → Passing j x

-- in some case a run meets the stimulus and misses the expectation
abbrev pub SomeCaseFails : Job → Type 0
SomeCaseFails j = (x : ℕ) × (x < cases j) × Failing j x

-- what the answer for the job says
abbrev pub JobSays : Job → JobAnswer → Type 0
JobSays j (Holds c) = (c ≡ counts_of j) × EveryCasePasses j
JobSays j (JobAnswer.Fails c x t n w f) = (c ≡ counts_of j) × FirstCase j (Failing j) x × FirstMissed j x t n w f
JobSays j (Vacant c x t n) = (c ≡ counts_of j) × ¬ (SomeCaseFails j) × FirstCase j (Unmet j) x × FirstCollision j x t n
