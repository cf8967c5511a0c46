-- What 01 states for each case of an answer: its word, and its numbers in 01's order.
-- Assumes nothing.
use Rattle.std.specs.Prelude.{Bool, true, false, List, [], ◌∷◌, ℕ}
use Rattle.meaning.specs.declared.CaseAnswer.{CaseAnswer}
use Rattle.meaning.specs.declared.CaseAnswer.TheVariants.{Passes, Empty, Fails}
use Rattle.meaning.specs.declared.Counts.{Counts}
use Rattle.meaning.specs.declared.JobAnswer.{JobAnswer}
use Rattle.meaning.specs.declared.JobAnswer.TheVariants.{Holds, Vacant}

-- DONE: what was asked for is given, and 01 has no word for it
pub data Word : Type 0 where
  DONE REFUSED PASSES EMPTY FAILS HOLDS VACANT : Word

abbrev pub is_done : Word → Bool
is_done DONE = true
is_done REFUSED = false
is_done PASSES = false
is_done EMPTY = false
is_done FAILS = false
is_done HOLDS = false
is_done VACANT = false

pub record Stated : Type 0 where
  pub word : Word
  pub numbers : List ℕ

abbrev pub state : Word → List ℕ → Stated
state w ns = record { word = w; numbers = ns }

-- EMPTY: time, node. FAILS: time, node, wanted, found
abbrev pub stated_case : CaseAnswer → Stated
stated_case Passes = state PASSES []
stated_case (Empty t n) = state EMPTY (t ∷ n ∷ [])
stated_case (Fails t n w f) = state FAILS (t ∷ n ∷ w ∷ f ∷ [])

abbrev pub with_counts : Counts → List ℕ → List ℕ
with_counts c rest = c.cases ∷ c.passing ∷ c.failing ∷ c.empty ∷ rest

-- the counts; then for FAILS case, time, node, wanted, found, and for VACANT case, time, node
abbrev pub stated_job : JobAnswer → Stated
stated_job (Holds c) = state HOLDS (with_counts c [])
stated_job (JobAnswer.Fails c x t n w f) = state FAILS (with_counts c (x ∷ t ∷ n ∷ w ∷ f ∷ []))
stated_job (Vacant c x t n) = state VACANT (with_counts c (x ∷ t ∷ n ∷ []))
