-- What the program makes of the bytes that it read.
-- Assumes nothing.
use Rattle.std.specs.Prelude.{◌≡◌, List, ℕ, ◌≤◌, length, Result}
use Rattle.meaning.specs.declared.JobAnswer.{JobAnswer}
use Rattle.stored.specs.declared.Refusal.{Refusal}
use Rattle.verdicts.specs.Running.{check_answer, stated_checked}
use Rattle.lines.specs.Lines.{checked_line}
use Rattle.lines.specs.Written.{Gives}

-- the line of what check answers for the job, in lent bytes, of which 256 are enough
pub record Tells (job out out' : List ℕ) (n : ℕ) : Type 0 where
  pub answer : Result JobAnswer Refusal
  pub answers : stated_checked answer ≡ check_answer job
  pub given : Gives (checked_line answer) out out' n
  pub fits : length (checked_line answer) ≤ 256
