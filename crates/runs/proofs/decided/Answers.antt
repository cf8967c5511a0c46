-- `decided`: an answer for each answer of a case.
-- Assumes nothing.
use mathlib.Core.Path.{sym, ap}
use Rattle.meaning.specs.Answers.{decided_by}
use Rattle.runs.proofs.decided.Goals as goal

pub returns-in-Passes : goal.returns-in-Passes
returns-in-Passes c = ap (decided_by _ _) (sym c.in-Passes.is)

pub returns-in-Empty : goal.returns-in-Empty
returns-in-Empty c = ap (decided_by _ _) (sym c.in-Empty.is)

pub returns-in-Fails : goal.returns-in-Fails
returns-in-Fails c = ap (decided_by _ _) (sym c.in-Fails.is)
