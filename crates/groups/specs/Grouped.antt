-- What a group of sixty-four cases belongs to.
-- Assumes nothing.
use Rattle.std.specs.Prelude.{List, ℕ}
use Rattle.meaning.specs.declared.Clause.{Clause}
use Rattle.meaning.specs.Jobs.{Job}
use Rattle.decoded.specs.Plans.{ClauseWithin}
use Rattle.decoded.specs.Meant.{job_in}
use Rattle.decoded.specs.Walks.{timed}
use Rattle.groups.specs.declared.group.Group.{Group}

abbrev pub job_of : Group → Job
job_of s = job_in s.gates.now.plan.now

-- a clause speaks of the job's nodes and guards
abbrev pub Within : Group → Clause → Type 0
Within s k = let p = s.gates.now.plan.now in ClauseWithin p.size.n p.size.e k

-- the job's clauses of one time
abbrev pub clauses_at : Group → ℕ → List Clause
clauses_at s t = let p = s.gates.now.plan.now in timed p.clauses p.size.c t
