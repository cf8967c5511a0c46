-- The job that a plan is.
-- Assumes nothing.
use Rattle.meaning.specs.Jobs.{Job}
use Rattle.decoded.specs.declared.Plan.{Plan}
use Rattle.decoded.specs.Plans.{job_from}

abbrev pub job_in : Plan → Job
job_in p = job_from p.size p.nodes p.expressions p.clauses
