-- A job made ready to run: the plan that it is.
-- Assumes nothing.
use Rattle.std.specs.Prelude.{◌≡◌, Result, MatchResult, List, ℕ}
use Rattle.stored.specs.declared.Refusal.{Refusal}
use Rattle.stored.specs.Layout.{records_of}
use Rattle.stored.specs.Reading.{refused, accepted_as, read_answer}
use Rattle.stored.specs.Decoding.{job_of}
use Rattle.decoded.specs.declared.Plan.{Plan}
use Rattle.decoded.specs.Meant.{job_in}

-- reading accepts the job, and the plan is the job that the bytes mean
pub record Ready (job : List ℕ) (p : Plan) : Type 0 where
  pub read : read_answer job ≡ accepted_as p.size
  pub means : job_in p ≡ job_of (records_of job)

-- reading's own refusal; where it accepts, a plan that is ready
abbrev pub Readied : List ℕ → Result Plan Refusal → Type 0
Readied job r = MatchResult r (Ready job) (λ x. read_answer job ≡ refused x.number x.block x.«record»)
