-- The cases of the groups before the loop's place are counted.
-- Assumes nothing.
use Rattle.std.proofs.Common.{◌*◌, ◌^◌, min}
use Rattle.meaning.specs.Answers.{failing, empty}
use Rattle.decoded.specs.Meant.{job_in}
use Rattle.tallies.specs.Counting.{FoundIn}
use Rattle.tallies.proofs.count_cases.Given as goal

abbrev pub invariant-loop-g : goal.invariant-loop-g
invariant-loop-g l =
    record {
      failing : FoundIn (failing (job_in l.plan)) (min (64 * l.g) (2 ^ l.plan.size.k)) l.failing;
      empty : FoundIn (empty (job_in l.plan)) (min (64 * l.g) (2 ^ l.plan.size.k)) l.empty;
    }
