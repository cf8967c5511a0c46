-- `case_row`: no row so far has collided.
-- Assumes nothing.
use Rattle.std.proofs.Common.{◌≡◌, true}
use Rattle.scans.specs.First.{each}
use Rattle.meaning.specs.Rows.{row_clear}
use Rattle.decoded.specs.Meant.{job_in}
use Rattle.cases.proofs.AnswerLaws.{Come}
use Rattle.cases.proofs.case_row.Given as goal

abbrev pub invariant-loop : goal.invariant-loop
invariant-loop l = record {
  come : Come l.plan l.case l.counter l.run;
  clear : each (row_clear (job_in l.plan) l.case) l.counter ≡ true;
}
