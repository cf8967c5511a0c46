-- `case_answer`: no row so far has collided, and the first miss is answered.
-- Assumes nothing.
use Rattle.cases.proofs.AnswerLaws.{Come, Searched}
use Rattle.cases.proofs.case_answer.Given as goal

abbrev pub invariant-loop-time : goal.invariant-loop-time
invariant-loop-time l = record {
  come : Come l.plan l.case l.time l.run;
  searched : Searched l.plan l.case l.time l.answer;
}
