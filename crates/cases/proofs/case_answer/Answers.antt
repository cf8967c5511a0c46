-- Row after row.
-- Assumes nothing.
use Rattle.std.proofs.Common.{◌≡◌, ◌+◌, Some, suc, arith, rules, tests}
use Rattle.cases.proofs.AnswerLaws.{last_small, Searched, Come, come_more, searched_none, searched_judged, searched_stays, searched_found, empty_is, answer_is}
use Rattle.cases.proofs.case_answer.Goals as goal
use Rattle.cases.proofs.case_answer.Goals.{Joined-answer, in-Passes, in_default-answer}

pub loop-time-init : goal.loop-time-init
loop-time-init c =
    let e = c.new-run.ensures in
    record { come = record { plan = e.plan; case = e.case; next = e.next }; searched = searched_none _ _ }

pub step-requires : goal.step-requires
step-requires c = omega (arith, c.loop-time.invariant.come.next, last_small c.args.plan.now)

pub returns-in-Some : goal.returns-in-Some
returns-in-Some c =
    let p = c.args.plan.now in
    let old = c.loop-time.invariant in
    let e = c.step.ensures in
    let is : c.collided.result ≡ Some c.in-Some.node = search (rules, tests) in
    let found = searched_found p c.args.case c.loop-time.time (come_more {r' = c.step.new.self} old.come e.plan e.case e.next) old.searched c.collided.ensures in
    empty_is p c.args.case p.last_is (found p.last c.loop-time-test.true is)

pub judged-answer-requires : goal.judged-answer-requires
judged-answer-requires c = omega (arith, last_small c.args.plan.now)

come : (c : Joined-answer) → Come c.args.plan.now c.args.case (c.loop-time.time + 1) c.step.new.self
come c = let e = c.step.ensures in come_more c.loop-time.invariant.come e.plan e.case e.next

searched : (c : Joined-answer) → Searched c.args.plan.now c.args.case (c.loop-time.time + 1) c.match-answer.answer
searched c =
    let p = c.args.plan.now in
    let t = c.loop-time.time in
    let before = c.loop-time.invariant.searched in
    elim c.match-answer.branch [
      | in-Passes w ↦ rw w.answer-is (searched_judged p c.args.case t (come c) before c.collided.ensures c.in_default.is w.in-Passes.is w.judged-answer.ensures)
      | in_default-answer w ↦ rw w.answer-is (searched_stays p c.args.case t (come c) before c.collided.ensures c.in_default.is w.in_default-answer.not-Passes)
    ]

pub loop-time-preserved : goal.loop-time-preserved
loop-time-preserved c = let here = (goal.at.loop-time-preserved c).Joined-answer in record { come = come here; searched = searched here }

pub returns-after-answer : goal.returns-after-answer
returns-after-answer c =
    let p = c.args.plan.now in
    let end : c.loop-time.time + 1 ≡ suc p.last = omega arith in
    answer_is p c.args.case p.last_is (rw end at (searched (goal.at.returns-after-answer c).Joined-answer))
