-- Row after row.
-- Assumes nothing.
use Rattle.std.proofs.Common.{◌≡◌, ◌+◌, sym, ◌∙◌, add-one, arith}
use Rattle.cases.proofs.AnswerLaws.{Come, come_more, rows_none, rows_clear, rows_collide, shown}
use Rattle.cases.proofs.case_row.Goals as goal
use Rattle.cases.proofs.case_row.Goals.{After-is_some, else-loop-test, then-loop-test+else-is_some+else-counter-time}

pub loop-init : goal.loop-init
loop-init c =
    let e = c.new-run.ensures in
    record { come = record { plan = e.plan; case = e.case; next = e.next }; clear = rows_none c.args.plan.now c.args.case }

pub step-requires : goal.step-requires
step-requires c = omega (arith, c.loop.invariant.come.next)

come : (c : After-is_some) → Come c.args.plan.now c.args.case (c.loop.counter + 1) c.step.new.self
come c = let e = c.step.ensures in come_more c.loop.invariant.come e.plan e.case e.next

pub returns-then-is_some : goal.returns-then-is_some
returns-then-is_some c =
    let here = come (goal.at.returns-then-is_some c).After-is_some in
    rows_collide c.args.plan.now c.args.case c.loop.counter here c.collided.ensures c.args.time c.loop-test.true (sym c.is_some.ensures ∙ c.if-is_some.true)

pub loop-preserved : goal.loop-preserved
loop-preserved c =
    let here = come (goal.at.loop-preserved c).After-is_some in
    record { come = here; clear = rw add-one (rows_clear c.args.plan.now c.args.case c.loop.counter here c.collided.ensures c.loop.invariant.clear (sym c.is_some.ensures ∙ c.if-is_some.false)) }

pub returns : goal.returns
returns c =
    let p = c.args.plan.now in
    let x = c.args.case in
    let old = c.loop.invariant in
    elim c.loop-test.branch [
      | else-loop-test w ↦ absurd (omega arith)
      | then-loop-test+else-is_some+else-counter-time w ↦
          let e = w.step.ensures in
          let last : c.loop.counter ≡ c.args.time = omega arith in
          let there = come_more {r' = w.step.new.self} old.come e.plan e.case e.next in
          let here : Come p x (c.args.time + 1) c.loop-test.run = rw (w.run-is, ← last) there in (
            rw (← last) (rows_clear p x c.loop.counter there w.collided.ensures old.clear (sym w.is_some.ensures ∙ w.if-is_some.false)),
            shown p x c.args.time here c.numbers.result (omega (arith, p.decoded.n_most)) (λ m h. c.numbers.ensures m (omega (arith, p.decoded.n_most))),
          )
    ]
