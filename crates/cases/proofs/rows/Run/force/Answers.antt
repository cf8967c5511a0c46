-- X at time 0, then what the gates force from the row before.
-- Assumes nothing.
use Rattle.std.proofs.Common.{length, arith, rules, tests}
use Rattle.meaning.specs.Rows.{forced}
use Rattle.decoded.specs.Meant.{job_in}
use Rattle.cases.specs.Cells.{Shows}
use Rattle.cases.proofs.RowLaws.{forced_first, forced_next}
use Rattle.cases.proofs.rows.Run.force.Goals as goal

pub returns-then-self-eq0 : goal.returns-then-self-eq0
returns-then-self-eq0 c =
    let s = c.args.self.now in
    let filled = c.fill.ensures.after (λ y k. search (rules, tests)) in
    let first = forced_first s.plan.now s.case s.next (length c.args.row.now) (omega (arith, s.plan.now.decoded.n_most, c.told-row)) c.if-self-eq0.true in
    let shows : Shows s.plan.now.size.n c.fill.new.self (forced (job_in s.plan.now) s.case s.next) = rw filled first in
    shows

pub returns : goal.returns
returns c =
    let s = c.args.self.now in
    forced_next s.plan.now s.case s.next s.row c.forced_row.new.next c.if-self-eq0.false s.before c.forced_row.ensures
