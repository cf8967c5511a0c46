-- Kind by kind, the nodes are forced.
-- Assumes nothing.
use Rattle.std.proofs.Common.{sym, arith}
use borrow.Author.Rules.{rules}
use Rattle.decoded.specs.Meant.{job_in}
use Rattle.groups.proofs.SteadyLaws.{step_none, step_more, steps_all, every_gate}
use Rattle.groups.proofs.gates.Gates.step.Goals as goal

pub returns : goal.returns
returns c =
    let g = c.args.self.now in
    let sorted = rw (sym c.as_slice-wires.ensures.value) at g.sorted in
    let bufs = step_more (job_in g.plan.now) c.args.now.now (λ p q r new h. search rules) (λ e. omega arith) sorted.are_bufs c.visit.ensures (step_none (job_in g.plan.now) c.args.now.now c.requires) in
    let nots = step_more (job_in g.plan.now) c.args.now.now (λ p q r new h. search rules) (λ e. omega arith) sorted.are_nots c.visit-2.ensures bufs in
    let ands = step_more (job_in g.plan.now) c.args.now.now (λ p q r new h. search rules) (λ e. omega arith) sorted.are_ands c.visit-3.ensures nots in
    let ors = step_more (job_in g.plan.now) c.args.now.now (λ p q r new h. search rules) (λ e. omega arith) sorted.are_ors c.visit-4.ensures ands in
    let xors = step_more (job_in g.plan.now) c.args.now.now (λ p q r new h. search rules) (λ e. omega arith) sorted.are_xors c.visit-5.ensures ors in
    let muxes = step_more (job_in g.plan.now) c.args.now.now (λ p q r new h. search rules) (λ e. omega arith) sorted.are_muxes c.visit-6.ensures xors in
    record { steps = steps_all g.plan.now c.args.now.now every_gate muxes; steady = muxes.steady }
