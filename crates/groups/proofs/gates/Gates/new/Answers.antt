-- Kind by kind the gates are put in one list, in which there is room for all.
-- Assumes nothing.
use Rattle.std.proofs.Common.{◌≡◌, [], length, arith}
use borrow.Author.Rules.{rules}
use Rattle.decoded.specs.Meant.{job_in}
use Rattle.groups.proofs.KindLaws.{few_gates, longer, sorted_of}
use Rattle.groups.proofs.gates.Gates.new.Goals as goal

pub gather-requires : goal.gather-requires
gather-requires c =
    let p = c.args.plan.now in
    let none : c.new-wires.result.items ≡ [] = search rules in
    rw none (omega (arith, few_gates (job_in p) p.size.n, p.decoded.n_most))

pub gather-requires-2 : goal.gather-requires-2
gather-requires-2 c =
    let p = c.args.plan.now in
    let none : length c.new-wires.result.items ≡ 0 = search rules in
    omega (arith, few_gates (job_in p) p.size.n, p.decoded.n_most, none, longer c.gather.ensures)

pub gather-requires-3 : goal.gather-requires-3
gather-requires-3 c =
    let p = c.args.plan.now in
    let none : length c.new-wires.result.items ≡ 0 = search rules in
    omega (arith, few_gates (job_in p) p.size.n, p.decoded.n_most, none, longer c.gather.ensures, longer c.gather-2.ensures)

pub gather-requires-4 : goal.gather-requires-4
gather-requires-4 c =
    let p = c.args.plan.now in
    let none : length c.new-wires.result.items ≡ 0 = search rules in
    omega (arith, few_gates (job_in p) p.size.n, p.decoded.n_most, none, longer c.gather.ensures, longer c.gather-2.ensures, longer c.gather-3.ensures)

pub gather-requires-5 : goal.gather-requires-5
gather-requires-5 c =
    let p = c.args.plan.now in
    let none : length c.new-wires.result.items ≡ 0 = search rules in
    omega (arith, few_gates (job_in p) p.size.n, p.decoded.n_most, none, longer c.gather.ensures, longer c.gather-2.ensures, longer c.gather-3.ensures, longer c.gather-4.ensures)

pub gather-requires-6 : goal.gather-requires-6
gather-requires-6 c =
    let p = c.args.plan.now in
    let none : length c.new-wires.result.items ≡ 0 = search rules in
    omega (arith, few_gates (job_in p) p.size.n, p.decoded.n_most, none, longer c.gather.ensures, longer c.gather-2.ensures, longer c.gather-3.ensures, longer c.gather-4.ensures, longer c.gather-5.ensures)

pub invariant_of-result : goal.invariant_of-result
invariant_of-result c =
    let none : c.new-wires.result.items ≡ [] = search rules in
    rw (c.len-nots.ensures.value, c.len-ands.ensures.value, c.len-ors.ensures.value, c.len-xors.ensures.value, c.len-muxes.ensures.value)
    (record { sorted = sorted_of (rw none at c.gather.ensures) c.gather-2.ensures c.gather-3.ensures c.gather-4.ensures c.gather-5.ensures c.gather-6.ensures })
