-- One more group is counted.
-- Assumes nothing.
use Rattle.std.proofs.Common.{◌*◌, ◌^◌, ◌≤◌, ◌<◌, arith}
use Rattle.meaning.specs.Answers.{failing, empty}
use Rattle.decoded.specs.Meant.{job_in}
use Rattle.tallies.proofs.FoundLaws.{Groups, groups_are, covers, found_start, found_so_far, found_all, found_small}
use Rattle.tallies.proofs.count_cases.Goals as goal

pub loop-g-init : goal.loop-g-init
loop-g-init c = record { failing = found_start _ _ c.default-failing.ensures; empty = found_start _ _ c.default-empty.ensures }

pub with-failing-requires : goal.with-failing-requires
with-failing-requires c =
    let k = c.args.plan.now.size.k in
    let groups : Groups k c.div_ceil-g-end.result = groups_are c.args.plan.now.decoded.k_most c.cases-cases.ensures c.div_ceil-g-end.ensures in
    (omega (arith, groups.few), omega (arith, groups.few, found_small _ c.loop-g.invariant.failing))

pub with-empty-requires : goal.with-empty-requires
with-empty-requires c =
    let k = c.args.plan.now.size.k in
    let groups : Groups k c.div_ceil-g-end.result = groups_are c.args.plan.now.decoded.k_most c.cases-cases.ensures c.div_ceil-g-end.ensures in
    (omega (arith, groups.few), omega (arith, groups.few, found_small _ c.loop-g.invariant.empty))

pub loop-g-preserved : goal.loop-g-preserved
loop-g-preserved c =
    let j = job_in c.args.plan.now in
    let k = c.args.plan.now.size.k in
    let g = c.loop-g.g in
    let groups : Groups k c.div_ceil-g-end.result = groups_are c.args.plan.now.decoded.k_most c.cases-cases.ensures c.div_ceil-g-end.ensures in
    let here : 64 * g < 2 ^ k = groups.within g c.loop-g-test.true in
    let told = rw c.new-gates.ensures at c.answer_group-answered.ensures in
    record {
      failing = c.with-failing.ensures (failing j) (2 ^ k) here (found_so_far (failing j) (2 ^ k) g c.loop-g.invariant.failing here) (covers (failing j) k g _ here told.failings c.used_places-used.ensures);
      empty = c.with-empty.ensures (empty j) (2 ^ k) here (found_so_far (empty j) (2 ^ k) g c.loop-g.invariant.empty here) (covers (empty j) k g _ here told.empties c.used_places-used.ensures);
    }

pub returns : goal.returns
returns c =
    let k = c.args.plan.now.size.k in
    let groups : Groups k c.div_ceil-g-end.result = groups_are c.args.plan.now.decoded.k_most c.cases-cases.ensures c.div_ceil-g-end.ensures in
    let all : 2 ^ k ≤ 64 * c.loop-g.g = omega (arith, groups.all) in
    record { failing = found_all _ (2 ^ k) c.loop-g.g c.loop-g.invariant.failing all; empty = found_all _ (2 ^ k) c.loop-g.g c.loop-g.invariant.empty all }
