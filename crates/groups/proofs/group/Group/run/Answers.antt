-- Two times more are run.
-- Assumes nothing.
use Rattle.std.proofs.Common.{arith}
use Rattle.groups.proofs.RunLaws.{last_below, running_none, running_two, ran_past}
use Rattle.groups.proofs.group.Group.run.Goals as goal

pub loop-t-init : goal.loop-t-init
loop-t-init c = let p = c.args.self.now.gates.now.plan.now in record { even = omega arith; running = running_none _ _ p.decoded.n_most; steady = ((λ later. absurd (omega arith)), c.settle.ensures) }

pub turn-first-requires : goal.turn-first-requires
turn-first-requires c = record { time = omega (arith, last_below c.args.self.now.gates.now.plan.now); steady = c.loop-t.invariant.steady }

pub overflow_add-t : goal.overflow_add-t
overflow_add-t c = omega (arith, last_below c.args.self.now.gates.now.plan.now)

pub turn-second-requires : goal.turn-second-requires
turn-second-requires c = record { time = omega (arith, c.loop-t.invariant.even, last_below c.args.self.now.gates.now.plan.now); steady = ((λ later. c.turn-first.ensures.steady.1), c.turn-first.ensures.steady.0) }

pub loop-t-preserved : goal.loop-t-preserved
loop-t-preserved c =
    record {
      even = omega (arith, c.loop-t.invariant.even);
      running = running_two _ _ c.loop-t.invariant.running c.turn-first.ensures.turns c.turn-second.ensures.turns c.with.ensures c.with-told.ensures;
      steady = ((λ later. c.turn-second.ensures.steady.1), c.turn-second.ensures.steady.0);
    }

pub returns : goal.returns
returns c = ran_past c.args.self.now.gates.now.plan.now _ c.loop-t.t (omega arith) c.loop-t.invariant.running.ran

-- where fewer than two times are left
pub returns-2 : goal.returns-2
returns-2 c =
    let both = running_two _ _ c.loop-t.invariant.running c.turn-first.ensures.turns c.turn-second.ensures.turns c.with.ensures c.with-told.ensures in
    ran_past c.args.self.now.gates.now.plan.now _ _ (omega arith) both.ran
