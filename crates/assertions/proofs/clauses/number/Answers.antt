-- `number`: digit by digit.
-- Assumes nothing.
use mathlib.Core.Path.{◌≡◌, ap}
use native.Mathlib.Omega.{arith}
use Prim.Native.Nat.{◌+◌}
use lib.ListN.{length}
use Rattle.std.proofs.lemmas.List.{length-take}
use Rattle.assertions.proofs.SlotRuns.{same_byte, front_digit, front_other, front_end, counting_large, counting_zero, growing_none, growing_more, few_digits, counting_over}
use Rattle.assertions.proofs.clauses.number.Goals as goal

pub loop-q-init : goal.loop-q-init
loop-q-init c = growing_none _ _ _ c.requires.0

pub returns-then-not-is_digit : goal.returns-then-not-is_digit
returns-then-not-is_digit c =
    counting_over c.loop-q.invariant.counting c.requires.1 (front_other _ _ _ c.front-digits.ensures c.loop-q-test.true c.is_digit.ensures c.if-not-is_digit.true) c.counted.ensures

pub returns-then-value-eq0 : goal.returns-then-value-eq0
returns-then-value-eq0 c =
    record { says = counting_zero c.loop-q.invariant.counting (front_digit _ _ _ c.front-digits.ensures c.loop-q-test.true c.is_digit.ensures c.if-not-is_digit.false) c.if-q-at.true c.if-value-eq0.true }

pub returns-then-value-limit : goal.returns-then-value-limit
returns-then-value-limit c =
    let same = same_byte _ _ _ c.front-digits.ensures c.loop-q.q c.loop-q-test.true in
    record { says = counting_large c.loop-q.invariant.counting (front_digit _ _ _ c.front-digits.ensures c.loop-q-test.true c.is_digit.ensures c.if-not-is_digit.false) (rw same at c.from.ensures) c.else-q-at.either c.if-value-limit.true }

pub loop-q-preserved : goal.loop-q-preserved
loop-q-preserved c =
    let same = same_byte _ _ _ c.front-digits.ensures c.loop-q.q c.loop-q-test.true in
    growing_more c.loop-q.invariant (front_digit _ _ _ c.front-digits.ensures c.loop-q-test.true c.is_digit.ensures c.if-not-is_digit.false) (rw same at c.from.ensures) c.else-q-at.either c.if-value-limit.false

pub returns : goal.returns
returns c =
    let at_end : c.loop-q.q ≡ length c.front-digits.result.now = omega (arith, length-take (c.args.at + 6) c.args.text.now, ap length c.front-digits.ensures) in
    let whole = rw at_end at c.loop-q.invariant in
    counting_over whole.counting c.requires.1 (front_end _ _ _ c.front-digits.ensures (few_digits whole c.requires.2)) c.counted-2.ensures
