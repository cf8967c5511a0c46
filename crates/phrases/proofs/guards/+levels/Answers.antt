-- The levels of a guard: each joins what the next one reads, and brackets hold a whole guard again.
-- Assumes nothing.
use mathlib.Core.Path.{refl}
use native.Mathlib.Omega.{arith}
use Rattle.grammar.proofs.Frames.{size_some}
use Rattle.phrases.specs.Operators.{operator_of}
use Rattle.phrases.proofs.Exits.{left_with, test_false}
use Rattle.phrases.proofs.Standing.{stands, stands_not, stands_so}
use Rattle.phrases.proofs.LevelLaws.{kept_by, kept_then, guard_read, guard_unread, negated_to, negated_none, negated_full, grouped_to, grouped_none, grouped_open, grouped_deep}
use Rattle.phrases.proofs.ChainLaws.{chain_full, chain_none, chain_more}
use Rattle.phrases.proofs.guards.+levels.Goals as goal

pub joined-returns-then-not-has_room : goal.joined-returns-then-not-has_room
joined-returns-then-not-has_room t c =
    let full = test_false c.has_room.ensures c.if-not-has_room.true in
    record {
      says = chain_full (operator_of c.args.operator) c.loop-around.invariant (stands_so c.sign.ensures c.is_at.ensures c.loop-around-test.true) (omega (arith, full));
      kept = kept_by c.loop-around.invariant;
      few = omega (arith, c.loop-around.invariant.few);
    }

pub joined-overflow_sub-left : goal.joined-overflow_sub-left
joined-overflow_sub-left t c = omega (arith, c.loop-around.invariant.count, size_some c.loop-around.invariant.guard, c.count-left.ensures)

pub joined-returns-in_err-next : goal.joined-returns-in_err-next
joined-returns-in_err-next t c =
    rw (left_with c.from_residual-in_err-next.result c.from_residual-in_err-next.ensures.1)
    (record {
      says = chain_none (operator_of c.args.operator) c.loop-around.invariant (stands_so c.sign.ensures c.is_at.ensures c.loop-around-test.true) (c.has_room.ensures.0 c.if-not-has_room.false) c.skip.ensures c.in_err-next.ensures.says;
      kept = kept_then c.loop-around.invariant _ c.in_err-next.ensures.kept;
      few = c.in_err-next.ensures.few;
    })

pub joined-overflow_sub-right : goal.joined-overflow_sub-right
joined-overflow_sub-right t c = omega (arith, c.in_ok-next.ensures.says.count, size_some c.in_ok-next.ensures.says.guard, c.count-right.ensures)

pub joined-loop-around-preserved : goal.joined-loop-around-preserved
joined-loop-around-preserved t c =
    chain_more (operator_of c.args.operator) c.loop-around.invariant (stands_so c.sign.ensures c.is_at.ensures c.loop-around-test.true) (c.has_room.ensures.0 c.if-not-has_room.false) c.skip.ensures _ _ c.in_ok-next.ensures.says
    (omega (arith, c.count-left.ensures, c.loop-around.invariant.count, size_some c.loop-around.invariant.guard)) (omega (arith, c.count-right.ensures, c.in_ok-next.ensures.says.count, size_some c.in_ok-next.ensures.says.guard)) (rw (c.expression.ensures, c.operation.ensures) at c.push.ensures)

pub negated-returns-then-not-has_room : goal.negated-returns-then-not-has_room
negated-returns-then-not-has_room t c =
    let full = test_false c.has_room.ensures c.if-not-has_room.true in
    guard_unread c.requires.0 (negated_full c.requires.0 (stands {text = c.args.text.now} {i = c.args.at} {b = 33} refl c.requires.1) (omega (arith, full)))

pub negated-returns-in_err-end : goal.negated-returns-in_err-end
negated-returns-in_err-end t c =
    rw (left_with c.from_residual.result c.from_residual.ensures.1)
    (record { says = negated_none c.requires.0 (stands {text = c.args.text.now} {i = c.args.at} {b = 33} refl c.requires.1) (c.has_room.ensures.0 c.if-not-has_room.false) c.skip.ensures c.in_err-end.ensures.says; kept = c.in_err-end.ensures.kept; few = c.in_err-end.ensures.few })

pub negated-overflow_sub-inner : goal.negated-overflow_sub-inner
negated-overflow_sub-inner t c = omega (arith, c.in_ok-end.ensures.says.count, size_some c.in_ok-end.ensures.says.guard, c.count-inner.ensures)

pub negated-returns : goal.negated-returns
negated-returns t c =
    guard_read (negated_to c.requires.0 _ (stands {text = c.args.text.now} {i = c.args.at} {b = 33} refl c.requires.1) (c.has_room.ensures.0 c.if-not-has_room.false) c.skip.ensures c.in_ok-end.ensures.says
    (omega (arith, c.count-inner.ensures, c.in_ok-end.ensures.says.count, size_some c.in_ok-end.ensures.says.guard)) (rw c.expression.ensures at c.push.ensures))

pub grouped-returns-then-around-ge-DEPTH : goal.grouped-returns-then-around-ge-DEPTH
grouped-returns-then-around-ge-DEPTH t c = guard_unread c.requires.0 (grouped_deep c.requires.0 (stands {text = c.args.text.now} {i = c.args.at} {b = 40} refl c.requires.1) c.if-around-ge-DEPTH.true)

pub grouped-returns-in_err-end : goal.grouped-returns-in_err-end
grouped-returns-in_err-end t c =
    rw (left_with c.from_residual.result c.from_residual.ensures.1)
    (record { says = grouped_none c.requires.0 (stands {text = c.args.text.now} {i = c.args.at} {b = 40} refl c.requires.1) c.if-around-ge-DEPTH.false c.skip.ensures c.in_err-end.ensures.says; kept = c.in_err-end.ensures.kept; few = c.in_err-end.ensures.few })

pub grouped-returns-then-not-is_at : goal.grouped-returns-then-not-is_at
grouped-returns-then-not-is_at t c =
    record {
      says = grouped_open c.requires.0 (stands {text = c.args.text.now} {i = c.args.at} {b = 40} refl c.requires.1) c.if-around-ge-DEPTH.false c.skip.ensures c.in_ok-end.ensures.says (stands_not c.is_at.ensures c.if-not-is_at.true);
      kept = c.in_ok-end.ensures.kept;
      few = c.in_ok-end.ensures.few;
    }

pub grouped-returns : goal.grouped-returns
grouped-returns t c =
    guard_read (grouped_to c.requires.0 (stands {text = c.args.text.now} {i = c.args.at} {b = 40} refl c.requires.1) c.if-around-ge-DEPTH.false c.skip.ensures c.in_ok-end.ensures.says (stands c.is_at.ensures c.if-not-is_at.false) c.skip-2.ensures)
