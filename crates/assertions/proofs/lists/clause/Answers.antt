-- `clause`: the word, the guard, a colon, and what it says.
-- Assumes nothing.
use native.Mathlib.Omega.{arith}
use Rattle.grammar.specs.Items.{letters}
use Rattle.grammar.proofs.Frames.{size_some}
use Rattle.phrases.proofs.Exits.{left_with}
use Rattle.phrases.proofs.Standing.{stands, stands_not}
use Rattle.assertions.proofs.ClauseRuns.{when_none, when_to, when_then_none, touched_none, guard_none, colon_none, rest_none, rest_to}
use Rattle.assertions.proofs.lists.clause.Goals as goal

pub returns-in_err-end : goal.returns-in_err-end
unfolding letters
returns-in_err-end c = rw (left_with c.from_residual.result c.from_residual.ensures.1) (record { says = when_none c.requires.0 c.requires.1 c.in_err-end.ensures.says })

pub returns-then-guard_touches : goal.returns-then-guard_touches
unfolding letters
returns-then-guard_touches c =
    let w = c.in_ok-end.ensures.says in
    record { says = when_then_none c.requires.0 w (touched_none c.requires.0 c.skip-from.ensures c.guard_touches.ensures c.if-guard_touches.true) }

pub returns-in_err-colon : goal.returns-in_err-colon
unfolding letters
returns-in_err-colon c =
    let w = c.in_ok-end.ensures.says in
    rw (left_with c.from_residual-in_err-colon.result c.from_residual-in_err-colon.ensures.1)
    (record { says = when_then_none c.requires.0 w (guard_none c.requires.0 c.skip-from.ensures c.guard_touches.ensures c.if-guard_touches.false (record { front = c.in_err-colon.ensures.kept; few = c.in_err-colon.ensures.few }) c.in_err-colon.ensures.says) })

pub returns-then-not-is_at : goal.returns-then-not-is_at
unfolding letters
returns-then-not-is_at c =
    let w = c.in_ok-end.ensures.says in
    record { says = when_then_none c.requires.0 w (colon_none c.requires.0 c.skip-from.ensures c.guard_touches.ensures c.if-guard_touches.false c.in_ok-colon.ensures.says (stands_not c.is_at.ensures c.if-not-is_at.true)) }

pub returns-in_err-told : goal.returns-in_err-told
unfolding letters
returns-in_err-told c =
    let w = c.in_ok-end.ensures.says in
    rw (left_with c.from_residual-in_err-told.result c.from_residual-in_err-told.ensures.1)
    (record { says = when_then_none c.requires.0 w (rest_none c.requires.0 c.skip-from.ensures c.guard_touches.ensures c.if-guard_touches.false c.in_ok-colon.ensures.says (stands c.is_at.ensures c.if-not-is_at.false) c.in_err-told.ensures.says) })

pub overflow_sub-guard : goal.overflow_sub-guard
overflow_sub-guard c = omega (arith, c.count-guard.ensures.0, c.in_ok-colon.ensures.says.count, size_some c.in_ok-colon.ensures.says.guard)

pub returns : goal.returns
unfolding letters
returns c =
    let w = c.in_ok-end.ensures.says in
    record { says = when_to c.requires.0 w (rest_to c.requires.0 c.skip-from.ensures c.guard_touches.ensures c.if-guard_touches.false c.in_ok-colon.ensures.says (stands c.is_at.ensures c.if-not-is_at.false) _ c.in_ok-told.ensures.says (omega (arith, c.count-guard.ensures.0, c.in_ok-colon.ensures.says.count, size_some c.in_ok-colon.ensures.says.guard)) (rw c.clause_record.ensures at c.push.ensures)) }
