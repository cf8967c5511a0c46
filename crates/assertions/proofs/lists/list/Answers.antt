-- `list`: the clauses before the place.
-- Assumes nothing.
use Rattle.phrases.proofs.Exits.{left_with, test_false}
use Rattle.phrases.proofs.Standing.{stands}
use Rattle.assertions.proofs.ListRuns.{list_none, list_more, list_stops, list_full}
use Rattle.assertions.proofs.lists.list.Goals as goal

pub loop-limits-init : goal.loop-limits-init
loop-limits-init c = list_none _ c.are_few.ensures c.skip-q.ensures

pub returns-then-not-has_room : goal.returns-then-not-has_room
returns-then-not-has_room c = record { says = list_full c.loop-limits.invariant (stands c.is_at.ensures c.loop-limits-test.true) (test_false c.has_room.ensures c.if-not-has_room.true) }

pub returns-in_err-end : goal.returns-in_err-end
returns-in_err-end c = rw (left_with c.from_residual.result c.from_residual.ensures.1) (record { says = list_stops c.loop-limits.invariant c.in_err-end.ensures.says })

pub loop-limits-preserved : goal.loop-limits-preserved
loop-limits-preserved c = list_more c.loop-limits.invariant c.in_ok-end.ensures.says c.skip-q-in-loop-limits.ensures
