-- The wires before the loop's place are visited.
-- Assumes nothing.
use Rattle.std.proofs.Common.{◌≡◌, length, take}
use Rattle.groups.specs.Wired.{Visits}
use Rattle.groups.proofs.wires.visit.Given as goal

abbrev pub invariant-loop-wire : goal.invariant-loop-wire
invariant-loop-wire g l = record { long : length l.next ≡ 1008; visits : Visits (goal.F-post g l.force) (take l.wire-index l.wires) l.now l.initial.next l.next }
