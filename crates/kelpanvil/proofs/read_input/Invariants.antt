-- `read_input`: the buffer keeps its length, and each turn fills at least one byte more.
-- Assumes nothing.
use Rattle.std.proofs.Common.{◌-◌, ◌≤◌, length}
use Rattle.kelpanvil.proofs.read_input.Given as goal

abbrev pub invariant-loop-size : goal.invariant-loop-size
invariant-loop-size l = l.size ≤ length l.buffer

abbrev pub decreases-loop-size : goal.decreases-loop-size
decreases-loop-size l = length l.initial.buffer - l.size
