-- The levels of a guard: the measure is the rest of the text, then the level. What is joined so far has been read from its start.
-- Assumes nothing.
use Rattle.std.proofs.Common.{suc, ◌+◌, ◌-◌, ◌*◌, length}
use Rattle.grammar.specs.Guards.{strength}
use Rattle.phrases.specs.Operators.{operator_of}
use Rattle.phrases.specs.GuardsRead.{GuardTo}
use Rattle.phrases.proofs.guards.+levels.Given as goal

abbrev pub decreases-joined : goal.decreases-joined
decreases-joined l = (length l.text.now - l.at) * 8 + 3 + 2 * (3 - strength (operator_of l.operator))

abbrev pub decreases-side : goal.decreases-side
decreases-side l = (length l.text.now - l.at) * 8 + 2 + 2 * (3 - strength (operator_of l.operator))

abbrev pub decreases-single : goal.decreases-single
decreases-single l = (length l.text.now - l.at) * 8 + 1

abbrev pub decreases-negated : goal.decreases-negated
decreases-negated l = (length l.text.now - l.at) * 8

abbrev pub decreases-grouped : goal.decreases-grouped
decreases-grouped l = (length l.text.now - l.at) * 8

abbrev pub invariant-joined-loop-around : goal.invariant-joined-loop-around
invariant-joined-loop-around l = let o = operator_of l.operator in GuardTo (strength o) (suc (strength o)) l.around.k l.around.depth l.around.pending l.at l.text l.fn.es l.es l.end

abbrev pub decreases-joined-loop-around : goal.decreases-joined-loop-around
decreases-joined-loop-around l = length l.text - l.end
