-- `list`: the clauses before the place.
-- Assumes nothing.
use Prim.Native.Nat.{◌-◌}
use lib.ListN.{length}
use Rattle.assertions.specs.Sides.{side_of}
use Rattle.assertions.specs.ListsRead.{ListTo}
use Rattle.assertions.proofs.lists.list.Given as goal

abbrev pub invariant-loop-limits : goal.invariant-loop-limits
invariant-loop-limits l = ListTo l.limits.k l.limits.n (side_of l.side) l.at l.text l.initial.records.expressions l.records.expressions l.initial.records.clauses l.records.clauses l.q

abbrev pub decreases-loop-limits : goal.decreases-loop-limits
decreases-loop-limits l = length l.text - l.q
