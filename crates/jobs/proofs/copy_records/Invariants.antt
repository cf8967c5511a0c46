-- `copy_records`: the bytes before the loop's place are copied, the others stay.
-- Assumes nothing.
use Rattle.stored.specs.Layout.{record_byte}
use Rattle.scans.proofs.Lists.{Filled}
use Rattle.jobs.proofs.copy_records.Given as goal

abbrev pub invariant-loop-q : goal.invariant-loop-q
invariant-loop-q l = Filled (record_byte l.s l.first) l.initial.list l.list l.q
