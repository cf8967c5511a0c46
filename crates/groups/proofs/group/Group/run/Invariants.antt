-- The times before the loop's place are done.
-- Assumes nothing.
use Rattle.std.proofs.Common.{◌≡◌, ◌<◌, ◌%◌}
use Rattle.groups.specs.Grouped.{job_of}
use Rattle.groups.specs.Steady.{Steady}
use Rattle.groups.proofs.RunLaws.{Running}
use Rattle.groups.proofs.group.Group.run.Given as goal

abbrev pub invariant-loop-t : goal.invariant-loop-t
invariant-loop-t l =
    record {
      even : l.t % 2 ≡ 0;
      running : Running (job_of l.self) l.self.number l.t l.now l.told;
      steady : (0 < l.t → Steady (job_of l.self) l.now) × Steady (job_of l.self) l.next;
    }
