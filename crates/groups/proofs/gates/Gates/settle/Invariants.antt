-- The nodes before the loop's place are steady.
-- Assumes nothing.
use Rattle.std.proofs.Common.{◌≡◌, ℕ, ◌<◌, length}
use Rattle.decoded.specs.Meant.{job_in}
use Rattle.groups.specs.Held.{pair_at}
use Rattle.groups.specs.Steady.{SteadyAt}
use Rattle.groups.proofs.gates.Gates.settle.Given as goal

abbrev pub invariant-loop-m : goal.invariant-loop-m
invariant-loop-m l = record { long : length l.row ≡ 1008; steady : (m : ℕ) → m < l.m → SteadyAt ((job_in l.self.plan.now).netlist.node m).gate (pair_at l.row m) }
