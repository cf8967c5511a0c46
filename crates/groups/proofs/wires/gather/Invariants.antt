-- The nodes before the loop's place that have the gate are gathered.
-- Assumes nothing.
use Rattle.decoded.specs.Meant.{job_in}
use Rattle.groups.specs.Kinds.{Gathers}
use Rattle.groups.proofs.wires.gather.Given as goal

abbrev pub invariant-loop-m : goal.invariant-loop-m
invariant-loop-m l = Gathers (job_in l.plan) l.m l.gate l.initial.wires.items l.wires.items
