-- The bytes before the loop's place are written, and where the check of a block has begun it is at hand.
-- Assumes nothing.
use Rattle.std.proofs.Common.{◌≡◌, ◌/◌, ◌%◌, ◌<◌}
use Rattle.scans.proofs.Lists.{Filled}
use Rattle.stored.specs.Layout.{plain_byte, check_word, block_byte}
use Rattle.storing.specs.Steps.{records_in}
use Rattle.storing.proofs.Records.write_front.Given as goal

abbrev pub invariant-loop-j : goal.invariant-loop-j
invariant-loop-j l = record {
  filled : Filled (λ j. block_byte (records_in l.self) (j / 512) (j % 512)) l.initial.out l.out l.j;
  checked : 508 < l.j % 512 → l.check ≡ check_word (plain_byte (records_in l.self) (l.j / 512));
}
