-- A byte more is written. A block's check is at hand from the first of its bytes on.
-- Assumes nothing.
use Rattle.std.proofs.Common.{◌≡◌, ◌∙◌, ℕ, ◌+◌, ◌/◌, ◌%◌, ◌<◌, ◌≤◌, arith}
use Rattle.scans.proofs.Lists.{filled_none, filled_more, filled_all}
use Rattle.storing.proofs.Records.write_front.Goals as goal
use Rattle.storing.proofs.Records.write_front.Goals.{then-o-eq508, else-o-eq508}

pub loop-j-init : goal.loop-j-init
loop-j-init c = record { filled = filled_none _ _; checked = λ l. absurd (omega arith) }

pub block_byte-requires : goal.block_byte-requires
block_byte-requires c = record {
  within = omega arith;
  checked =
      elim c.if-o-eq508.branch [
        | then-o-eq508 w ↦ λ l. w.check-is ∙ w.check_word-check.ensures
        | else-o-eq508 w ↦ λ l. w.check-is ∙ c.loop-j.invariant.checked (omega (arith, w.if-o-eq508.false))
      ];
}

-- past a block's first check byte the next byte is of the same block
still : (j : ℕ) → 508 < (j + 1) % 512 → ((j + 1) / 512 ≡ j / 512) × (508 ≤ j % 512)
still j l = (omega (arith, l), omega (arith, l))

pub loop-j-preserved : goal.loop-j-preserved
loop-j-preserved c = record {
  filled = filled_more c.loop-j.invariant.filled c.block_byte.ensures c.loop-j-test.true c.requires.0;
  checked = λ l.
      let s = still c.loop-j.j l in
      rw s.0 (elim c.if-o-eq508.branch [
        | then-o-eq508 w ↦ w.check-is ∙ w.check_word-check.ensures
        | else-o-eq508 w ↦ w.check-is ∙ c.loop-j.invariant.checked (omega (arith, s.1, w.if-o-eq508.false))
      ]);
}

pub returns : goal.returns
returns c = filled_all c.loop-j.invariant.filled (omega arith) (omega arith)
