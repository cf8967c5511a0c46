-- `spell`: the letters before the place stand.
-- Assumes nothing.
use Rattle.std.proofs.Common.{◌+◌, ◌≤◌, length}
use Rattle.phrases.specs.Places.{Letters}
use Rattle.phrases.proofs.items.spell.Given as goal

abbrev pub invariant-loop-i : goal.invariant-loop-i
invariant-loop-i l = record { inside : l.at + l.i ≤ length l.text; stand : Letters l.text l.at l.word l.i }
