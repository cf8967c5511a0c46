-- The first 16,897 bytes of the input decide: one byte more than the longest job is too long, whatever follows.
-- Assumes nothing.
use borrow.Author.Tests.{le-leb, lt-leb}
use mathlib.Core.Path.{◌≡◌, sym, ◌∙◌, ap}
use mathlib.Core.List.{List}
use native.Mathlib.Decide.{dec_lt}
use native.Mathlib.Omega.{arith}
use Prim.Native.Nat.{ℕ, ◌<◌}
use lib.ListN.{length, take}
use lib.Seq.{length-take-le, take_all}
use Rattle.scans.specs.First.{first_bad}
use Rattle.scans.specs.Refusals.{unless_at, in_order}
use Rattle.stored.specs.Reading.{length_ok, refused}
use Rattle.verdicts.specs.Running.{check_answer}

too_long : (s : List ℕ) → 16896 < length s → check_answer s ≡ refused 1 0 0
unfolding length_ok first_bad unless_at in_order check_answer
too_long s h = rw (le-leb 1 (length s) (omega arith), lt-leb (length s) 16896 h)

pub front_enough : (input : List ℕ) → check_answer (take 16897 input) ≡ check_answer input
front_enough input = go (dec_lt 16896 (length input))
  where
    go : Dec (16896 < length input) → check_answer (take 16897 input) ≡ check_answer input
    go (yes h) = too_long (take 16897 input) (omega (arith, length-take-le 16897 input h)) ∙ sym (too_long input h)
    go (no h) = ap check_answer (take_all 16897 input (omega arith))
