-- What the bytes of an item do where it may stand: a mark, the first letter of a word, a variable, a digit.
-- Assumes nothing.
use borrow.Author.Tests.{ne_eqb, le-leb}
use mathlib.Core.Path.{◌≡◌}
use mathlib.Core.Bool.{Bool, false, true}
use mathlib.Core.Option.{some, none}
use Prim.Native.Nat.{ℕ, ◌+◌, ◌-◌, ◌*◌, ◌≤◌, ◌<◌}
use Rattle.stored.specs.Bytes.{byte_at}
use Rattle.grammar.specs.Items.{Keyword, GIVEN, EXPECT, WHEN, IS, AT, Mark, word, variable, number, mark, letters, mark_byte}
use Rattle.grammar.specs.Spelling.{is_gap}
use Rattle.grammar.specs.Points.{Point, step}
use Rattle.grammar.specs.Bytewise.{ready, spelling, digits, at, mark_of, word_of, tail, onward, staying, begun, fed_ready, fed_digits}
use Rattle.grammar.proofs.StepLaws.{no_variable}
use Rattle.grammar.proofs.Bytes.{mark_found, apart, no_gap, digit_plain, letter_plain}

module _ (k n : ℕ) (p : Point) where
  pub fed_mark : (touching : Bool) (m : Mark) → fed_ready k n touching p (mark_byte m) ≡ onward (ready false) (step k n p (mark m))
  unfolding fed_ready
  fed_mark touching m = rw (no_gap (mark_byte m) (apart m).0, mark_found m)

  pub fed_word : (w : Keyword) {q : Point} → step k n p (word w) ≡ some q → fed_ready k n false p (byte_at (letters w) 0) ≡ some (at (spelling (tail (letters w))) q)
  unfolding fed_ready is_gap mark_of begun word_of letters
  fed_word GIVEN e = rw (no_variable k n p 6 GIVEN e, e)
  fed_word EXPECT e = rw (no_variable k n p 4 EXPECT e, e)
  fed_word WHEN e = rw (no_variable k n p 22 WHEN e, e)
  fed_word IS e = rw (no_variable k n p 8 IS e, e)
  fed_word AT e = rw (no_variable k n p 0 AT e, e)

  module _ (b : ℕ) where
    pub fed_variable : 97 ≤ b → b < 123 → {q : Point} → step k n p (variable (b - 97)) ≡ some q → fed_ready k n false p b ≡ some (at (ready true) q)
    unfolding fed_ready begun
    fed_variable l h e = let (g, m, d) = letter_plain b l h in rw (g, m, d, le-leb 97 b l, e)

    module _ (low : 48 ≤ b) (high : b < 58) where
      pub fed_digit : fed_ready k n false p b ≡ staying (digits (b - 48)) p (step k n p (number (b - 48)))
      unfolding fed_ready begun
      fed_digit = let (g, m, d) = digit_plain b low high in rw (g, m, d)

      pub fed_zero : fed_digits k n p 0 b ≡ none
      unfolding fed_digits
      fed_zero = rw (digit_plain b low high).2

      pub fed_more : (v : ℕ) → ¬ (v ≡ 0) → fed_digits k n p v b ≡ staying (digits (10 * v + (b - 48))) p (step k n p (number (10 * v + (b - 48))))
      unfolding fed_digits
      fed_more v z = rw ((digit_plain b low high).2, ne_eqb v 0 z)
