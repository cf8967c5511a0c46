-- The items of an assertion's text, and how each is spelled.
-- Assumes nothing.
use Rattle.std.specs.Prelude.{Bool, true, false, List, [], ◌∷◌, ℕ, ◌+◌}
use Rattle.texts.specs.Texts.{text}
use Rattle.texts.specs.Decimals.{decimal}

pub data Keyword : Type 0 where
  GIVEN EXPECT WHEN IS AT : Keyword

pub data Operator : Type 0 where
  AND XOR OR : Operator

pub data Mark : Type 0 where
  NOT OPEN CLOSE COLON SEMICOLON : Mark
  SIGN : Operator → Mark

pub data Item : Type 0 where
  word : Keyword → Item
  variable number : ℕ → Item
  mark : Mark → Item

unfoldable pub letters : Keyword → List ℕ
letters GIVEN = text "given"
letters EXPECT = text "expect"
letters WHEN = text "when"
letters IS = text "is"
letters AT = text "at"

abbrev pub mark_byte : Mark → ℕ
mark_byte NOT = 33
mark_byte OPEN = 40
mark_byte CLOSE = 41
mark_byte COLON = 58
mark_byte SEMICOLON = 59
mark_byte (SIGN AND) = 38
mark_byte (SIGN XOR) = 94
mark_byte (SIGN OR) = 124

-- variable 0 is `a`, and so on; a number has no zeros in front; the marks are ! ( ) : ; & ^ |
unfoldable pub spelled : Item → List ℕ
spelled (word w) = letters w
spelled (variable i) = (97 + i) ∷ []
spelled (number x) = decimal x
spelled (mark m) = mark_byte m ∷ []

-- words, numbers and variables: two of them do not touch
abbrev pub wordlike : Item → Bool
wordlike (word w) = true
wordlike (variable i) = true
wordlike (number x) = true
wordlike (mark m) = false
