-- A refusal in numbers.
-- Assumes nothing.
use Rattle.std.specs.Prelude.{ℕ}
use Rattle.assertions.specs.declared.TextRefusal.{TextRefusal}
use Rattle.assertions.specs.declared.TextRefusal.TheVariants.{Header, Text, Room}

-- 4 for k or n, 15 for the text, 13 for a list too short
abbrev pub number_of : TextRefusal → ℕ
number_of Header = 4
number_of (Text byte) = 15
number_of Room = 13

-- the byte where the text stops; 0 where it is not the text
abbrev pub byte_of : TextRefusal → ℕ
byte_of Header = 0
byte_of (Text byte) = byte
byte_of Room = 0
