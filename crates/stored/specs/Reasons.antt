-- The numbers of the refusals, as the rules' table has them.
-- Assumes nothing.
use Rattle.std.specs.Prelude.{ℕ}
use Rattle.stored.specs.declared.Reason.{Reason}
use Rattle.stored.specs.declared.Reason.TheVariants.{Length, Check, Number, Header, Count, Block, Rest, Gate, Expression, Clause, Case, Time, Room, Empty}

abbrev pub number_of : Reason → ℕ
number_of Length = 1
number_of Check = 2
number_of Number = 3
number_of Header = 4
number_of Count = 5
number_of Block = 6
number_of Rest = 7
number_of Gate = 8
number_of Expression = 9
number_of Clause = 10
number_of Case = 11
number_of Time = 12
number_of Room = 13
number_of Empty = 14
