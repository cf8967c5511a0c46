-- The number of each word.
-- Assumes nothing.
use Rattle.std.specs.Prelude.{ℕ}
use Rattle.meaning.specs.Stated.{Word, DONE, REFUSED, PASSES, EMPTY, FAILS, HOLDS, VACANT}
use Rattle.boundary.specs.declared.answers.Word.{Word as Named}
use Rattle.boundary.specs.declared.answers.Word.TheVariants.{Done, Refused, Passes, Empty, Fails, Holds, Vacant}

abbrev pub word_number : Word → ℕ
word_number DONE = 1
word_number REFUSED = 2
word_number PASSES = 3
word_number EMPTY = 4
word_number FAILS = 5
word_number HOLDS = 6
word_number VACANT = 7

-- the word that a name in the code means
abbrev pub meant : Named → Word
meant Done = DONE
meant Refused = REFUSED
meant Passes = PASSES
meant Empty = EMPTY
meant Fails = FAILS
meant Holds = HOLDS
meant Vacant = VACANT
