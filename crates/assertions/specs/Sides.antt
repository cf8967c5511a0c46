-- The number of a side in a clause's record.
-- Assumes nothing.
use Rattle.std.specs.Prelude.{ℕ}
use Rattle.meaning.specs.declared.Side.{Side}
use Rattle.meaning.specs.declared.Side.TheVariants.{Stimulus, Expectation}

abbrev pub side_of : Side → ℕ
side_of Stimulus = 0
side_of Expectation = 1
