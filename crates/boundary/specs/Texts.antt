-- What a caller is told of a text, and what each lent slice then holds.
-- Assumes nothing.
use Rattle.std.specs.Prelude.{◌≡◌, true, false, List, [], ◌∷◌, ℕ, ◌/◌, ◌%◌, leb, length, Result, Ok, Err}
use Rattle.meaning.specs.Stated.{Stated, DONE, REFUSED}
use Rattle.assertions.specs.declared.Written.{Written}
use Rattle.assertions.specs.declared.TextRefusal.{TextRefusal}
use Rattle.assertions.specs.Refusals.{number_of, byte_of}
use Rattle.assertions.specs.Answering.{Answered}
use Rattle.boundary.specs.Told.{Told}

-- both counts; or the number, and the byte in two parts of 32 bits
abbrev pub stated_text : Result Written TextRefusal → Stated
stated_text (Ok w) = record { word = DONE; numbers = w.expressions ∷ w.clauses ∷ [] }
stated_text (Err r) = record { word = REFUSED; numbers = number_of r ∷ byte_of r % 4294967296 ∷ byte_of r / 4294967296 ∷ [] }

-- the text was read so, and that is told
pub record TextTried (k n : ℕ) (text expressions clauses answer expressions' clauses' answer' : List ℕ) (result : ℕ) : Type 0 where
  pub read : Result Written TextRefusal
  pub answered : Answered k n text expressions clauses expressions' clauses' read
  pub told : Told (stated_text read) answer answer' result

-- it is tried only if its answer has room; else all is as it was
pub record TextTold (k n : ℕ) (text expressions clauses answer expressions' clauses' answer' : List ℕ) (result : ℕ) : Type 0 where
  pub tried : leb 40 (length answer) ≡ true → TextTried k n text expressions clauses answer expressions' clauses' answer' result
  pub untried : leb 40 (length answer) ≡ false → (result ≡ 0) × (answer' ≡ answer) × (expressions' ≡ expressions) × (clauses' ≡ clauses)
