-- What reading a text answers, and what it leaves in the two lists lent.
-- Assumes nothing.
use Rattle.std.specs.Prelude.{◌≡◌, true, false, List, ◌++◌, ℕ, ◌*◌, ◌≤◌, length, drop, Result, MatchResult}
use Rattle.assertions.specs.declared.Written.{Written}
use Rattle.assertions.specs.declared.TextRefusal.{TextRefusal}
use Rattle.assertions.specs.declared.TextRefusal.TheVariants.{Header, Text as TextStops, Room as ListTooShort}
use Rattle.grammar.specs.Grammar.{limits, Text, Reads}
use Rattle.grammar.specs.Starts.{StopsAt}
use Rattle.grammar.specs.Records.{text_expressions, text_clauses}

-- both lists have room
abbrev pub Room : Text → List ℕ → List ℕ → Type 0
Room t expressions clauses = (length (text_expressions t) ≤ length expressions) × (length (text_clauses t) ≤ length clauses)

pub record NoRoom (k n : ℕ) (s expressions clauses : List ℕ) : Type 0 where
  pub text : Text
  pub reads : Reads k n text s
  pub short : ¬ Room text expressions clauses

-- the text reads as t, and t's records stand at the front of the lists
pub record WrittenAs (k n : ℕ) (s expressions clauses expressions' clauses' : List ℕ) (e c : ℕ) : Type 0 where
  pub in_limits : limits k n ≡ true
  pub text : Text
  pub reads : Reads k n text s
  pub room : Room text expressions clauses
  pub expressions_are : expressions' ≡ text_expressions text ++ drop (length (text_expressions text)) expressions
  pub clauses_are : clauses' ≡ text_clauses text ++ drop (length (text_clauses text)) clauses
  pub e_is : 8 * e ≡ length (text_expressions text)
  pub c_is : 8 * c ≡ length (text_clauses text)

-- k or n is beyond its limit, or the text stops there being the start of an accepted one, or it reads and a list is too short
abbrev pub Why : ℕ → ℕ → List ℕ → List ℕ → List ℕ → TextRefusal → Type 0
Why k n s expressions clauses Header = limits k n ≡ false
Why k n s expressions clauses (TextStops byte) = (limits k n ≡ true) × StopsAt k n s byte
Why k n s expressions clauses ListTooShort = (limits k n ≡ true) × NoRoom k n s expressions clauses

-- the lists stay
pub record RefusedAs (k n : ℕ) (s expressions clauses expressions' clauses' : List ℕ) (refusal : TextRefusal) : Type 0 where
  pub why : Why k n s expressions clauses refusal
  pub expressions_stay : expressions' ≡ expressions
  pub clauses_stay : clauses' ≡ clauses

pub record Answered (k n : ℕ) (s expressions clauses expressions' clauses' : List ℕ) (r : Result Written TextRefusal) : Type 0 where
  pub says : MatchResult r (λ w. WrittenAs k n s expressions clauses expressions' clauses' w.expressions w.clauses) (RefusedAs k n s expressions clauses expressions' clauses')
