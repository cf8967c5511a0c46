-- The line that the check program prints, with the newline that ends it.
-- Assumes nothing.
use Rattle.std.specs.Prelude.{Result, Ok, Err}
use Rattle.stored.specs.declared.Refusal.{Refusal}
use Rattle.std.specs.Prelude.{cond, List, ◌++◌, ℕ, eqb}
use Prim.Native.String.{String}
use Rattle.meaning.specs.declared.Counts.{Counts}
use Rattle.meaning.specs.declared.JobAnswer.{JobAnswer}
use Rattle.meaning.specs.declared.JobAnswer.TheVariants.{Holds, Fails, Vacant}
use Rattle.texts.specs.Texts.{text}
use Rattle.texts.specs.Decimals.{decimal}

-- a name, with what stands around it, and a number
unfoldable pub field : String → ℕ → List ℕ
field name x = text name ++ decimal x

unfoldable pub counts : Counts → List ℕ
counts c = field " cases=" c.cases ++ field " passing=" c.passing ++ field " failing=" c.failing ++ field " empty=" c.empty

unfoldable pub place : ℕ → ℕ → ℕ → List ℕ
place case time node = field " case=" case ++ field " time=" time ++ field " node=" node

-- a value: 0, 1, or X where the number is 2
unfoldable pub value : ℕ → List ℕ
value v = cond (eqb v 2) (text "X") (decimal v)

unfoldable pub missed : ℕ → ℕ → List ℕ
missed wanted found = field " wanted=" wanted ++ text " found=" ++ value found

unfoldable pub verdict_line : JobAnswer → List ℕ
verdict_line (Holds c) = text "HOLDS" ++ counts c ++ text "\n"
verdict_line (Fails c case time node wanted found) = text "FAILS" ++ counts c ++ place case time node ++ missed wanted found ++ text "\n"
verdict_line (Vacant c case time node) = text "VACANT" ++ counts c ++ place case time node ++ text "\n"

unfoldable pub refusal_line : ℕ → ℕ → ℕ → List ℕ
refusal_line number block slot = field "REFUSED " number ++ field " block=" block ++ field " record=" slot ++ text "\n"

-- the line of whatever the check of a job answered
abbrev pub checked_line : Result JobAnswer Refusal → List ℕ
checked_line (Ok a) = verdict_line a
checked_line (Err r) = refusal_line r.number r.block r.«record»
