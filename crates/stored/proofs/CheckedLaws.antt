-- A function that goes through a table test by test answers what the table answers.
-- Assumes nothing.
use Rattle.std.specs.Prelude.{Result, Ok, Err, Option, None, Some}
use Rattle.std.proofs.Common.{◌≡◌, ℕ, Bool, true, false, List, [], ◌∷◌, refl}
use Rattle.scans.specs.First.{first_bad}
use Rattle.scans.specs.Refusals.{Stage, whole, unless_at, in_order}
use Rattle.meaning.specs.Stated.{Stated}
use Rattle.stored.specs.declared.Refusal.{Refusal}
use Rattle.stored.specs.Reading.{refused}
use Rattle.stored.specs.Checked.{checked, followed}

-- a table is its first test, and then the others
pub checked_first : (st : Stage) (rest : List Stage) (answer : Stated) → in_order refused (st ∷ rest) answer ≡ followed (checked st) (in_order refused rest answer)
unfolding in_order unless_at checked
checked_first st rest answer = go (first_bad st.ok st.count)
  where
    go : (x : Option ℕ) → unless_at x (λ i. refused st.number (st.block i) (st.slot i)) (in_order refused rest answer)
        ≡ followed (unless_at x (λ i. Err (record { number = st.number; block = st.block i; «record» = st.slot i })) (Ok tt)) (in_order refused rest answer)
    go None = refl
    go (Some i) = refl

-- past the last test the answer is left
pub checked_all : (answer : Stated) → in_order refused [] answer ≡ answer
unfolding in_order
checked_all answer = refl

pub ruleset checking = (checked_first, checked_all)

-- a test of the whole that was passed
pub passed_whole : (number : ℕ) (t : Bool) {r : Result Unit Refusal} → r ≡ checked (whole number t) → r ≡ Ok tt → t ≡ true
unfolding checked unless_at first_bad
passed_whole number true p q = refl
passed_whole number false p q = absurd cc

-- a test as a search makes it: none fails, or the first that does is refused
pub checked_none : (st : Stage) → None ≡ first_bad st.ok st.count → Ok tt ≡ checked st
unfolding checked unless_at
checked_none st e = rw (← e) refl

pub checked_some : (st : Stage) {i : ℕ} {e : Refusal} → Some i ≡ first_bad st.ok st.count → e ≡ (record { number = st.number; block = st.block i; «record» = st.slot i }) → Err e ≡ checked st
unfolding checked unless_at
checked_some st p q = rw (← p, q) refl
