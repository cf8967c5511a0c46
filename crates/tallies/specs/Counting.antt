-- Counting the cases that pass a test, sixty-four at a time, and finding the least of them.
-- Assumes nothing.
use Rattle.std.specs.Prelude.{◌≡◌, Bool, not, ◌&&◌, ℕ, ◌+◌, ◌*◌, ◌<◌, ltb}
use Rattle.scans.specs.First.{first_bad}
use Rattle.meaning.specs.Guards.{bit_of}
use Rattle.meaning.specs.Answers.{tally}
use Rattle.tallies.specs.declared.Found.{Found}

-- of the first m cases, how many pass the test, and the least that does
pub record FoundIn (f : ℕ → Bool) (m : ℕ) (r : Found) : Type 0 where
  pub count_is : r.count ≡ tally f m
  pub least_is : r.least ≡ first_bad (λ x. not (f x)) m

-- the word of group g: place i says whether case 64 g + i is one of the cases and passes the test
pub record Covers (f : ℕ → Bool) (cases g w : ℕ) : Type 0 where
  pub at : (i : ℕ) → i < 64 → bit_of w i ≡ (ltb (64 * g + i) cases && f (64 * g + i))
