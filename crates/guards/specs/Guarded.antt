-- What a list of words says of guards: at each of the 64 places, the truth of each expression in the case that stands there.
-- Assumes nothing.
use Rattle.std.specs.Prelude.{◌≡◌, List, ℕ, ◌+◌, ◌*◌, ◌<◌, get_or}
use Rattle.meaning.specs.Guards.{bit_of, truth}
use Rattle.meaning.specs.Jobs.{Job}
use Rattle.decoded.specs.declared.Plan.{Plan}
use Rattle.decoded.specs.Plans.{expression_of}

-- at place i the words of the first e expressions have their truth in case x
pub record Guarded (j : Job) (e : ℕ) (words : List ℕ) (i x : ℕ) : Type 0 where
  pub at : (m : ℕ) → m < e → bit_of (get_or words m 0) i ≡ truth j.expressions x m

-- the words of a plan's expressions in group g: at place i, their truth in case 64 g + i
pub record GuardWords (p : Plan) (g : ℕ) (words : List ℕ) : Type 0 where
  pub at : (i : ℕ) → i < 64 → (m : ℕ) → m < p.size.e → bit_of (get_or words m 0) i ≡ truth (expression_of p.expressions) (64 * g + i) m
