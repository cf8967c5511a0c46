-- Guards: a list of expressions over the variables, and the truth of each in a case.
-- Assumes nothing.
use Rattle.std.specs.Prelude.{Bool, true, false, not, ◌&&◌, ◌||◌, List, [], ◌∷◌, ◌++◌, ℕ, zero, suc, ◌/◌, ◌%◌, ◌^◌, eqb, get_or}
use Rattle.std.specs.Bool.{xor}
use Rattle.meaning.specs.declared.Expression.{Expression}
use Rattle.meaning.specs.declared.Expression.TheVariants.{False, True, Variable, Not, And, Or, Xor}

-- variable i of a case is bit i of its number
unfoldable pub bit_of : ℕ → ℕ → Bool
bit_of x i = eqb (x / 2 ^ i % 2) 1

-- the truth of an expression in case x, given that of the earlier ones
unfoldable pub truth_given : ℕ → List Bool → Expression → Bool
truth_given x earlier False = false
truth_given x earlier True = true
truth_given x earlier (Variable a) = bit_of x a
truth_given x earlier (Not a) = not (get_or earlier a false)
truth_given x earlier (And a b) = get_or earlier a false && get_or earlier b false
truth_given x earlier (Or a b) = get_or earlier a false || get_or earlier b false
truth_given x earlier (Xor a b) = xor (get_or earlier a false) (get_or earlier b false)

-- the truths of the first i expressions
unfoldable pub truths : (ℕ → Expression) → ℕ → ℕ → List Bool
truths es x zero = []
truths es x (suc i) = let earlier = truths es x i in earlier ++ truth_given x earlier (es i) ∷ []

-- the truth of expression g
unfoldable pub truth : (ℕ → Expression) → ℕ → ℕ → Bool
truth es x g = truth_given x (truths es x g) (es g)
