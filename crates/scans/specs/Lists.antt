-- A list given by a function of the place.
-- Assumes nothing.
use Rattle.std.specs.Prelude.{List, [], ◌∷◌, ◌++◌, ℕ, zero, suc}

-- the list f 0, f 1, .. of n elements
unfoldable pub list_of : (ℕ → ℕ) → ℕ → List ℕ
list_of f zero = []
list_of f (suc n) = list_of f n ++ f n ∷ []
