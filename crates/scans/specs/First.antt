-- The first index that fails a test; every index; the first place over times and nodes.
-- Assumes nothing.
use Rattle.std.specs.Prelude.{Option, None, Some}
use Rattle.std.specs.Prelude.{◌≡◌, Bool, true, false, ℕ, zero, suc, ◌<◌}

-- a search that has come to index i: it goes on if nothing failed, and stops there if i fails
abbrev pub go_on : Option ℕ → Bool → ℕ → Option ℕ
go_on None true i = None
go_on None false i = Some i
go_on (Some j) b i = Some j

-- the first index below n that fails f
unfoldable pub first_bad : (ℕ → Bool) → ℕ → Option ℕ
first_bad f zero = None
first_bad f (suc n) = go_on (first_bad f n) (f n) n

abbrev pub is_clear : Option ℕ → Bool
is_clear None = true
is_clear (Some i) = false

-- every index below n passes f
unfoldable pub each : (ℕ → Bool) → ℕ → Bool
each f n = is_clear (first_bad f n)

abbrev pub place_in : ℕ → Option ℕ → Option (ℕ × ℕ)
place_in t None = None
place_in t (Some n) = Some (t, n)

abbrev pub place_at : (ℕ → ℕ → Bool) → ℕ → Option ℕ → Option (ℕ × ℕ)
place_at f nodes None = None
place_at f nodes (Some t) = place_in t (first_bad (f t) nodes)

-- the first time below times at which some node below nodes fails f, and the lowest node that fails then
unfoldable pub first_place : (ℕ → ℕ → Bool) → ℕ → ℕ → Option (ℕ × ℕ)
first_place f times nodes = place_at f nodes (first_bad (λ t. each (f t) nodes) times)

-- what first_bad finds, said by itself: i fails, and every index before it passes
pub record FirstBad (f : ℕ → Bool) (n i : ℕ) : Type 0 where
  pub below : i < n
  pub fails : f i ≡ false
  pub before : (k : ℕ) → k < i → f k ≡ true

-- what first_place finds: earlier rows are clean, and this row is clean below n
pub record FirstPlace (f : ℕ → ℕ → Bool) (times nodes t n : ℕ) : Type 0 where
  pub in_time : t < times
  pub in_row : n < nodes
  pub fails : f t n ≡ false
  pub earlier : (t' n' : ℕ) → t' < t → n' < nodes → f t' n' ≡ true
  pub lower : (n' : ℕ) → n' < n → f t n' ≡ true
