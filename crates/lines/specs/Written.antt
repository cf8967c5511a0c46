-- What writing a line into lent bytes comes to.
-- Assumes nothing.
use Rattle.std.specs.Prelude.{◌≡◌, cond, List, ◌++◌, ℕ, leb, length, drop}

-- a line at the front of `out`, and its length; where it does not fit, 0, and nothing changed
pub record Gives (line out out' : List ℕ) (n : ℕ) : Type 0 where
  pub count : n ≡ cond (leb (length line) (length out)) (length line) 0
  pub out_is : out' ≡ cond (leb (length line) (length out)) (line ++ drop (length line) out) out
