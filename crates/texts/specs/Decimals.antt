-- A number as decimal digits, without zeros in front; 0 is `0`.
-- Assumes nothing.
use Rattle.std.specs.Prelude.{cond, List, [], ◌∷◌, ◌++◌, ℕ, zero, suc, ◌+◌, ◌/◌, ◌%◌, ltb}

-- the byte of a digit
abbrev pub digit : ℕ → ℕ
digit d = 48 + d

-- the digits of x, at most `most` of them: those of x / 10, then x % 10
unfoldable pub digits : ℕ → ℕ → List ℕ
digits zero x = []
digits (suc most) x = cond (ltb x 10) (digit x ∷ []) (digits most (x / 10) ++ digit (x % 10) ∷ [])

-- x has no more than x + 1 digits
unfoldable pub decimal : ℕ → List ℕ
decimal x = digits (suc x) x
