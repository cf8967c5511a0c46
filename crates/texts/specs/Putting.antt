-- What putting a text into lent bytes comes to.
-- Assumes nothing.
use Rattle.std.specs.Prelude.{◌≡◌, List, ◌++◌, ℕ, ◌+◌, ◌≤◌, length, take, drop}

-- a piece from place `at` on, and the place where it ends
pub record Puts (piece : List ℕ) (at : ℕ) (d d' : List ℕ) (end : ℕ) : Type 0 where
  pub end_is : end ≡ at + length piece
  pub fits : end ≤ length d
  pub is : d' ≡ take at d ++ piece ++ drop end d
  pub size : length d' ≡ length d
