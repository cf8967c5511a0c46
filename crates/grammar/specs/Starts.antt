-- Where a text stops being the start of an accepted text.
-- Assumes nothing.
use Rattle.std.specs.Prelude.{List, ◌++◌, ℕ, suc, ◌≤◌, ◌<◌, length, take}
use Rattle.grammar.specs.Grammar.{Text, Reads}

-- s is the start of an accepted text
pub record Begins (k n : ℕ) (s : List ℕ) : Type 0 where
  pub rest : List ℕ
  pub text : Text
  pub reads : Reads k n text (s ++ rest)

-- the first byte where s stops being the start of an accepted text, or its length if it only ends early
pub record StopsAt (k n : ℕ) (s : List ℕ) (byte : ℕ) : Type 0 where
  pub within : byte ≤ length s
  pub not_read : (t : Text) → ¬ Reads k n t s
  pub begins : Begins k n (take byte s)
  pub stops : byte < length s → ¬ Begins k n (take (suc byte) s)
