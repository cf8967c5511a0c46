-- Lists of bytes, and numbers and their bytes, both ways.
-- Assumes nothing.
use mathlib.Core.Path.{◌≡◌}
use native.Mathlib.Decide.{dec_lt}
use native.Mathlib.Omega.{arith}
use Prim.Native.Nat.{ℕ, zero, suc, ◌+◌, ◌*◌, ◌/◌, ◌<◌}
use Rattle.scans.specs.Lists.{list_of}
use Rattle.scans.proofs.Lists.{list_of_at, list_of_past}
use Rattle.stored.specs.Bytes.{byte_at, Bytes, digit}

-- a list of bytes, where f gives bytes
pub bytes_list_of : (f : ℕ → ℕ) (n : ℕ) → ((i : ℕ) → f i < 256) → Bytes (list_of f n)
bytes_list_of f n h i = go (dec_lt i n)
  where
    go : Dec (i < n) → byte_at (list_of f n) i < 256
    go (yes l) = omega (arith, list_of_at f n i l, h i)
    go (no l) = omega (arith, list_of_past f n i (omega arith))

-- each digit is a byte
pub digit_below : (v i : ℕ) → digit v i < 256
digit_below v zero = omega arith
digit_below v (suc i) = digit_below (v / 256) i

-- a number of two bytes is that of its digits, and its digits are those bytes
pub of_digits_2 : (v : ℕ) → v < 65536 → digit v 0 + 256 * digit v 1 ≡ v
of_digits_2 v h = omega arith

pub record Digits₂ (v a b : ℕ) : Type 0 where
  pub first : digit v 0 ≡ a
  pub second : digit v 1 ≡ b

pub digits_2 : (a b : ℕ) → a < 256 → b < 256 → Digits₂ (a + 256 * b) a b
digits_2 a b p q = omega arith

-- the same of four
pub of_digits_4 : (v : ℕ) → v < 4294967296 → digit v 0 + 256 * digit v 1 + 65536 * digit v 2 + 16777216 * digit v 3 ≡ v
of_digits_4 v h = omega arith

pub record Digits₄ (v a b c d : ℕ) : Type 0 where
  pub first : digit v 0 ≡ a
  pub second : digit v 1 ≡ b
  pub third : digit v 2 ≡ c
  pub fourth : digit v 3 ≡ d

pub digits_4 : (a b c d : ℕ) → a < 256 → b < 256 → c < 256 → d < 256 → Digits₄ (a + 256 * b + 65536 * c + 16777216 * d) a b c d
digits_4 a b c d p q r s = omega arith
