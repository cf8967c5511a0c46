-- Numbers in bytes, low byte first; the sum of a block's words.
-- Assumes nothing.
use Rattle.std.specs.Prelude.{List, ℕ, zero, suc, ◌+◌, ◌*◌, ◌/◌, ◌%◌, ◌<◌, get_or}

-- the byte at i, 0 past the end
abbrev pub byte_at : List ℕ → ℕ → ℕ
byte_at s i = get_or s i 0

abbrev pub u16_at : List ℕ → ℕ → ℕ
u16_at s i = byte_at s i + 256 * byte_at s (i + 1)

-- every element is a byte, as in each slice of bytes
abbrev pub Bytes : List ℕ → Type 0
Bytes s = (i : ℕ) → byte_at s i < 256

-- byte i of a number
abbrev pub digit : ℕ → ℕ → ℕ
digit v zero = v % 256
digit v (suc i) = digit (v / 256) i

-- word i of bytes f, 32 bits
abbrev pub word_of : (ℕ → ℕ) → ℕ → ℕ
word_of f i = f (4 * i) + 256 * f (4 * i + 1) + 65536 * f (4 * i + 2) + 16777216 * f (4 * i + 3)

-- the sum of the first n words
unfoldable pub word_sum : (ℕ → ℕ) → ℕ → ℕ
word_sum f zero = 0
word_sum f (suc n) = word_sum f n + word_of f n

-- the bytes of s from block b on
abbrev pub block_from : List ℕ → ℕ → ℕ → ℕ
block_from s b o = byte_at s (512 * b + o)
