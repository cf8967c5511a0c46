-- The laws of a loop that adds a block's words with wrapping.
-- Assumes nothing.
use Rattle.std.proofs.Common.{◌≡◌, ℕ, suc, ◌+◌, ◌%◌, ◌^◌, refl, arith}
use Rattle.stored.specs.Bytes.{word_of, word_sum}

pub sum_none : (f : ℕ → ℕ) → word_sum f 0 % 2 ^ 32 ≡ 0
unfolding word_sum
sum_none f = refl

-- one word more
pub sum_more : (f : ℕ → ℕ) (i : ℕ) → word_sum f (i + 1) % 2 ^ 32 ≡ (word_sum f i % 2 ^ 32 + word_of f i) % 2 ^ 32
unfolding word_sum
sum_more f i = let e : i + 1 ≡ suc i = omega arith in rw e (omega arith)

pub ruleset adding = (sum_none, sum_more)
