-- `words_sum`: for each bytes that the words are read from, the sum so far is that of the words passed, modulo 2^32.
-- Assumes nothing.
use Rattle.std.proofs.Common.{◌≡◌, ℕ, ◌%◌, ◌^◌, ◌<◌}
use Rattle.stored.specs.Bytes.{word_of, word_sum}
use Rattle.blocks.proofs.numbers.words_sum.Given as goal

abbrev pub invariant-loop-i : goal.invariant-loop-i
invariant-loop-i g l =
    (f : ℕ → ℕ) → ((i r : ℕ) → i < l.count → goal.F-post g l.word i r → r ≡ word_of f i) → l.sum ≡ word_sum f l.i % 2 ^ 32
