-- An answer as forty bytes: ten numbers of four bytes.
-- Assumes nothing.
use Rattle.std.specs.Prelude.{List, ◌∷◌, ℕ, ◌/◌, ◌%◌, get_or}
use Rattle.scans.specs.Lists.{list_of}
use Rattle.meaning.specs.Stated.{Stated}
use Rattle.stored.specs.Bytes.{digit}
use Rattle.boundary.specs.Words.{word_number}

-- the word's number, the answer's numbers, then zeros
unfoldable pub ten_numbers : Stated → List ℕ
ten_numbers a = list_of (λ i. get_or (word_number a.word ∷ a.numbers) i 0) 10

-- each number low byte first
unfoldable pub bytes_of : List ℕ → List ℕ
bytes_of numbers = list_of (λ i. digit (get_or numbers (i / 4) 0) (i % 4)) 40

abbrev pub answer_bytes : Stated → List ℕ
answer_bytes a = bytes_of (ten_numbers a)
