-- Texts that compute: what is read, its records, and the byte where a text stops.
-- Assumes nothing.
use mathlib.Core.Path.{◌≡◌, refl}
use mathlib.Core.List.{List, [], ◌∷◌}
use Prim.Native.Nat.{ℕ}
use Rattle.texts.specs.Texts.{text}
use Rattle.grammar.specs.Items.{AND, XOR, OR, letters}
use Rattle.grammar.specs.Spelling.{is_gap}
use Rattle.grammar.specs.Guards.{letter, constant, complement, bracketed, joined, size}
use Rattle.grammar.specs.Grammar.{Text, sizes}
use Rattle.grammar.specs.Records.{guard_records, list_expressions, list_clauses, text_expressions, text_clauses}
use Rattle.grammar.specs.Points.{close, groups, step, finished}
use Rattle.grammar.specs.Bytewise.{mark_of, word_of, begun, fed_ready, fed_digits, fed, run, reads, stops, read_text}

-- the bench's own line
abbrev bench : Text
bench =
    record {
      given = [];
      expect = record { guard = joined AND (letter 0) (complement (bracketed (joined XOR (letter 1) (letter 2)))); node = 12; value = 1; time = 3 } ∷ [];
    }

bench_reads : read_text 3 13 (text "given expect when a & !(b ^ c) : 12 is 1 at 3 ;") ≡ reads bench
unfolding run fed fed_ready is_gap mark_of begun word_of letters step fed_digits close groups finished
bench_reads = refl

-- a, b, c, b ^ c, !, &; the clause's guard is the last of them
bench_expressions : text_expressions bench
    ≡ 2 ∷ 0 ∷ 0 ∷ 0 ∷ 0 ∷ 0 ∷ 0 ∷ 0
    ∷ 2 ∷ 0 ∷ 1 ∷ 0 ∷ 0 ∷ 0 ∷ 0 ∷ 0
    ∷ 2 ∷ 0 ∷ 2 ∷ 0 ∷ 0 ∷ 0 ∷ 0 ∷ 0
    ∷ 6 ∷ 0 ∷ 1 ∷ 0 ∷ 2 ∷ 0 ∷ 0 ∷ 0
    ∷ 3 ∷ 0 ∷ 3 ∷ 0 ∷ 0 ∷ 0 ∷ 0 ∷ 0
    ∷ 4 ∷ 0 ∷ 0 ∷ 0 ∷ 4 ∷ 0 ∷ 0 ∷ 0 ∷ []
unfolding text_expressions list_expressions guard_records size sizes
bench_expressions = refl

bench_clauses : text_clauses bench ≡ 1 ∷ 1 ∷ 12 ∷ 0 ∷ 3 ∷ 0 ∷ 5 ∷ 0 ∷ []
unfolding text_clauses list_clauses size sizes
bench_clauses = refl

-- and before xor before or, and of equal ones the left first
strengths : read_text 4 1 (text "given when a|b^c&d|0:0 is 0 at 0;expect")
    ≡ reads (record { given = record { guard = joined OR (joined OR (letter 0) (joined XOR (letter 1) (joined AND (letter 2) (letter 3)))) (constant 0); node = 0; value = 0; time = 0 } ∷ []; expect = [] })
unfolding run fed fed_ready is_gap mark_of begun word_of letters step fed_digits close groups finished
strengths = refl

abbrev Stops : ℕ → ℕ → List ℕ → ℕ → Type 0
Stops k n s byte = read_text k n s ≡ stops byte

-- nothing at all; a word that breaks; two words that touch; a variable not below k; a node not below n; a zero in front; a time above 255; the end too early
stopping : Stops 1 1 [] 0 × Stops 1 1 (text "giver") 4 × Stops 1 1 (text "givenexpect") 5 × Stops 1 1 (text "given when b") 11 × Stops 1 12 (text "given when a : 12") 16
    × Stops 1 12 (text "given when a : 01") 16 × Stops 1 1 (text "given when a : 0 is 1 at 256;") 27 × Stops 1 1 (text "given expect when") 17
unfolding run fed fed_ready is_gap mark_of begun word_of letters step fed_digits close groups finished
stopping = (refl, refl, refl, refl, refl, refl, refl, refl)
