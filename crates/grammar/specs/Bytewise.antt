-- Reading a text byte by byte: the next byte goes on with an item, or begins one, or is a gap.
-- Assumes nothing.
use Rattle.std.specs.Prelude.{Bool, true, false, ◌&&◌, cond, List, [], ◌∷◌, ℕ, suc, ◌+◌, ◌*◌, ◌-◌, leb, ltb, eqb, drop}
use Rattle.std.proofs.Math.Option.{Option, some, none}
use Rattle.grammar.specs.Items.{Keyword, GIVEN, EXPECT, WHEN, IS, AT, AND, XOR, OR, Mark, NOT, OPEN, CLOSE, COLON, SEMICOLON, SIGN, word, variable, number, mark, letters}
use Rattle.grammar.specs.Spelling.{is_gap}
use Rattle.grammar.specs.Grammar.{Text}
use Rattle.grammar.specs.Points.{Point, when, step, start, finished}

-- between items, with a wordlike one just before or not; within a word, with the letters to come; within a number
pub data Within : Type 0 where
  ready : Bool → Within
  spelling : List ℕ → Within
  digits : ℕ → Within

-- within a word the point is the one after it, within a number the one before it
pub record State : Type 0 where
  pub within : Within
  pub point : Point

abbrev pub at : Within → Point → State
at w p = record { within = w; point = p }

-- the first of these bytes that is b
abbrev pub pick : {A : Type 0} → ℕ → ℕ → A → Option A → Option A
pick b c a rest = cond (eqb b c) (some a) rest

unfoldable pub mark_of : ℕ → Option Mark
mark_of b = pick b 33 NOT (pick b 40 OPEN (pick b 41 CLOSE (pick b 58 COLON (pick b 59 SEMICOLON (pick b 38 (SIGN AND) (pick b 94 (SIGN XOR) (pick b 124 (SIGN OR) none)))))))

unfoldable pub word_of : ℕ → Option Keyword
word_of b = pick b 103 GIVEN (pick b 101 EXPECT (pick b 119 WHEN (pick b 105 IS (pick b 97 AT none))))

abbrev pub tail : List ℕ → List ℕ
tail [] = []
tail (b ∷ s) = s

abbrev pub is_digit : ℕ → Bool
is_digit b = leb 48 b && ltb b 58

-- the point after an item, if the item may stand there
abbrev pub onward : Within → Option Point → Option State
onward w none = none
onward w (some p) = some (at w p)

abbrev pub staying : Within → Point → Option Point → Option State
staying w p none = none
staying w p (some q) = some (at w p)

abbrev pub or_else : {A : Type 0} → Option A → Option A → Option A
or_else (some a) b = some a
or_else none b = b

abbrev pub begun_word : ℕ → ℕ → Point → Option Keyword → Option State
begun_word k n p none = none
begun_word k n p (some w) = onward (spelling (tail (letters w))) (step k n p (word w))

-- a wordlike item begins
unfoldable pub begun : ℕ → ℕ → Point → ℕ → Option State
begun k n p b =
    cond (is_digit b)
    (staying (digits (b - 48)) p (step k n p (number (b - 48))))
    (cond (leb 97 b) (or_else (onward (ready true) (step k n p (variable (b - 97)))) (begun_word k n p (word_of b))) none)

abbrev pub marks : ℕ → ℕ → Point → Option Mark → Option State → Option State
marks k n p none rest = rest
marks k n p (some m) rest = onward (ready false) (step k n p (mark m))

unfoldable pub fed_ready : ℕ → ℕ → Bool → Point → ℕ → Option State
fed_ready k n touching p b =
    cond (is_gap b) (some (at (ready false) p)) (marks k n p (mark_of b) (cond touching none (begun k n p b)))

abbrev pub fed_spelling : Point → List ℕ → ℕ → Option State
fed_spelling p [] b = none
fed_spelling p (c ∷ []) b = when (eqb b c) (at (ready true) p)
fed_spelling p (c ∷ d ∷ s) b = when (eqb b c) (at (spelling (d ∷ s)) p)

-- a number goes on unless it is 0, or would be too large; another byte ends it
abbrev pub passed : ℕ → ℕ → ℕ → Option Point → Option State
passed k n b none = none
passed k n b (some p) = fed_ready k n true p b

unfoldable pub fed_digits : ℕ → ℕ → Point → ℕ → ℕ → Option State
fed_digits k n p v b =
    cond (is_digit b)
    (cond (eqb v 0) none (staying (digits (10 * v + (b - 48))) p (step k n p (number (10 * v + (b - 48))))))
    (passed k n b (step k n p (number v)))

abbrev pub fed_in : ℕ → ℕ → Within → Point → ℕ → Option State
fed_in k n (ready touching) p b = fed_ready k n touching p b
fed_in k n (spelling s) p b = fed_spelling p s b
fed_in k n (digits v) p b = fed_digits k n p v b

unfoldable pub fed : ℕ → ℕ → State → ℕ → Option State
fed k n σ b = fed_in k n σ.within σ.point b

-- a text, or the place where reading stops
pub data Outcome : Type 0 where
  reads : Text → Outcome
  stops : ℕ → Outcome

abbrev pub or_stops : ℕ → Option Text → Outcome
or_stops i none = stops i
or_stops i (some t) = reads t

abbrev pub at_end : ℕ → Within → Point → Outcome
at_end i (ready touching) p = or_stops i (finished p)
at_end i (spelling s) p = stops i
at_end i (digits v) p = stops i

abbrev pub going_on : ℕ → Option State → (State → Outcome) → Outcome
going_on i none f = stops i
going_on i (some σ) f = f σ

-- the bytes from place i on
unfoldable pub run : ℕ → ℕ → ℕ → State → List ℕ → Outcome
run k n i σ [] = at_end i σ.within σ.point
run k n i σ (b ∷ s) = going_on i (fed k n σ b) (λ σ'. run k n (suc i) σ' s)

-- the whole text
abbrev pub read_text : ℕ → ℕ → List ℕ → Outcome
read_text k n s = run k n 0 (at (ready false) start) s

-- reading from place i
abbrev pub reading : ℕ → ℕ → List ℕ → ℕ → Within → Point → Outcome
reading k n text i w p = run k n i (at w p) (drop i text)
