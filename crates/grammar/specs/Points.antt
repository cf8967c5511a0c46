-- Where reading stands in a text, and how the next item takes it on.
-- Assumes nothing.
use Rattle.std.specs.Prelude.{◌≡◌, Bool, true, false, not, ◌&&◌, cond, List, [], ◌∷◌, ◌++◌, ℕ, suc, ◌+◌, ◌≤◌, leb, ltb, eqb, length, get_or}
use Rattle.std.proofs.Math.Option.{Option, some, none}
use Rattle.grammar.specs.Items.{Keyword, GIVEN, EXPECT, WHEN, IS, AT, Operator, Mark, NOT, OPEN, CLOSE, COLON, SEMICOLON, SIGN, Item, word, variable, number, mark, mark_byte}
use Rattle.grammar.specs.Guards.{Guard, letter, constant, complement, bracketed, joined, strength}
use Rattle.grammar.specs.Grammar.{Clause, Text}

-- what waits for its right side: `!`, a bracket, or an operator with what stands left of it
pub data Frame : Type 0 where
  negating grouping : Frame
  joining : Operator → Guard → Frame

pub record Closed : Type 0 where
  pub frames : List Frame
  pub guard : Guard

-- what an operator of strength s finds at its left: all that binds as strongly has its right side now
unfoldable pub close : ℕ → List Frame → Guard → Closed
close s [] g = record { frames = []; guard = g }
close s (negating ∷ fs) g = close s fs (complement g)
close s (grouping ∷ fs) g = record { frames = grouping ∷ fs; guard = g }
close s (joining o h ∷ fs) g = cond (leb s (strength o)) (close s fs (joined o h g)) (record { frames = joining o h ∷ fs; guard = g })

-- operators of strength s and above find nothing to close in these frames
pub record Fresh (s : ℕ) (fs : List Frame) : Type 0 where
  pub stays : (o : Operator) (g : Guard) → s ≤ strength o → close (strength o) fs g ≡ record { frames = fs; guard = g }

unfoldable pub groups : List Frame → ℕ
groups [] = 0
groups (negating ∷ fs) = groups fs
groups (grouping ∷ fs) = suc (groups fs)
groups (joining o h ∷ fs) = groups fs

-- what the rest of a clause asks for, item by item
pub data Slot : Type 0 where
  saying : Keyword → Slot
  below : ℕ → Slot
  ending : Slot

-- NODE is VALUE at TIME ;
abbrev pub clause_slots : ℕ → List Slot
clause_slots n = below n ∷ saying IS ∷ below 2 ∷ saying AT ∷ below 256 ∷ ending ∷ []

pub data Phase : Type 0 where
  starting listing : Phase
  guarding : List Frame → Phase
  guarded : List Frame → Guard → Phase
  telling : Guard → List Slot → List ℕ → Phase

-- `used` counts the operands and operators read; `second` is true after `expect`
pub record Point : Type 0 where
  pub second : Bool
  pub given : List Clause
  pub expect : List Clause
  pub used : ℕ
  pub phase : Phase

abbrev pub moved : Point → Phase → Point
moved p phase = record { second = p.second; given = p.given; expect = p.expect; used = p.used; phase = phase }

-- one operand or operator more
abbrev pub spent : Point → Phase → Point
spent p phase = record { second = p.second; given = p.given; expect = p.expect; used = suc p.used; phase = phase }

abbrev pub turned : Point → Point
turned p = record { second = true; given = p.given; expect = p.expect; used = p.used; phase = listing }

-- one clause more
abbrev pub added : Point → Clause → Point
added p c =
    record {
      second = p.second;
      given = cond p.second p.given (p.given ++ c ∷ []);
      expect = cond p.second (p.expect ++ c ∷ []) p.expect;
      used = p.used;
      phase = listing;
    }

-- m more operands and operators are within the limit of a job's expressions; one more clause is within that of its clauses
abbrev pub has_room : Point → ℕ → Bool
has_room p m = leb (p.used + m) 504

abbrev pub has_one_more : Point → Bool
has_one_more p = ltb (length p.given + length p.expect) 504

abbrev pub when : {A : Type 0} → Bool → A → Option A
when true a = some a
when false a = none

-- where a clause may begin, or `expect` may stand; a clause needs a guard
abbrev pub listed : Point → Keyword → Option Point
listed p GIVEN = none
listed p EXPECT = when (not p.second) (turned p)
listed p WHEN = when (has_one_more p && has_room p 1) (moved p (guarding []))
listed p IS = none
listed p AT = none

-- where an operand is wanted: `!` and an operator need one more after them
abbrev pub marked : Point → List Frame → Mark → Option Point
marked p fs NOT = when (has_room p 2) (spent p (guarding (negating ∷ fs)))
marked p fs OPEN = when (ltb (groups fs) 32) (moved p (guarding (grouping ∷ fs)))
marked p fs CLOSE = none
marked p fs COLON = none
marked p fs SEMICOLON = none
marked p fs (SIGN o) = none

abbrev pub operand : ℕ → Point → List Frame → Item → Option Point
operand k p fs (word w) = none
operand k p fs (variable i) = when (ltb i k) (spent p (guarded fs (letter i)))
operand k p fs (number v) = when (ltb v 2) (spent p (guarded fs (constant v)))
operand k p fs (mark m) = marked p fs m

-- a bracket closes the group that is open; a guard ends where none is
abbrev pub regrouped : Point → List Frame → Guard → Option Point
regrouped p [] g = none
regrouped p (negating ∷ fs) g = none
regrouped p (grouping ∷ fs) g = some (moved p (guarded fs (bracketed g)))
regrouped p (joining o h ∷ fs) g = none

abbrev pub guard_ended : ℕ → Point → List Frame → Guard → Option Point
guard_ended n p [] g = some (moved p (telling g (clause_slots n) []))
guard_ended n p (f ∷ fs) g = none

-- where an operand has been read
abbrev pub followed : ℕ → Point → List Frame → Guard → Mark → Option Point
followed n p fs g NOT = none
followed n p fs g OPEN = none
followed n p fs g CLOSE = regrouped p (close 1 fs g).frames (close 1 fs g).guard
followed n p fs g COLON = guard_ended n p (close 1 fs g).frames (close 1 fs g).guard
followed n p fs g SEMICOLON = none
followed n p fs g (SIGN o) = when (has_room p 2) (spent p (guarding (joining o (close (strength o) fs g).guard ∷ (close (strength o) fs g).frames)))

abbrev pub word_number : Keyword → ℕ
word_number GIVEN = 0
word_number EXPECT = 1
word_number WHEN = 2
word_number IS = 3
word_number AT = 4

-- the numbers that an item adds in a slot
abbrev pub said : Slot → Keyword → Option (List ℕ)
said (saying w) v = when (eqb (word_number w) (word_number v)) []
said (below b) v = none
said ending v = none

abbrev pub counted : Slot → ℕ → Option (List ℕ)
counted (saying w) x = none
counted (below b) x = when (ltb x b) (x ∷ [])
counted ending x = none

abbrev pub ended : Slot → Mark → Option (List ℕ)
ended (saying w) m = none
ended (below b) m = none
ended ending m = when (eqb (mark_byte m) (mark_byte SEMICOLON)) []

abbrev pub filled : Slot → Item → Option (List ℕ)
filled s (word w) = said s w
filled s (variable i) = none
filled s (number x) = counted s x
filled s (mark m) = ended s m

abbrev pub after_slot : Point → Guard → List Slot → List ℕ → Point
after_slot p g [] ns = added p (record { guard = g; node = get_or ns 0 0; value = get_or ns 1 0; time = get_or ns 2 0 })
after_slot p g (s ∷ ss) ns = moved p (telling g (s ∷ ss) ns)

abbrev pub mapped : {A B : Type 0} → (A → B) → Option A → Option B
mapped f (some a) = some (f a)
mapped f none = none

abbrev pub told : Point → Guard → List Slot → List ℕ → Item → Option Point
told p g [] ns i = none
told p g (s ∷ ss) ns i = mapped (λ more. after_slot p g ss (ns ++ more)) (filled s i)

abbrev pub on_word : Point → (Keyword → Option Point) → Item → Option Point
on_word p f (word w) = f w
on_word p f (variable i) = none
on_word p f (number x) = none
on_word p f (mark m) = none

abbrev pub on_mark : Point → (Mark → Option Point) → Item → Option Point
on_mark p f (word w) = none
on_mark p f (variable i) = none
on_mark p f (number x) = none
on_mark p f (mark m) = f m

abbrev pub step_in : ℕ → ℕ → Point → Phase → Item → Option Point
step_in k n p starting i = on_word p (λ w. when (eqb (word_number w) (word_number GIVEN)) (moved p listing)) i
step_in k n p listing i = on_word p (listed p) i
step_in k n p (guarding fs) i = operand k p fs i
step_in k n p (guarded fs g) i = on_mark p (followed n p fs g) i
step_in k n p (telling g ss ns) i = told p g ss ns i

-- the next item, where it may stand
unfoldable pub step : ℕ → ℕ → Point → Item → Option Point
step k n p i = step_in k n p p.phase i

abbrev pub start : Point
start = record { second = false; given = []; expect = []; used = 0; phase = starting }

abbrev pub is_listing : Phase → Bool
is_listing starting = false
is_listing listing = true
is_listing (guarding fs) = false
is_listing (guarded fs g) = false
is_listing (telling g ss ns) = false

-- the text, where it may end
unfoldable pub finished : Point → Option Text
finished p = when (is_listing p.phase && p.second) (record { given = p.given; expect = p.expect })
