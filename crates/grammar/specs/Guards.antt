-- A guard as it stands in the text, brackets and all: its items, and where it needs brackets.
-- Assumes nothing.
use Rattle.std.specs.Prelude.{List, [], ◌∷◌, ◌++◌, ℕ, suc, ◌+◌, ◌≤◌, ◌<◌, max}
use Rattle.grammar.specs.Items.{Operator, AND, XOR, OR, NOT, OPEN, CLOSE, SIGN, Item, variable, number, mark}

pub data Guard : Type 0 where
  letter constant : ℕ → Guard
  complement bracketed : Guard → Guard
  joined : Operator → Guard → Guard → Guard

unfoldable pub guard_items : Guard → List Item
guard_items (letter i) = variable i ∷ []
guard_items (constant v) = number v ∷ []
guard_items (complement g) = mark NOT ∷ guard_items g
guard_items (bracketed g) = mark OPEN ∷ guard_items g ++ mark CLOSE ∷ []
guard_items (joined o g h) = guard_items g ++ mark (SIGN o) ∷ guard_items h

-- `&` before `^` before `|`; `!` is stronger than all three
abbrev pub strength : Operator → ℕ
strength AND = 3
strength XOR = 2
strength OR = 1

-- the guard may stand where an operator below strength s needs brackets: of equal operators the left one comes first,
-- and a group inside brackets is a whole guard again
unfoldable pub Stands : ℕ → Guard → Type 0
Stands s (letter i) = Unit {0}
Stands s (constant v) = Unit {0}
Stands s (complement g) = Stands 4 g
Stands s (bracketed g) = Stands 1 g
Stands s (joined o g h) = (s ≤ strength o) × Stands (strength o) g × Stands (suc (strength o)) h

-- variables below k; the constants are 0 and 1
unfoldable pub OperandsIn : ℕ → Guard → Type 0
OperandsIn k (letter i) = i < k
OperandsIn k (constant v) = v < 2
OperandsIn k (complement g) = OperandsIn k g
OperandsIn k (bracketed g) = OperandsIn k g
OperandsIn k (joined o g h) = OperandsIn k g × OperandsIn k h

-- brackets within brackets
unfoldable pub depth : Guard → ℕ
depth (letter i) = 0
depth (constant v) = 0
depth (complement g) = depth g
depth (bracketed g) = suc (depth g)
depth (joined o g h) = max (depth g) (depth h)

-- operands and operators
unfoldable pub size : Guard → ℕ
size (letter i) = 1
size (constant v) = 1
size (complement g) = suc (size g)
size (bracketed g) = size g
size (joined o g h) = suc (size g + size h)
