-- The slots of a clause: which items fill them, and where that leads.
-- Assumes nothing.
use borrow.Author.Tests.{ltb-true, lt-ltb, eq-eqb, eqb-true}
use mathlib.Core.Path.{◌≡◌, refl, sym, ◌∙◌, ap}
use mathlib.Core.Bool.{true}
use mathlib.Core.List.{List, [], ◌∷◌, ◌++◌, append_assoc, append-nil}
use mathlib.Core.Option.{some}
use Prim.Native.Nat.{ℕ, zero, suc, ◌≤◌, ◌<◌}
use native.Mathlib.Omega.{arith}
use lib.Dec.{eqb}
use lib.Seq.{append_snoc}
use Rattle.grammar.specs.Items.{Keyword, GIVEN, EXPECT, WHEN, IS, AT, SEMICOLON, Item, word, variable, number, mark}
use Rattle.grammar.specs.Guards.{Guard}
use Rattle.grammar.specs.Points.{Slot, saying, below, ending, clause_slots, telling, Point, moved, word_number, filled, after_slot, step}
use Rattle.grammar.proofs.Steps.{steps}
use Rattle.grammar.proofs.Options.{Each, when_each}
use Rattle.grammar.proofs.Bytes.{same_mark}

-- the item fills the slot, and adds these numbers
pub data Fills : Slot → Item → List ℕ → Type 0 where
  says : {w : Keyword} → Fills (saying w) (word w) []
  counts : {b x : ℕ} → x < b → Fills (below b) (number x) (x ∷ [])
  ends : Fills ending (mark SEMICOLON) []

pub data FillsAll : List Slot → List Item → List ℕ → Type 0 where
  full : FillsAll [] [] []
  next : {s : Slot} {i : Item} {m : List ℕ} {ss : List Slot} {is : List Item} {ns : List ℕ} → Fills s i m → FillsAll ss is ns → FillsAll (s ∷ ss) (i ∷ is) (m ++ ns)

-- a keyword by its number
numbered : ℕ → Keyword
numbered zero = GIVEN
numbered (suc zero) = EXPECT
numbered (suc (suc zero)) = WHEN
numbered (suc (suc (suc zero))) = IS
numbered (suc (suc (suc (suc m)))) = AT

number_word : (w : Keyword) → numbered (word_number w) ≡ w
unfolding numbered
number_word GIVEN = refl
number_word EXPECT = refl
number_word WHEN = refl
number_word IS = refl
number_word AT = refl

pub same_word : (v w : Keyword) → eqb (word_number v) (word_number w) ≡ true → v ≡ w
same_word v w e = sym (number_word v) ∙ ap numbered (eqb-true _ _ e) ∙ number_word w

-- what the points take in a slot fills it
pub fills : (s : Slot) (i : Item) → Each (Fills s i) (filled s i)
fills (saying w) (word v) = when_each (Fills (saying w) (word v)) _ _ (λ e. rw (same_word w v e) says)
fills (saying w) (variable i) = tt
fills (saying w) (number x) = tt
fills (saying w) (mark m) = tt
fills (below b) (word v) = tt
fills (below b) (variable i) = tt
fills (below b) (number x) = when_each (Fills (below b) (number x)) _ _ (λ e. counts (ltb-true x b e))
fills (below b) (mark m) = tt
fills ending (word v) = tt
fills ending (variable i) = tt
fills ending (number x) = tt
fills ending (mark m) = when_each (Fills ending (mark m)) _ _ (λ e. rw (same_mark m SEMICOLON (eqb-true _ _ e)) ends)

-- and what fills it they take
taken : {s : Slot} {i : Item} {m : List ℕ} → Fills s i m → filled s i ≡ some m
taken says = rw (eq-eqb _ _ refl)
taken (counts {b} {x} h) = rw (lt-ltb x b h)
taken ends = refl

-- the slots that are left are filled one after the other
pub slots_steps : (k n : ℕ) (p : Point) (g : Guard) (ns : List ℕ) {s : Slot} {ss : List Slot} {is : List Item} {ms : List ℕ} → FillsAll (s ∷ ss) is ms
    → steps k n (moved p (telling g (s ∷ ss) ns)) is ≡ some (after_slot p g [] (ns ++ ms))
unfolding steps step
slots_steps k n p g ns (next f full) = rw (taken f, append-nil)
slots_steps k n p g ns (next {m = m} f (next {m = l} {ns = ms} e r)) = rw (taken f, ← append_assoc ns m (l ++ ms)) (slots_steps k n p g (ns ++ m) (next e r))

-- the numbers and items of a clause's slots, all filled
pub record Filled (n : ℕ) (ns : List ℕ) (is : List Item) : Type 0 where
  pub node : ℕ
  pub value : ℕ
  pub time : ℕ
  pub numbers_are : ns ≡ node ∷ value ∷ time ∷ []
  pub items_are : is ≡ number node ∷ word IS ∷ number value ∷ word AT ∷ number time ∷ mark SEMICOLON ∷ []
  pub in_row : node < n
  pub binary : value < 2
  pub in_time : time < 256

-- the items that filled the slots so far: whatever fills the slots left, all are filled
pub record Told (n : ℕ) (ss : List Slot) (ns : List ℕ) (is : List Item) : Type 0 where
  pub fills_all : (js : List Item) (ms : List ℕ) → FillsAll ss js ms → Filled n (ns ++ ms) (is ++ js)
  pub can_fill : 1 ≤ n → (js : List Item) × (ms : List ℕ) × FillsAll ss js ms

all_filled : {n : ℕ} {is : List Item} {ns : List ℕ} → FillsAll (clause_slots n) is ns → Filled n ns is
all_filled (next (counts a) (next says (next (counts b) (next says (next (counts c) (next ends full)))))) =
    record { node = _; value = _; time = _; numbers_are = refl; items_are = refl; in_row = a; binary = b; in_time = c }

pub told_none : (n : ℕ) → Told n (clause_slots n) [] []
told_none n =
    record {
      fills_all = λ js ms f. all_filled f;
      can_fill = λ h. (_, _, next (counts h) (next says (next (counts {b = 2} {x = 0} (omega arith)) (next says (next (counts {b = 256} {x = 0} (omega arith)) (next ends full))))));
    }

left : {s : Slot} {ss : List Slot} {is : List Item} {ns : List ℕ} → FillsAll (s ∷ ss) is ns → (js : List Item) × (ms : List ℕ) × FillsAll ss js ms
left (next {is = js} {ns = ms} f r) = (js, ms, r)

pub told_more : {n : ℕ} {s : Slot} {ss : List Slot} {ns m : List ℕ} {is : List Item} {i : Item} → Told n (s ∷ ss) ns is → Fills s i m → Told n ss (ns ++ m) (is ++ i ∷ [])
told_more {ns = ns} {m = m} {is = is} {i = i} t f =
    record {
      fills_all = λ js ms r. rw (append_assoc ns m ms, append_snoc is i js) (t.fills_all (i ∷ js) (m ++ ms) (next f r));
      can_fill = λ h. left (t.can_fill h).2;
    }
