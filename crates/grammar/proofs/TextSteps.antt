-- What the grammar has, the points read: from the start the items of a text lead where it may end, with that text.
-- Assumes nothing.
use borrow.Author.Tests.{lt-ltb, le-leb}
use mathlib.Core.Path.{◌≡◌, refl, ◌∙◌}
use mathlib.Core.Bool.{Bool, true, false}
use mathlib.Core.List.{List, [], ◌∷◌}
use mathlib.Core.Option.{some}
use native.Mathlib.Numerals.{add-one}
use native.Mathlib.Omega.{arith}
use Prim.Native.Nat.{ℕ, suc, ◌+◌, ◌≤◌, ◌<◌}
use native.Mathlib.Nat.{add-zero, add_assoc}
use lib.ListN.{length}
use Rattle.grammar.specs.Items.{Operator, OR}
use Rattle.grammar.specs.Guards.{Guard, letter, constant, complement, bracketed, joined, guard_items, strength, Stands, OperandsIn, depth, size}
use Rattle.grammar.specs.Grammar.{Clause, clause_items, list_items, Text, text_items, ClauseFits, EachFits, sizes}
use Rattle.grammar.specs.Points.{Frame, negating, grouping, joining, close, groups, listing, guarding, guarded, Point, moved, added, step, start, finished, Fresh}
use Rattle.grammar.proofs.Steps.{steps, point, to_given, to_expect, length_added, none_added, more_added, chain}
use Rattle.grammar.proofs.Frames.{strength_to, close_joining, size_some, fresh_from, fresh_none, fresh_grouping, fresh_joining, fresh_4}
use Rattle.grammar.proofs.Slots.{says, counts, ends, full, next, slots_steps}

module _ (k n : ℕ) (b : Bool) (gs es : List Clause) where
  -- a guard has been read, and weaker operators find it closed
  record GuardRead (s u : ℕ) (fs : List Frame) (g : Guard) : Type 0 where
    frames : List Frame
    last : Guard
    there : steps k n (point b gs es u (guarding fs)) (guard_items g) ≡ some (point b gs es (u + size g) (guarded frames last))
    closes : (o : Operator) → strength o ≤ s → close (strength o) frames last ≡ close (strength o) fs g

  module _ {s u : ℕ} {fs : List Frame} where
    read_operand : (g : Guard) → size g ≡ 1 → steps k n (point b gs es u (guarding fs)) (guard_items g) ≡ some (point b gs es (suc u) (guarded fs g)) → GuardRead s u fs g
    read_operand g e there = record { frames = fs; last = g; there = rw (e, add-one) there; closes = λ o le. refl }

    read_complement : {g : Guard} → GuardRead 4 (suc u) (negating ∷ fs) g → u + size (complement g) ≤ 504 → GuardRead s u fs (complement g)
    unfolding steps step guard_items size close
    read_complement {g} r room =
        let sum : suc u + size g ≡ u + suc (size g) = omega arith in
        record {
          frames = r.frames;
          last = r.last;
          there = rw (le-leb (u + 2) 504 (omega (arith, size_some g)), ← sum) r.there;
          closes = λ o le. r.closes o (omega (arith, strength_to o));
        }

    read_bracketed : {g : Guard} → GuardRead 1 u (grouping ∷ fs) g → groups fs < 32 → GuardRead s u fs (bracketed g)
    unfolding steps step guard_items size close
    read_bracketed {g} r deep =
        record {
          frames = fs;
          last = bracketed g;
          there = rw (lt-ltb (groups fs) 32 deep) (chain k n _ (guard_items g) _ r.there (rw (r.closes OR (omega arith))));
          closes = λ o le. refl;
        }

    read_joined : {o : Operator} {g h : Guard} → GuardRead (strength o) u fs g → GuardRead (suc (strength o)) (suc (u + size g)) (joining o g ∷ fs) h → Fresh s fs → s ≤ strength o
        → u + size (joined o g h) ≤ 504 → GuardRead s u fs (joined o g h)
    unfolding steps step guard_items size close
    read_joined {o} {g} {h} l r ready weak room =
        let sum : suc (u + size g) + size h ≡ u + suc (size g + size h) = omega arith in
        record {
          frames = r.frames;
          last = r.last;
          there = rw (← sum) (chain k n _ (guard_items g) _ l.there (rw (le-leb (u + size g + 2) 504 (omega (arith, size_some h)), l.closes o (omega arith), ready.stays o g weak) r.there));
          closes = λ o' le. r.closes o' (omega arith) ∙ close_joining (strength o') o g h fs (omega arith);
        }

  read_guard : (s u : ℕ) (fs : List Frame) (g : Guard) → Stands s g → OperandsIn k g → Fresh s fs → groups fs + depth g ≤ 32 → u + size g ≤ 504 → GuardRead s u fs g
  unfolding Stands OperandsIn depth size groups close
  read_guard s u fs (letter i) stands operands ready deep room = read_operand (letter i) refl (unfold steps step guard_items in rw (lt-ltb i k operands))
  read_guard s u fs (constant v) stands operands ready deep room = read_operand (constant v) refl (unfold steps step guard_items in rw (lt-ltb v 2 operands))
  read_guard s u fs (complement g) stands operands ready deep room =
      read_complement (read_guard 4 (suc u) (negating ∷ fs) g stands operands (fresh_4 (negating ∷ fs)) deep (omega arith)) room
  read_guard s u fs (bracketed g) stands operands ready deep room =
      read_bracketed (read_guard 1 u (grouping ∷ fs) g stands operands (fresh_grouping 1 fs) (omega arith) room) (omega arith)
  read_guard s u fs (joined o g h) stands operands ready deep room =
      read_joined (read_guard (strength o) u fs g stands.1 operands.0 (fresh_from stands.0 ready) (omega arith) (omega arith))
      (read_guard (suc (strength o)) (suc (u + size g)) (joining o g ∷ fs) h stands.2 operands.1 (fresh_joining o g fs) (omega arith) (omega arith))
      ready stands.0 room

-- the point after more clauses
abbrev grown : Bool → List Clause → List Clause → ℕ → List Clause → Point
grown b gs es u cs = point b (to_given b gs cs) (to_expect b es cs) (u + sizes cs) listing

module _ (k n : ℕ) where
  read_clause : (b : Bool) (gs es : List Clause) (u : ℕ) (c : Clause) → ClauseFits k n c → length gs + length es < 504 → u + size c.guard ≤ 504
      → steps k n (point b gs es u listing) (clause_items c) ≡ some (added (point b gs es (u + size c.guard) listing) c)
  unfolding steps step clause_items close groups
  read_clause b gs es u c f few room =
      let r = read_guard k n b gs es 1 u [] c.guard f.stands f.operands (fresh_none 1) (omega (arith, f.brackets)) room in
      rw (lt-ltb (length gs + length es) 504 few, le-leb (u + 1) 504 (omega (arith, size_some c.guard)))
      (chain k n _ (guard_items c.guard) _ r.there
      (rw (r.closes OR (omega arith))
      (slots_steps k n (point b gs es (u + size c.guard) listing) c.guard [] (next (counts f.in_row) (next says (next (counts f.binary) (next says (next (counts f.in_time) (next ends full)))))))))

  read_list : (b : Bool) (cs gs es : List Clause) (u : ℕ) → EachFits k n cs → length gs + length es + length cs ≤ 504 → u + sizes cs ≤ 504
      → steps k n (point b gs es u listing) (list_items cs) ≡ some (grown b gs es u cs)
  unfolding steps list_items EachFits sizes
  read_list b [] gs es u f few room = rw (add-zero, none_added b gs es u)
  read_list b (c ∷ cs) gs es u f few room =
      chain k n _ (clause_items c) _ (read_clause b gs es u c f.0 (omega arith) (omega arith))
      (rw (← more_added b gs es (c ∷ []) cs, ← add_assoc) (read_list b cs _ _ _ f.1 (omega (arith, length_added b gs es (c ∷ []))) (omega arith)))

pub text_steps : (k n : ℕ) (t : Text) → EachFits k n t.given → EachFits k n t.expect → length t.given + length t.expect ≤ 504 → sizes t.given + sizes t.expect ≤ 504
    → (q : Point) × (steps k n start (text_items t) ≡ some q) × (finished q ≡ some t)
unfolding steps step text_items finished
text_steps k n t fg fe few room = (
  grown true t.given [] (0 + sizes t.given) t.expect,
  chain k n (moved start listing) (list_items t.given) _ (read_list k n false t.given [] [] 0 fg (omega arith) (omega arith)) (read_list k n true t.expect t.given [] _ fe (omega arith) (omega arith)),
  refl,
)
