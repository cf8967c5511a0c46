-- Wherever items lead from the start, more items lead on to where a text may end: an operand, a bracket for each that is open, a colon, zeros, `expect`.
-- Assumes nothing.
use mathlib.Core.Path.{◌≡◌, refl, ◌∙◌}
use mathlib.Core.Bool.{Bool, true, false, cond}
use mathlib.Core.List.{List, [], ◌∷◌, ◌++◌}
use mathlib.Core.Option.{some}
use Prim.Native.Nat.{ℕ, suc, ◌≤◌}
use Rattle.grammar.specs.Items.{GIVEN, EXPECT, CLOSE, COLON, Item, word, number, mark}
use Rattle.grammar.specs.Guards.{Guard, constant, complement, bracketed, joined}
use Rattle.grammar.specs.Grammar.{Clause}
use Rattle.grammar.specs.Points.{Frame, negating, grouping, joining, close, Slot, Phase, starting, listing, guarding, guarded, telling, Point, followed, step, start, finished}
use Rattle.grammar.proofs.Steps.{steps, chain, Ends, point}
use Rattle.grammar.proofs.Slots.{slots_steps, Told, told_none}
use Rattle.grammar.proofs.Frames.{strength_from, close_joining}
use Rattle.grammar.proofs.Reached.{Sound, reached}

module _ (k n : ℕ) (some-node : 1 ≤ n) where
  after : (p : Point) (is : List Item) {q : Point} → steps k n p is ≡ some q → Ends k n q → Ends k n p
  after p is e w = (is ++ w.0, w.1, w.2, chain k n p is w.0 e w.3, w.4)

  ends_listing : (b : Bool) (gs es : List Clause) (u : ℕ) → Ends k n (point b gs es u listing)
  unfolding steps step finished
  ends_listing true gs es u = ([], _, _, refl, refl)
  ends_listing false gs es u = (word EXPECT ∷ [], _, _, refl, refl)

  module _ (b : Bool) (gs es : List Clause) (u : ℕ) where
    ends_telling : {s : Slot} {ss : List Slot} {ns : List ℕ} {said : List Item} (g : Guard) → Told n (s ∷ ss) ns said → Ends k n (point b gs es u (telling g (s ∷ ss) ns))
    ends_telling {ns = ns} g t = let (js, ms, f) = t.can_fill some-node in after _ js (slots_steps k n (point b gs es u listing) g ns f) (ends_listing b _ _ u)

    -- the mark that may come next, a bracket or a colon
    record Leaves (fs : List Frame) (g : Guard) : Type 0 where
      bracket : Bool
      after_it : Point
      there : (φ : Phase) → followed n (point b gs es u φ) fs g (cond bracket CLOSE COLON) ≡ some after_it
      ends : Ends k n after_it

    ends_guarded : (fs : List Frame) (g : Guard) → Leaves fs g → Ends k n (point b gs es u (guarded fs g))
    unfolding steps step
    ends_guarded fs g l = after _ (mark (cond l.bracket CLOSE COLON) ∷ []) (rw (l.there (guarded fs g))) l.ends

    -- both go by what is closed
    leaves_same : (fs hs : List Frame) (g h : Guard) → close 1 fs g ≡ close 1 hs h → Leaves hs h → Leaves fs g
    leaves_same fs hs g h e l = record { bracket = l.bracket; after_it = l.after_it; there = λ φ. by l.bracket φ ∙ l.there φ; ends = l.ends }
      where
        by : (c : Bool) (φ : Phase) → followed n (point b gs es u φ) fs g (cond c CLOSE COLON) ≡ followed n (point b gs es u φ) hs h (cond c CLOSE COLON)
        by true φ = rw e
        by false φ = rw e

    leaves : (fs : List Frame) (g : Guard) → Leaves fs g
    unfolding close
    leaves [] g = record { bracket = false; after_it = _; there = λ φ. refl; ends = ends_telling g (told_none n) }
    leaves (grouping ∷ fs) g = record { bracket = true; after_it = _; there = λ φ. refl; ends = ends_guarded fs (bracketed g) (leaves fs (bracketed g)) }
    leaves (negating ∷ fs) g = leaves_same (negating ∷ fs) fs g (complement g) refl (leaves fs (complement g))
    leaves (joining o h ∷ fs) g = leaves_same (joining o h ∷ fs) fs g (joined o h g) (close_joining 1 o h g fs (strength_from o)) (leaves fs (joined o h g))

  -- in every phase
  finish : (b : Bool) (gs es : List Clause) (u : ℕ) (φ : Phase) (said : List Item) → Sound k n (point b gs es u φ) said → Ends k n (point b gs es u φ)
  unfolding steps step
  finish b gs es u starting said s = after _ (word GIVEN ∷ []) refl (ends_listing b gs es u)
  finish b gs es u listing said s = ends_listing b gs es u
  finish b gs es u (guarding fs) said s = after _ (number 0 ∷ []) refl (ends_guarded b gs es (suc u) fs (constant 0) (leaves b gs es (suc u) fs (constant 0)))
  finish b gs es u (guarded fs g) said s = ends_guarded b gs es u fs g (leaves b gs es u fs g)
  finish b gs es u (telling g [] ns) said s = absurd s.in_phase_lem
  finish b gs es u (telling g (z ∷ ss) ns) said s = ends_telling b gs es u g s.in_phase_lem.1

pub steps_finish : (k n : ℕ) → 1 ≤ n → (is : List Item) (q : Point) → steps k n start is ≡ some q → Ends k n q
steps_finish k n h is q e = let (said, s, same) = reached k n is q e in finish k n h q.second q.given q.expect q.used q.phase said s
