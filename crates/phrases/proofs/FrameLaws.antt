-- What a mark does to what waits: an operator, `!`, and brackets.
-- Assumes nothing.
use borrow.Author.Tests.{le-leb, lt-ltb, le-ltb, lt-leb}
use mathlib.Core.Path.{◌≡◌, refl, ◌∙◌, ap}
use mathlib.Core.Bool.{false}
use mathlib.Core.List.{List, [], ◌∷◌}
use mathlib.Core.Option.{some, none}
use native.Mathlib.Decide.{dec_lt}
use native.Mathlib.Omega.{arith}
use Prim.Native.Nat.{ℕ, suc, ◌+◌, ◌≤◌, ◌<◌}
use Rattle.grammar.specs.Items.{Operator, Mark, NOT, OPEN, CLOSE, COLON, SEMICOLON, SIGN, mark, mark_byte}
use Rattle.grammar.specs.Guards.{Guard, complement, bracketed, joined, strength}
use Rattle.grammar.specs.Points.{Frame, negating, grouping, joining, close, groups, guarding, guarded, Phase, Point, followed, regrouped, guard_ended, step, finished, Fresh}
use Rattle.grammar.specs.Bytewise.{stops}
use Rattle.phrases.specs.Places.{Stands, Skips, NoGap}
use Rattle.phrases.specs.GuardsRead.{in_phase, wanting, having, Over}
use Rattle.grammar.proofs.Frames.{strength_from, close_joining}
use Rattle.phrases.proofs.Feeding.{run_gaps, mark_goes, mark_stops}
use Rattle.phrases.proofs.Stopping.{nothing_goes}
use Rattle.phrases.proofs.OperandLaws.{having_same}

-- what a closing mark does does not depend on the phase
regrouped_same : (p : Point) (used : ℕ) (a b : Phase) (fs : List Frame) (g : Guard) → regrouped (in_phase p used a) fs g ≡ regrouped (in_phase p used b) fs g
regrouped_same p used a b [] g = refl
regrouped_same p used a b (negating ∷ fs) g = refl
regrouped_same p used a b (grouping ∷ fs) g = refl
regrouped_same p used a b (joining o h ∷ fs) g = refl

ended_same : (n : ℕ) (p : Point) (used : ℕ) (a b : Phase) (fs : List Frame) (g : Guard) → guard_ended n (in_phase p used a) fs g ≡ guard_ended n (in_phase p used b) fs g
ended_same n p used a b [] g = refl
ended_same n p used a b (f ∷ fs) g = refl

module _ (k n : ℕ) (text : List ℕ) (p : Point) (used : ℕ) {i : ℕ} where
  -- guards that close alike, and that operators follow alike, are read on alike
  having_alike : (fs fs' : List Frame) (g g' : Guard) → NoGap text i → close 1 fs g ≡ close 1 fs' g'
      → ((o : Operator) → Stands text i (mark_byte (SIGN o)) → followed n (in_phase p used (guarded fs g)) fs g (SIGN o) ≡ followed n (in_phase p used (guarded fs' g')) fs' g' (SIGN o))
      → having k n text i p used fs g ≡ having k n text i p used fs' g'
  having_alike fs fs' g g' clean e sign = having_same k n text p used fs fs' g g' clean alike
    where
      alike : (m : Mark) → Stands text i (mark_byte m) → followed n (in_phase p used (guarded fs g)) fs g m ≡ followed n (in_phase p used (guarded fs' g')) fs' g' m
      alike NOT s = refl
      alike OPEN s = refl
      alike CLOSE s = regrouped_same p used (guarded fs g) (guarded fs' g') (close 1 fs g).frames (close 1 fs g).guard ∙ ap (λ c. regrouped (in_phase p used (guarded fs' g')) c.frames c.guard) e
      alike COLON s = ended_same n p used (guarded fs g) (guarded fs' g') (close 1 fs g).frames (close 1 fs g).guard ∙ ap (λ c. guard_ended n (in_phase p used (guarded fs' g')) c.frames c.guard) e
      alike SEMICOLON s = refl
      alike (SIGN o) s = sign o s

  -- where a guard ends, only a bracket or a colon goes on
  pub having_over : (fs : List Frame) (g : Guard) → Over 1 text i → (Stands text i 41 → followed n (in_phase p used (guarded fs g)) fs g CLOSE ≡ none) → (Stands text i 58 → followed n (in_phase p used (guarded fs g)) fs g COLON ≡ none)
      → having k n text i p used fs g ≡ stops i
  unfolding step finished
  having_over fs g v no-close no-colon = nothing_goes k n text (in_phase p used (guarded fs g)) i (λ _. refl) v.no_gap no_mark (λ d _ _. refl) (λ v _. refl) (λ w _. refl)
    where
      no_mark : (m : Mark) → Stands text i (mark_byte m) → followed n (in_phase p used (guarded fs g)) fs g m ≡ none
      no_mark NOT s = refl
      no_mark OPEN s = refl
      no_mark CLOSE s = no-close s
      no_mark COLON s = no-colon s
      no_mark SEMICOLON s = refl
      no_mark (SIGN o) s = absurd (v.no_sign s.inside o (strength_from o) s.is)

module _ (k n : ℕ) (text : List ℕ) (p : Point) (used : ℕ) (fs : List Frame) where
  -- an operator
  pub sign_goes : {i q : ℕ} (o : Operator) (g : Guard) → Stands text i (mark_byte (SIGN o)) → Skips text (i + 1) q → Fresh (strength o) fs → used + 2 ≤ 504 → having k n text i p used fs g ≡ wanting k n text q p (suc used) (joining o g ∷ fs)
  unfolding step
  sign_goes {i} {q} o g s gs f l = mark_goes k n text false (in_phase p used (guarded fs g)) (SIGN o) s stepped ∙ run_gaps k n text (in_phase p (suc used) (guarding (joining o g ∷ fs))) gs
    where
      stepped : step k n (in_phase p used (guarded fs g)) (mark (SIGN o)) ≡ some (in_phase p (suc used) (guarding (joining o g ∷ fs)))
      stepped = let same = f.stays o g (omega arith) in rw (le-leb (used + 2) 504 l, same)

  pub sign_stops : {i : ℕ} (o : Operator) (g : Guard) → Stands text i (mark_byte (SIGN o)) → 504 < used + 2 → having k n text i p used fs g ≡ stops i
  unfolding step
  sign_stops o g s l = mark_stops k n text false (in_phase p used (guarded fs g)) (SIGN o) s (rw (lt-leb (used + 2) 504 l))

  -- a guard that has its right side, where no stronger operator stands
  pub joined_up : {i : ℕ} (o : Operator) (g h : Guard) → Over (suc (strength o)) text i → having k n text i p used (joining o g ∷ fs) h ≡ having k n text i p used fs (joined o g h)
  joined_up {i} o g h v = having_alike k n text p used (joining o g ∷ fs) fs h (joined o g h) v.no_gap (close_joining 1 o g h fs (strength_from o)) (λ o' s. go o' s (dec_lt (strength o) (strength o')))
    where
      go : (o' : Operator) → Stands text i (mark_byte (SIGN o')) → Dec (strength o < strength o')
          → followed n (in_phase p used (guarded (joining o g ∷ fs) h)) (joining o g ∷ fs) h (SIGN o') ≡ followed n (in_phase p used (guarded fs (joined o g h))) fs (joined o g h) (SIGN o')
      go o' s (yes x) = absurd (v.no_sign s.inside o' x s.is)
      go o' s (no x) = rw (close_joining (strength o') o g h fs (omega arith))

  -- `!`
  pub not_goes : {i q : ℕ} → Stands text i 33 → Skips text (i + 1) q → used + 2 ≤ 504 → wanting k n text i p used fs ≡ wanting k n text q p (suc used) (negating ∷ fs)
  unfolding step
  not_goes s gs l = mark_goes k n text false (in_phase p used (guarding fs)) NOT s (rw (le-leb (used + 2) 504 l)) ∙ run_gaps k n text (in_phase p (suc used) (guarding (negating ∷ fs))) gs

  pub not_stops : {i : ℕ} → Stands text i 33 → 504 < used + 2 → wanting k n text i p used fs ≡ stops i
  unfolding step
  not_stops s l = mark_stops k n text false (in_phase p used (guarding fs)) NOT s (rw (lt-leb (used + 2) 504 l))

  pub negated_up : {i : ℕ} (g : Guard) → NoGap text i → having k n text i p used (negating ∷ fs) g ≡ having k n text i p used fs (complement g)
  unfolding close
  negated_up g clean = having_alike k n text p used (negating ∷ fs) fs g (complement g) clean refl (λ o s. refl)

  -- brackets
  pub open_goes : {i q : ℕ} → Stands text i 40 → Skips text (i + 1) q → groups fs < 32 → wanting k n text i p used fs ≡ wanting k n text q p used (grouping ∷ fs)
  unfolding step
  open_goes s gs l = mark_goes k n text false (in_phase p used (guarding fs)) OPEN s (rw (lt-ltb (groups fs) 32 l)) ∙ run_gaps k n text (in_phase p used (guarding (grouping ∷ fs))) gs

  pub open_stops : {i : ℕ} → Stands text i 40 → 32 ≤ groups fs → wanting k n text i p used fs ≡ stops i
  unfolding step
  open_stops s l = mark_stops k n text false (in_phase p used (guarding fs)) OPEN s (rw (le-ltb (groups fs) 32 l))

  pub close_goes : {i q : ℕ} (g : Guard) → Stands text i 41 → Skips text (i + 1) q → having k n text i p used (grouping ∷ fs) g ≡ having k n text q p used fs (bracketed g)
  unfolding step close
  close_goes g s gs = mark_goes k n text false (in_phase p used (guarded (grouping ∷ fs) g)) CLOSE s refl ∙ run_gaps k n text (in_phase p used (guarded fs (bracketed g))) gs

  pub close_stops : {i : ℕ} (g : Guard) → Over 1 text i → ¬ Stands text i 41 → having k n text i p used (grouping ∷ fs) g ≡ stops i
  unfolding close
  close_stops g v f = having_over k n text p used (grouping ∷ fs) g v (λ s. absurd (f s)) (λ _. refl)
