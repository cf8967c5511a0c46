-- After a number no text ends: in a clause something follows it.
-- Assumes nothing.
use borrow.Author.Tests.{ltb-true}
use mathlib.Core.Path.{◌≡◌, refl, sym, ◌∙◌, ap}
use mathlib.Core.List.{List, [], ◌∷◌, ◌++◌}
use mathlib.Core.Option.{some, none}
use native.Mathlib.Omega.{arith}
use Prim.Native.Nat.{ℕ, ◌<◌}
use lib.Dec.{ltb}
use Rattle.grammar.specs.Items.{SEMICOLON, Item, number, mark}
use Rattle.grammar.specs.Points.{saying, below, ending, Phase, starting, listing, guarding, guarded, telling, Point, when, step_in, step, finished}
use Rattle.grammar.proofs.Options.{Each, each, when_each, mapped_each}
use Rattle.grammar.proofs.Slots.{counts, full, next, Told}
use Rattle.grammar.proofs.Reached.{InPhase, Sound}

-- the last of these items
last : Item → List Item → Item
last i [] = i
last i (j ∷ js) = last j js

last_is : (i : Item) (js : List Item) (a : Item) → last i (js ++ a ∷ []) ≡ a
unfolding last
last_is i [] a = refl
last_is i (j ∷ js) a = last_is j js a

-- a number fills no last slot
not_last : {n b x : ℕ} {ns : List ℕ} {said : List Item} → Told n (below b ∷ []) ns said → ¬ (x < b)
unfolding last
not_last {x = x} {said = said} t h =
    let w = t.fills_all (number x ∷ []) _ (next (counts h) full) in
    let same : number x ≡ mark SEMICOLON = sym (last_is (number x) said (number x)) ∙ ap (last (number x)) w.items_are in
    let z : ◌≡◌ {A = ℕ} 0 1 = cc in
    omega arith

module _ (k n : ℕ) (p : Point) (said : List Item) where
  open_in : (φ : Phase) → InPhase k n p.second p.given p.used φ said → (x : ℕ) → Each (λ q. finished q ≡ none) (step_in k n p φ (number x))
  unfolding finished
  open_in starting h x = tt
  open_in listing h x = tt
  open_in (guarding fs) h x = when_each _ (ltb x 2) _ λ e. refl
  open_in (guarded fs g) h x = tt
  open_in (telling g [] ns) h x = tt
  open_in (telling g (saying w ∷ ss) ns) h x = tt
  open_in (telling g (below b ∷ []) ns) h x = mapped_each _ _ (when (ltb x b) _) (when_each _ (ltb x b) _ λ e. absurd (not_last h.1 (ltb-true x b e)))
  open_in (telling g (below b ∷ s ∷ ss) ns) h x = mapped_each _ _ (when (ltb x b) _) (when_each _ (ltb x b) _ λ e. refl)
  open_in (telling g (ending ∷ ss) ns) h x = tt

  pub number_open : Sound k n p said → (x : ℕ) {q : Point} → step k n p (number x) ≡ some q → finished q ≡ none
  unfolding step
  number_open s x = each _ (open_in p.phase s.in_phase_lem x)
