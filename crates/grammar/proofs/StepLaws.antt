-- Which items may stand at a point: with a number every smaller one, and never both a word and a variable.
-- Assumes nothing.
use borrow.Author.Tests.{ltb-true, lt-ltb}
use mathlib.Core.Path.{◌≡◌, refl}
use mathlib.Core.Bool.{true}
use mathlib.Core.List.{[], ◌∷◌, ◌++◌}
use mathlib.Core.Option.{some, none}
use native.Mathlib.Omega.{arith}
use Prim.Native.Nat.{ℕ, ◌≤◌, ◌<◌}
use lib.Dec.{ltb}
use Rattle.grammar.specs.Items.{Keyword, word, variable, number}
use Rattle.grammar.specs.Guards.{constant}
use Rattle.grammar.specs.Points.{saying, below, ending, Phase, starting, listing, guarding, guarded, telling, Point, spent, when, listed, after_slot, told, step_in, step}
use Rattle.grammar.proofs.Options.{Each, each, always, when_each, mapped_each}

less : {x y : ℕ} (b : ℕ) → y ≤ x → ltb x b ≡ true → ltb y b ≡ true
less {x} {y} b h e = let l = ltb-true x b e in lt-ltb y b (omega arith)

smaller_in : (k n : ℕ) (p : Point) (ph : Phase) {x y : ℕ} → y ≤ x → Each (λ q. (r : Point) × (step_in k n p ph (number y) ≡ some r)) (step_in k n p ph (number x))
smaller_in k n p starting h = tt
smaller_in k n p listing h = tt
smaller_in k n p (guarding fs) {x} {y} h = when_each _ (ltb x 2) _ λ e. (spent p (guarded fs (constant y)), rw (less 2 h e))
smaller_in k n p (guarded fs g) h = tt
smaller_in k n p (telling g [] ns) h = tt
smaller_in k n p (telling g (saying w ∷ ss) ns) h = tt
smaller_in k n p (telling g (below b ∷ ss) ns) {x} {y} h =
    mapped_each _ _ (when (ltb x b) _) (when_each _ (ltb x b) _ λ e. (after_slot p g ss (ns ++ y ∷ []), rw (less b h e)))
smaller_in k n p (telling g (ending ∷ ss) ns) h = tt

variable_in_lem : (k n : ℕ) (p : Point) (ph : Phase) (i : ℕ) (w : Keyword) → Each (λ q. step_in k n p ph (variable i) ≡ none) (step_in k n p ph (word w))
variable_in_lem k n p starting i w = always _ (λ q. refl) (step_in k n p starting (word w))
variable_in_lem k n p listing i w = always _ (λ q. refl) (listed p w)
variable_in_lem k n p (guarding fs) i w = tt
variable_in_lem k n p (guarded fs g) i w = tt
variable_in_lem k n p (telling g [] ns) i w = tt
variable_in_lem k n p (telling g (s ∷ ss) ns) i w = always _ (λ q. refl) (told p g (s ∷ ss) ns (word w))

below_in : (k n : ℕ) (p : Point) (ph : Phase) (i : ℕ) → Each (λ q. i < k) (step_in k n p ph (variable i))
below_in k n p starting i = tt
below_in k n p listing i = tt
below_in k n p (guarding fs) i = when_each _ (ltb i k) _ (ltb-true i k)
below_in k n p (guarded fs g) i = tt
below_in k n p (telling g [] ns) i = tt
below_in k n p (telling g (s ∷ ss) ns) i = tt

module _ (k n : ℕ) (p : Point) where
  pub variable_below : (i : ℕ) {q : Point} → step k n p (variable i) ≡ some q → i < k
  unfolding step
  variable_below i = each _ (below_in k n p p.phase i)

  pub number_smaller : (x y : ℕ) {q : Point} → y ≤ x → step k n p (number x) ≡ some q → (r : Point) × (step k n p (number y) ≡ some r)
  unfolding step
  number_smaller x y h = each _ (smaller_in k n p p.phase h)

  pub no_variable : (i : ℕ) (w : Keyword) {q : Point} → step k n p (word w) ≡ some q → step k n p (variable i) ≡ none
  unfolding step
  no_variable i w = each _ (variable_in_lem k n p p.phase i w)
