-- Refusals in their order, forward: the laws of a function that goes through a table.
-- Assumes nothing.
use Rattle.std.specs.Prelude.{Option, None, Some}
use borrow.Author.Rules.{rules}
use borrow.Author.Tests.{not-true, not-false}
use mathlib.Core.Path.{◌≡◌}
use mathlib.Core.Bool.{Bool, true, false, not}
use mathlib.Core.List.{List, [], ◌∷◌}
use Prim.Native.Nat.{ℕ}
use Rattle.scans.specs.First.{first_bad}
use Rattle.scans.specs.Refusals.{Stage, whole, unless_at, in_order}

-- what a branch of the code answers is the table's answer
module _ {A : Type 0} {r : A} (refused : ℕ → ℕ → ℕ → A) (rest : List Stage) (answer : A) where
  pub on_stopped : (st : Stage) {y : Option ℕ} {i : ℕ} → y ≡ first_bad st.ok st.count → y ≡ Some i → r ≡ refused st.number (st.block i) (st.slot i) → r ≡ in_order refused (st ∷ rest) answer
  unfolding in_order unless_at
  on_stopped st {i = i} e f g = let w : first_bad st.ok st.count ≡ Some i = cc in rw w g

  pub on_clear : (st : Stage) {y : Option ℕ} → y ≡ first_bad st.ok st.count → y ≡ None → r ≡ in_order refused rest answer → r ≡ in_order refused (st ∷ rest) answer
  unfolding in_order unless_at
  on_clear st e f g = let w : first_bad st.ok st.count ≡ None = cc in rw w g

  pub on_failed : (number : ℕ) {x t : Bool} → t ≡ x → not t ≡ true → r ≡ refused number 0 0 → r ≡ in_order refused (whole number x ∷ rest) answer
  unfolding in_order unless_at first_bad
  on_failed number {x} {t} e f g = let w : x ≡ false = cc (not-true t f) in rw w g

  pub on_passed : (number : ℕ) {x t : Bool} → t ≡ x → not t ≡ false → r ≡ in_order refused rest answer → r ≡ in_order refused (whole number x ∷ rest) answer
  unfolding in_order unless_at first_bad
  on_passed number {x} {t} e f g = let w : x ≡ true = cc (not-false t f) in rw w g

-- every test is passed
pub on_end : {A : Type 0} {r : A} (refused : ℕ → ℕ → ℕ → A) (answer : A) → r ≡ answer → r ≡ in_order refused [] answer
unfolding in_order
on_end refused answer e = e

pub ruleset refusals = (rules, on_stopped, on_clear, on_failed, on_passed, on_end)
