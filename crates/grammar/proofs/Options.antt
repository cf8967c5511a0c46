-- Values that may be missing: what holds of one, and one after the other.
-- Assumes nothing.
use mathlib.Core.Path.{◌≡◌, refl, subst}
use mathlib.Core.Bool.{Bool, true, false, cond}
use mathlib.Core.Option.{Option, some, none}
use native.Mathlib.Omega.{arith}
use Prim.Native.Nat.{ℕ}
use Rattle.grammar.specs.Points.{when, mapped}

-- what holds of a value, if there is one
abbrev pub Each : {A : Type 0} → (A → Type 0) → Option A → Type 0
Each P none = Unit {0}
Each P (some a) = P a

pub each : {A : Type 0} (P : A → Type 0) {o : Option A} {a : A} → Each P o → o ≡ some a → P a
each P h e = subst (Each P) e h

pub each_map : {A : Type 0} {P Q : A → Type 0} (o : Option A) → ((a : A) → P a → Q a) → Each P o → Each Q o
each_map none f h = tt
each_map (some a) f h = f a h

module _ {A : Type 0} (P : A → Type 0) where
  pub always : ((a : A) → P a) → (o : Option A) → Each P o
  always h none = tt
  always h (some a) = h a

  pub when_each : (b : Bool) (a : A) → (b ≡ true → P a) → Each P (when b a)
  when_each true a h = h refl
  when_each false a h = tt

  pub cond_each : (c : Bool) (x y : Option A) → (c ≡ true → Each P x) → (c ≡ false → Each P y) → Each P (cond c x y)
  cond_each true x y f g = f refl
  cond_each false x y f g = g refl

  pub mapped_each : {B : Type 0} (f : B → A) (o : Option B) → Each (λ b. P (f b)) o → Each P (mapped f o)
  mapped_each f none h = h
  mapped_each f (some b) h = h

-- the second of the first, and where both came to a value
abbrev pub and_then : {A B : Type 0} → Option A → (A → Option B) → Option B
and_then none f = none
and_then (some a) f = f a

pub both_steps : {A B : Type 0} (o : Option A) (f : A → Option B) {b : B} → and_then o f ≡ some b → (a : A) × (o ≡ some a) × (f a ≡ some b)
both_steps none f e = absurd (let z : ◌≡◌ {A = ℕ} 0 1 = cc in omega arith)
both_steps (some a) f e = (a, refl, e)
