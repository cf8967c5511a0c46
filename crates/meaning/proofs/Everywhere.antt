-- A test at every value and at every gate: antt computes it once, and a law reads off each instance.
-- Assumes nothing.
use mathlib.Core.Bool.{Bool, true, false, ◌&&◌}
use lib.Dec.{T}
use Rattle.scans.proofs.Bools.{and_left, and_right}
use Rattle.meaning.specs.Values.{Value, v0, v1, v_x, at_most, ◌⊑◌}
use Rattle.meaning.specs.declared.Gate.{Gate}
use Rattle.meaning.specs.declared.Gate.TheVariants.{Input, Zero, One, Buf, Not, And, Or, Xor, Mux}

abbrev pub implies : Bool → Bool → Bool
implies true b = b
implies false b = true

pub implies_e : (a b : Bool) → T (implies a b) → T a → T b
implies_e true b t p = t
implies_e false b t p = absurd p

abbrev pub values : (Value → Bool) → Bool
values f = f v0 && (f v1 && f v_x)

pub values_e : (f : Value → Bool) → T (values f) → (a : Value) → T (f a)
values_e f t v0 = search and_left
values_e f t v1 = search (and_left, and_right)
values_e f t v_x = search (and_left, and_right)

pub values2_e : (f : Value → Value → Bool) → T (values λ a. values (f a)) → (a b : Value) → T (f a b)
values2_e f t a = values_e (f a) (values_e (λ a. values (f a)) t a)

-- at every two values of which the first is at most the second
abbrev pub ordered : (Value → Value → Bool) → Bool
ordered f = values λ a. values λ b. implies (at_most a b) (f a b)

pub ordered_e : (f : Value → Value → Bool) → T (ordered f) → {a b : Value} → a ⊑ b → T (f a b)
ordered_e f t {a} {b} h = implies_e (at_most a b) (f a b) (values2_e (λ a b. implies (at_most a b) (f a b)) t a b) h.le

abbrev pub gates : (Gate → Bool) → Bool
gates f = (f Input && (f Zero && f One)) && ((f Buf && (f Not && f And)) && (f Or && (f Xor && f Mux)))

pub gates_e : (f : Gate → Bool) → T (gates f) → (g : Gate) → T (f g)
gates_e f t Input = search (and_left, and_right)
gates_e f t Zero = search (and_left, and_right)
gates_e f t One = search (and_left, and_right)
gates_e f t Buf = search (and_left, and_right)
gates_e f t Not = search (and_left, and_right)
gates_e f t And = search (and_left, and_right)
gates_e f t Or = search (and_left, and_right)
gates_e f t Xor = search (and_left, and_right)
gates_e f t Mux = search (and_left, and_right)
