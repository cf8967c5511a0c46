-- The order, joining, and the gates' monotonicity, each by a test over all values that antt computes.
-- Assumes nothing.
use mathlib.Core.Path.{◌≡◌, refl, ap}
use mathlib.Core.Bool.{Bool, true, false, not}
use lib.Dec.{T, eqb_refl}
use Rattle.meaning.specs.Values.{Value, v0, v1, v_x, at_most, ◌⊑◌, Cell, value, collision, join, join_cells, collides, bit, number, same_value, has}
use Rattle.meaning.specs.declared.Gate.{Gate}
use Rattle.meaning.specs.Gates.{gate_forces}
use Rattle.meaning.specs.Rows.{forces_cells}
use Rattle.meaning.proofs.Everywhere.{implies, implies_e, values, values_e, ordered, ordered_e, gates_e}

pub le : (a b : Value) → T (at_most a b) → a ⊑ b
le a b t = record { le = t }

pub le_refl : (a : Value) → a ⊑ a
le_refl a = record { le = values_e (λ a. at_most a a) tt a }

pub le_of_eq : {a b : Value} → a ≡ b → a ⊑ b
le_of_eq {a} e = rw (← e) (le_refl a)

pub le_trans : {a b c : Value} → a ⊑ b → b ⊑ c → a ⊑ c
le_trans {a} {b} {c} h k =
    record { le = implies_e (at_most b c) (at_most a c) (values_e (λ c. implies (at_most b c) (at_most a c)) (ordered_e (λ a b. values λ c. implies (at_most b c) (at_most a c)) tt h) c) k.le }

-- a value is known by its number
pub same_value_lem : (a b : Value) → T (same_value a b) → a ≡ b
same_value_lem v0 v0 t = refl
same_value_lem v0 v1 t = absurd t
same_value_lem v0 v_x t = absurd t
same_value_lem v1 v0 t = absurd t
same_value_lem v1 v1 t = refl
same_value_lem v1 v_x t = absurd t
same_value_lem v_x v0 t = absurd t
same_value_lem v_x v1 t = absurd t
same_value_lem v_x v_x t = refl

pub value_same : {a b : Value} → a ≡ b → T (same_value a b)
value_same {a} {b} e = rw e (eqb_refl (number b))

pub le_antisym : {a b : Value} → a ⊑ b → b ⊑ a → a ≡ b
le_antisym {a} {b} h k = same_value_lem a b (implies_e (at_most b a) (same_value a b) (ordered_e (λ a b. implies (at_most b a) (same_value a b)) tt h) k.le)

-- nothing else is at or above 0, nor at or above 1
pub bit_le : (b : Bool) {a : Value} → bit b ⊑ a → a ≡ bit b
bit_le false {a} h = same_value_lem a v0 (ordered_e (λ b a. implies (same_value b v0) (same_value a v0)) tt h)
bit_le true {a} h = same_value_lem a v1 (ordered_e (λ b a. implies (same_value b v1) (same_value a v1)) tt h)

-- every gate forces no less from values that are nowhere below
pub gate_mono : (g : Gate) {a b c a' b' c' : Value} → a ⊑ a' → b ⊑ b' → c ⊑ c' → gate_forces g a b c ⊑ gate_forces g a' b' c'
unfolding gate_forces
gate_mono g {a} {b} {c} {a'} {b'} {c'} ha hb hc =
    record {
      le = ordered_e (λ c c'. at_most (gate_forces g a b c) (gate_forces g a' b' c'))
          (ordered_e (λ b b'. ordered λ c c'. at_most (gate_forces g a b c) (gate_forces g a' b' c'))
          (ordered_e (λ a a'. ordered λ b b'. ordered λ c c'. at_most (gate_forces g a b c) (gate_forces g a' b' c'))
          (gates_e (λ g. ordered λ a a'. ordered λ b b'. ordered λ c c'. at_most (gate_forces g a b c) (gate_forces g a' b' c')) tt g) ha) hb) hc;
    }

-- a cell has not collided
abbrev pub Free : Cell → Type 0
Free c = T (not (collides c))

-- the value of a cell that has not collided; proofs read no other cell
abbrev pub read : Cell → Value
read (value a) = a
read collision = v_x

pub free_value : (c : Cell) → Free c → c ≡ value (read c)
free_value (value a) f = refl
free_value collision f = absurd f

pub free_not : (c : Cell) → Free c → T (collides c) → ⊥
free_not (value a) f t = t
free_not collision f t = f

-- c is a value, and that is at most a
abbrev under : Cell → Value → Bool
under (value b) a = at_most b a
under collision a = false

pub record Under (c : Cell) (a : Value) : Type 0 where
  pub le : T (under c a)

-- c has collided, or is a value that is at least a
abbrev over : Value → Cell → Bool
over a (value b) = at_most a b
over a collision = true

pub record Over (a : Value) (c : Cell) : Type 0 where
  pub le : T (over a c)

pub under_read : {c : Cell} {a : Value} → Under c a → read c ⊑ a
under_read {c = value b} {a} h = le b a h.le
under_read {c = collision} h = absurd h.le

pub under_free : {c : Cell} {a : Value} → Under c a → Free c
under_free {c = value b} h = tt
under_free {c = collision} h = h.le

pub under_le : {c : Cell} {a b : Value} → Under c a → a ⊑ b → Under c b
under_le {c = value d} {a} h k = record { le = (le_trans (le d a h.le) k).le }
under_le {c = collision} h k = absurd h.le

pub over_read : {a : Value} {c : Cell} → Over a c → Free c → a ⊑ read c
over_read {a} {c = value b} h f = le a b h.le
over_read {c = collision} h f = absurd f

-- joining goes up on both sides, and to the least that is above both
pub over_left : {a : Value} {c : Cell} (d : Cell) → Over a c → Over a (join_cells c d)
unfolding join_cells join
over_left {a} {c = value b} (value d) h = record { le = values_e (λ d. over a (join b d)) (ordered_e (λ a b. values λ d. over a (join b d)) tt (le a b h.le)) d }
over_left {c = value b} collision h = record { le = tt }
over_left {c = collision} d h = record { le = tt }

pub over_right : {a : Value} {d : Cell} (c : Cell) → Over a d → Over a (join_cells c d)
unfolding join_cells join
over_right {a} {d = value b} (value c) h = record { le = values_e (λ c. over a (join c b)) (ordered_e (λ a b. values λ c. over a (join c b)) tt (le a b h.le)) c }
over_right {d = collision} (value c) h = record { le = tt }
over_right collision h = record { le = tt }

pub under_both : {c d : Cell} {a : Value} → Under c a → Under d a → Under (join_cells c d) a
unfolding join_cells join
under_both {c = value b} {d = value e} {a} h k =
    record { le = implies_e (at_most e a) (under (join b e) a) (values_e (λ e. implies (at_most e a) (under (join b e) a)) (ordered_e (λ b a. values λ e. implies (at_most e a) (under (join b e) a)) tt (le b a h.le)) e) k.le }
under_both {c = value b} {d = collision} h k = absurd k.le
under_both {c = collision} h k = absurd h.le

-- what a gate forces from cells that are values at most a, b, c is a value, at most what it forces from those
pub under_forces : (g : Gate) {p q r : Cell} {a b c : Value} → Under p a → Under q b → Under r c → Under (forces_cells g p q r) (gate_forces g a b c)
under_forces g {p = value p} {q = value q} {r = value r} {a} {b} {c} h k l = record { le = (gate_mono g (le p a h.le) (le q b k.le) (le r c l.le)).le }
under_forces g {p = value p} {q = value q} {r = collision} h k l = absurd l.le
under_forces g {p = value p} {q = collision} h k l = absurd k.le
under_forces g {p = collision} h k l = absurd h.le

pub has_e : (c : Cell) (b : Value) → T (has c b) → c ≡ value b
has_e (value a) b t = ap value (same_value_lem a b t)
has_e collision b t = absurd t

pub has_i : {c : Cell} {b : Value} → c ≡ value b → T (has c b)
has_i {b = b} e = rw e (eqb_refl (number b))
