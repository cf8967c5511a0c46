-- The gates, a clause, a collision and a miss at one place, over the two bits that a node has there.
-- Assumes nothing.
use mathlib.Core.Path.{◌≡◌, refl, sym, ap, ◌∙◌}
use mathlib.Core.Bool.{Bool, true, false, not, ◌&&◌, ◌||◌, cond}
use Prim.Native.Nat.{ℕ, ◌<◌}
use Rattle.meaning.specs.Values.{Value, v0, v1, v_x, Cell, value, collision, join, join_cells, collides, bit, has}
use Rattle.meaning.specs.declared.Gate.{Gate}
use Rattle.meaning.specs.declared.Gate.TheVariants.{Input, Zero, One, Buf, Not, And, Or, Xor, Mux}
use Rattle.meaning.specs.Gates.{gate_forces}
use Rattle.meaning.specs.Guards.{bit_of}
use Rattle.meaning.proofs.Everywhere.{values, values_e, values2_e, gates_e}
use Rattle.meaning.proofs.Values.{has_e}
use Rattle.words.specs.declared.Pair.{Pair}
use Rattle.words.specs.Places.{cell_of, cell_at, Forces, Narrows, Collided, Differs, Bits, bits_at, not_bits, and_bits, or_bits, xor_bits, mux_bits}

-- the bits that a gate's words have at a place, from its operands' there
abbrev pub gate_bits : Gate → Bits → Bits → Bits → Bits
gate_bits Input p q r = record { zero = true; one = true }
gate_bits Zero p q r = record { zero = true; one = false }
gate_bits One p q r = record { zero = false; one = true }
gate_bits Buf p q r = p
gate_bits Not p q r = not_bits p
gate_bits And p q r = and_bits p q
gate_bits Or p q r = or_bits p q
gate_bits Xor p q r = xor_bits p q
gate_bits Mux p q r = mux_bits p q r

abbrev cell_of_bits : Bits → Cell
cell_of_bits p = cell_of p.zero p.one

-- and back
abbrev bits_of : Cell → Bits
bits_of (value v0) = record { zero = true; one = false }
bits_of (value v1) = record { zero = false; one = true }
bits_of (value v_x) = record { zero = true; one = true }
bits_of collision = record { zero = false; one = false }

-- a fact of two Bools is four
bools : (P : Bool → Bool → Type 0) → P true true → P true false → P false true → P false false → (a b : Bool) → P a b
bools P p q r s true true = p
bools P p q r s true false = q
bools P p q r s false true = r
bools P p q r s false false = s

bits_back : (z o : Bool) → bits_of (cell_of z o) ≡ record { zero = z; one = o }
bits_back = bools _ refl refl refl refl

bits_at_lem : (w : Pair) (i : ℕ) {c : Cell} → cell_at w i ≡ c → bits_at w i ≡ bits_of c
unfolding cell_at bits_at
bits_at_lem w i e = sym (bits_back _ _) ∙ ap bits_of e

-- each gate's bits are those of what it forces: one test over gates and values
abbrev agrees : Gate → Value → Value → Value → Bool
agrees g a b c = has (cell_of_bits (gate_bits g (bits_of (value a)) (bits_of (value b)) (bits_of (value c)))) (gate_forces g a b c)

gate_bits_lem : (g : Gate) (a b c : Value) → cell_of_bits (gate_bits g (bits_of (value a)) (bits_of (value b)) (bits_of (value c))) ≡ value (gate_forces g a b c)
unfolding gate_forces
gate_bits_lem g a b c =
    has_e _ _ (values_e (agrees g a b) (values2_e (λ a b. values (agrees g a b)) (gates_e (λ g. values λ a. values λ b. values (agrees g a b)) tt g) a b) c)

pub forces_of : {gate : Gate} {p q r new : Pair} (g : Gate) → gate ≡ g → ((i : ℕ) → i < 64 → bits_at new i ≡ gate_bits g (bits_at p i) (bits_at q i) (bits_at r i)) → Forces gate p q r new
unfolding cell_at bits_at
forces_of {p = p} {q} {r} {new} g e h =
    record {
      at = λ i {a} {b} {c} l ea eb ec.
          let w : bits_at new i ≡ gate_bits g (bits_of (value a)) (bits_of (value b)) (bits_of (value c)) = h i l ∙ rw (bits_at_lem p i ea, bits_at_lem q i eb, bits_at_lem r i ec) in
          rw e (ap cell_of_bits w ∙ gate_bits_lem g a b c);
    }

-- a clause that wants 1 clears what could be 0, one that wants 0 what could be 1
abbrev pub narrow_bits : Bool → Bool → Bits → Bits
narrow_bits v g p = record { zero = cond v (p.zero && not g) p.zero; one = cond v p.one (p.one && not g) }

narrow_cell : (v g z o : Bool) → cell_of_bits (narrow_bits v g (record { zero = z; one = o })) ≡ join_cells (cell_of z o) (value (cond g (bit v) v_x))
unfolding join_cells join
narrow_cell =
    bools (λ v g. (z o : Bool) → cell_of_bits (narrow_bits v g (record { zero = z; one = o })) ≡ join_cells (cell_of z o) (value (cond g (bit v) v_x)))
    (bools _ refl refl refl refl) (bools _ refl refl refl refl) (bools _ refl refl refl refl) (bools _ refl refl refl refl)

pub narrows_of : {w new : Pair} {guard : ℕ} {v : Bool} → ((i : ℕ) → i < 64 → bits_at new i ≡ narrow_bits v (bit_of guard i) (bits_at w i)) → Narrows w guard v new
unfolding cell_at bits_at
narrows_of {w} {guard = guard} {v} h = record { at = λ i l. ap cell_of_bits (h i l) ∙ narrow_cell v (bit_of guard i) (bit_of w.zeros i) (bit_of w.ones i) }

-- it collides where it could be neither
pub collided_of : {w : Pair} {r : ℕ} → ((i : ℕ) → i < 64 → bit_of r i ≡ not (bit_of w.zeros i || bit_of w.ones i)) → Collided w r
unfolding cell_at
collided_of {w} h = record { at = λ i l. h i l ∙ bools (λ z o. not (z || o) ≡ collides (cell_of z o)) refl refl refl refl (bit_of w.zeros i) (bit_of w.ones i) }

-- it differs from 1 where it could be 0, and from 0 where it could be 1
differ : (v : Bool) (a : Value) → cond v (bits_of (value a)).zero (bits_of (value a)).one ≡ not (has (value a) (bit v))
differ true v0 = refl
differ true v1 = refl
differ true v_x = refl
differ false v0 = refl
differ false v1 = refl
differ false v_x = refl

pub differs_of : {w : Pair} {v : Bool} {r : ℕ} → r ≡ cond v w.zeros w.ones → Differs w v r
unfolding bits_at
differs_of {w} {v} e = record { at = λ i {a} l c. ap (λ x. bit_of x i) e ∙ each_of v i ∙ ap (λ p. cond v p.zero p.one) (bits_at_lem w i c) ∙ differ v a }
  where
    each_of : (v : Bool) (i : ℕ) → bit_of (cond v w.zeros w.ones) i ≡ cond v (bits_at w i).zero (bits_at w i).one
    each_of true i = refl
    each_of false i = refl
