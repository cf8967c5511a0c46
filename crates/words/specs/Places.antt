-- Sixty-four cases in a word, one bit a case: the cell of a node at a place, and what a word of guards says there.
-- Assumes nothing.
use Rattle.std.specs.Prelude.{◌≡◌, Bool, true, false, not, ◌&&◌, ◌||◌, cond, ℕ, ◌+◌, ◌*◌, ◌^◌, ◌<◌, ltb}
use Rattle.meaning.specs.Values.{Value, v0, v1, v_x, Cell, value, collision, join_cells, collides, has, bit}
use Rattle.meaning.specs.declared.Gate.{Gate}
use Rattle.meaning.specs.Gates.{gate_forces}
use Rattle.meaning.specs.Guards.{bit_of}
use Rattle.words.specs.declared.Pair.{Pair}

-- could it be 0, could it be 1: both is X, neither is a collision
abbrev pub cell_of : Bool → Bool → Cell
cell_of true true = value v_x
cell_of true false = value v0
cell_of false true = value v1
cell_of false false = collision

-- the cell at place i of two words
unfoldable pub cell_at : Pair → ℕ → Cell
cell_at w i = cell_of (bit_of w.zeros i) (bit_of w.ones i)

-- where the operands' cells are values, the new cell is what the gate forces from them
pub record Forces (gate : Gate) (p q r new : Pair) : Type 0 where
  pub at : (i : ℕ) {a b c : Value} → i < 64 → cell_at p i ≡ value a → cell_at q i ≡ value b → cell_at r i ≡ value c → cell_at new i ≡ value (gate_forces gate a b c)

-- where the guard is true, the clause's value is joined
pub record Narrows (w : Pair) (guard : ℕ) (v : Bool) (new : Pair) : Type 0 where
  pub at : (i : ℕ) → i < 64 → cell_at new i ≡ join_cells (cell_at w i) (value (cond (bit_of guard i) (bit v) v_x))

-- the places where a node has collided
pub record Collided (w : Pair) (r : ℕ) : Type 0 where
  pub at : (i : ℕ) → i < 64 → bit_of r i ≡ collides (cell_at w i)

-- where a node has a value, whether that differs from v
pub record Differs (w : Pair) (v : Bool) (r : ℕ) : Type 0 where
  pub at : (i : ℕ) {a : Value} → i < 64 → cell_at w i ≡ value a → bit_of r i ≡ not (has (value a) (bit v))

-- the word of variable v in group g: at place i, the variable's bit of case 64 g + i
pub record VariableWord (g v r : ℕ) : Type 0 where
  pub at : (i : ℕ) → i < 64 → bit_of r i ≡ bit_of (64 * g + i) v

-- the places that stand for a case where there are k variables: the first 2^k, so all of them from k 6 on
pub record UsedPlaces (k r : ℕ) : Type 0 where
  pub at : (i : ℕ) → i < 64 → bit_of r i ≡ ltb i (2 ^ k)

-- the two bits of a node at a place: could it be 0, could it be 1
pub record Bits : Type 0 where
  pub zero : Bool
  pub one : Bool

unfoldable pub bits_at : Pair → ℕ → Bits
bits_at w i = record { zero = bit_of w.zeros i; one = bit_of w.ones i }

-- what each gate makes of them
abbrev pub not_bits : Bits → Bits
not_bits p = record { zero = p.one; one = p.zero }

abbrev pub and_bits : Bits → Bits → Bits
and_bits p q = record { zero = p.zero || q.zero; one = p.one && q.one }

abbrev pub or_bits : Bits → Bits → Bits
or_bits p q = record { zero = p.zero && q.zero; one = p.one || q.one }

abbrev pub xor_bits : Bits → Bits → Bits
xor_bits p q = record { zero = p.zero && q.zero || p.one && q.one; one = p.zero && q.one || p.one && q.zero }

abbrev pub mux_bits : Bits → Bits → Bits → Bits
mux_bits p q r = record { zero = p.one && q.zero || p.zero && r.zero; one = p.one && q.one || p.zero && r.one }
