-- MUX by its ways out: equal sides, else the select.
-- Assumes nothing.
use Rattle.std.proofs.Common.{◌≡◌, refl}
use Rattle.meaning.specs.Values.{v_x}
use Rattle.meaning.specs.Gates.{mux_of}
use Rattle.cases.specs.declared.values.Value.{Value}
use Rattle.cases.specs.declared.values.Value.TheVariants.{Zero, One, X}
use Rattle.cases.specs.Cells.{value_of}

-- where the sides are equal, MUX is that side, whatever the select is
pub mux_same : (p q r : Value) → q ≡ r → value_of q ≡ mux_of (value_of p) (value_of q) (value_of r)
mux_same p q r e = rw (← e) (equal q)
  where
    equal : (q : Value) → value_of q ≡ mux_of (value_of p) (value_of q) (value_of q)
    equal Zero = refl
    equal One = refl
    equal X = refl

-- where the select is 1 it is q, where it is 0 it is r, whether they are equal or not
pub mux_one : (p q r : Value) → p ≡ One → value_of q ≡ mux_of (value_of p) (value_of q) (value_of r)
mux_one p q r e = rw e (one q r)
  where
    one : (q r : Value) → value_of q ≡ mux_of (value_of One) (value_of q) (value_of r)
    one Zero Zero = refl
    one Zero One = refl
    one Zero X = refl
    one One Zero = refl
    one One One = refl
    one One X = refl
    one X Zero = refl
    one X One = refl
    one X X = refl

pub mux_zero : (p q r : Value) → p ≡ Zero → value_of r ≡ mux_of (value_of p) (value_of q) (value_of r)
mux_zero p q r e = rw e (zero q r)
  where
    zero : (q r : Value) → value_of r ≡ mux_of (value_of Zero) (value_of q) (value_of r)
    zero Zero Zero = refl
    zero Zero One = refl
    zero Zero X = refl
    zero One Zero = refl
    zero One One = refl
    zero One X = refl
    zero X Zero = refl
    zero X One = refl
    zero X X = refl

-- where the sides differ and the select is neither, it is X
pub mux_unknown : (p q r : Value) → ¬ (q ≡ r) → ¬ (p ≡ One) → ¬ (p ≡ Zero) → v_x ≡ mux_of (value_of p) (value_of q) (value_of r)
mux_unknown Zero q r d a b = absurd (b refl)
mux_unknown One q r d a b = absurd (a refl)
mux_unknown X q r d a b = unknown q r d
  where
    unknown : (q r : Value) → ¬ (q ≡ r) → v_x ≡ mux_of v_x (value_of q) (value_of r)
    unknown Zero Zero d = absurd (d refl)
    unknown Zero One d = refl
    unknown Zero X d = refl
    unknown One Zero d = refl
    unknown One One d = absurd (d refl)
    unknown One X d = refl
    unknown X Zero d = refl
    unknown X One d = refl
    unknown X X d = absurd (d refl)
