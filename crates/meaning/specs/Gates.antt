-- The nine gates, and what each forces one step later.
-- Assumes nothing.
use Rattle.std.specs.Prelude.{cond, List, [], ◌∷◌, ℕ, get_or}
use Rattle.meaning.specs.declared.Gate.{Gate}
use Rattle.meaning.specs.declared.Gate.TheVariants.{Input, Zero, One, Buf, Not, And, Or, Xor, Mux}
use Rattle.meaning.specs.Values.{Value, v0, v1, v_x, same_value}

-- the gates in the order of their codes, 0 to 8
abbrev pub gates_by_code : List Gate
gates_by_code = Input ∷ Zero ∷ One ∷ Buf ∷ Not ∷ And ∷ Or ∷ Xor ∷ Mux ∷ []

abbrev pub gate_of_code : ℕ → Gate
gate_of_code code = get_or gates_by_code code Input

-- how many of p, q, r a gate has
abbrev pub arity : Gate → ℕ
arity Input = 0
arity Zero = 0
arity One = 0
arity Buf = 1
arity Not = 1
arity And = 2
arity Or = 2
arity Xor = 2
arity Mux = 3

-- the complement; NOT X is X
abbrev pub not_of : Value → Value
not_of v0 = v1
not_of v1 = v0
not_of v_x = v_x

-- 0 if either is 0; 1 if both are 1; else X
abbrev pub and_of : Value → Value → Value
and_of v0 q = v0
and_of v1 q = q
and_of v_x v0 = v0
and_of v_x v1 = v_x
and_of v_x v_x = v_x

-- 1 if either is 1; 0 if both are 0; else X
abbrev pub or_of : Value → Value → Value
or_of v0 q = q
or_of v1 q = v1
or_of v_x v0 = v_x
or_of v_x v1 = v1
or_of v_x v_x = v_x

-- X if either is X; else their difference
abbrev pub xor_of : Value → Value → Value
xor_of v0 q = q
xor_of v1 q = not_of q
xor_of v_x q = v_x

-- by the select: q where it is 1, r where it is 0, else X
abbrev pub select_of : Value → Value → Value → Value
select_of v0 q r = r
select_of v1 q r = q
select_of v_x q r = v_x

-- q where q equals r, else by the select
abbrev pub mux_of : Value → Value → Value → Value
mux_of p q r = cond (same_value q r) q (select_of p q r)

-- what a gate forces from the values of p, q and r; those that it lacks are not looked at
unfoldable pub gate_forces : Gate → Value → Value → Value → Value
gate_forces Input p q r = v_x
gate_forces Zero p q r = v0
gate_forces One p q r = v1
gate_forces Buf p q r = p
gate_forces Not p q r = not_of p
gate_forces And p q r = and_of p q
gate_forces Or p q r = or_of p q
gate_forces Xor p q r = xor_of p q
gate_forces Mux p q r = mux_of p q r
