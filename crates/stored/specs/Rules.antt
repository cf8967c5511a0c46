-- The rules of a job's sizes and of its records, line by line.
-- Assumes nothing.
use Rattle.std.specs.Prelude.{Bool, ◌&&◌, cond, List, ℕ, ◌+◌, ◌*◌, eqb, ltb, leb}
use Rattle.meaning.specs.Gates.{arity, gate_of_code}
use Rattle.stored.specs.declared.Size.{Size}
use Rattle.stored.specs.Bytes.{byte_at, u16_at}

-- k 0-12, n 1-1,008, e 0-504, c 0-504
unfoldable pub limits_ok : Size → Bool
limits_ok z = leb z.k 12 && (leb 1 z.n && (leb z.n 1008 && (leb z.e 504 && leb z.c 504)))

-- operand i of the node there: below n if its gate has it, else 0
unfoldable pub operand_ok : ℕ → List ℕ → ℕ → ℕ → Bool
operand_ok n s at i = cond (ltb i (arity (gate_of_code (byte_at s at)))) (ltb (u16_at s (at + 2 + 2 * i)) n) (eqb (u16_at s (at + 2 + 2 * i)) 0)

-- Node: code u8 (0-8), 0 u8, p, q, r u16
unfoldable pub node_ok : ℕ → List ℕ → ℕ → Bool
node_ok n s at = leb (byte_at s at) 8 && (eqb (byte_at s (at + 1)) 0 && (operand_ok n s at 0 && (operand_ok n s at 1 && operand_ok n s at 2)))

-- a of expression i: a variable below k for op 2, an earlier expression from op 3 on, else 0
unfoldable pub first_ok : ℕ → ℕ → List ℕ → ℕ → Bool
first_ok k i s at = cond (ltb (byte_at s at) 2) (eqb (u16_at s (at + 2)) 0) (cond (ltb (byte_at s at) 3) (ltb (u16_at s (at + 2)) k) (ltb (u16_at s (at + 2)) i))

-- b of expression i: an earlier expression from op 4 on, else 0
unfoldable pub second_ok : ℕ → List ℕ → ℕ → Bool
second_ok i s at = cond (ltb (byte_at s at) 4) (eqb (u16_at s (at + 4)) 0) (ltb (u16_at s (at + 4)) i)

-- Expression: op u8 (0-6), 0 u8, a u16, b u16, 0 u16
unfoldable pub expression_ok : ℕ → ℕ → List ℕ → ℕ → Bool
expression_ok k i s at = leb (byte_at s at) 6 && (eqb (byte_at s (at + 1)) 0 && (first_ok k i s at && (second_ok i s at && eqb (u16_at s (at + 6)) 0)))

-- Clause: side u8 (0 or 1), value u8 (0 or 1), node u16, time u16 (0-255), guard u16 (an expression below e)
unfoldable pub clause_ok : ℕ → ℕ → List ℕ → ℕ → Bool
clause_ok n e s at =
    leb (byte_at s at) 1
    && (leb (byte_at s (at + 1)) 1 && (ltb (u16_at s (at + 2)) n && (leb (u16_at s (at + 4)) 255 && ltb (u16_at s (at + 6)) e)))
