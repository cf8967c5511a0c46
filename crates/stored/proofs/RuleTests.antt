-- The rules of the sizes and of the records, and their tests: the same. Each comparison of a test is read as the fact that it stands for.
-- Assumes nothing.
use mathlib.Core.Path.{◌≡◌}
use mathlib.Core.Logic.{◌↔◌}
use mathlib.Core.Bool.{true}
use mathlib.Core.List.{List}
use native.Mathlib.Omega.{arith}
use Prim.Native.Nat.{ℕ, zero, suc, ◌+◌, ◌*◌, ◌≤◌, ◌<◌}
use Rattle.scans.proofs.Bools.{says}
use Rattle.meaning.specs.Gates.{arity, gate_of_code}
use Rattle.stored.specs.declared.Size.{Size}
use Rattle.stored.specs.Bytes.{byte_at, u16_at}
use Rattle.stored.specs.Rules.{limits_ok, operand_ok, node_ok, first_ok, second_ok, expression_ok, clause_ok}
use Rattle.stored.specs.Broken.{Limits, NodeRule, ExpressionRule, ClauseRule}

-- the limits of the sizes
pub limits_rule : (z : Size) → (limits_ok z ≡ true) ↔ Limits z
unfolding limits_ok
limits_rule z = (λ e. let p = simp says at e in omega arith, λ r. simp says (omega arith))

-- a clause
pub clause_rule : (n e : ℕ) (s : List ℕ) (at : ℕ) → (clause_ok n e s at ≡ true) ↔ ClauseRule n e s at
unfolding clause_ok
clause_rule n e s at = (λ t. let p = simp says at t in omega arith, λ r. simp says (omega arith))

-- an expression
pub expression_rule : (k i : ℕ) (s : List ℕ) (at : ℕ) → (expression_ok k i s at ≡ true) ↔ ExpressionRule k i s at
unfolding expression_ok first_ok second_ok
expression_rule k i s at = (there, λ r. simp says (r.op, (r.zero, ((r.no_first, λ h. (λ l. r.variable (omega arith), r.first)), ((r.no_second, r.second), r.last)))))
  where
    there : expression_ok k i s at ≡ true → ExpressionRule k i s at
    there t =
        let p = simp says at t in
        let a = p.1.1.0 in
        let b = p.1.1.1 in
        record {
          op = p.0;
          zero = p.1.0;
          no_first = a.0;
          variable = λ e. (a.1 (omega arith)).0 (omega arith);
          first = λ h. (a.1 (omega arith)).1 h;
          no_second = b.0.0;
          second = b.0.1;
          last = b.1;
        }

-- operand i of a node
operand_rule : (n : ℕ) (s : List ℕ) (at i : ℕ)
    → (operand_ok n s at i ≡ true) ↔ ((i < arity (gate_of_code (byte_at s at)) → u16_at s (at + 2 + 2 * i) < n) × (arity (gate_of_code (byte_at s at)) ≤ i → u16_at s (at + 2 + 2 * i) ≡ 0))
unfolding operand_ok
operand_rule n s at i = (λ t. simp says at t, λ p. simp says p)

-- what holds of 0, 1 and 2 holds below 3
below_three : (P : ℕ → Type 0) → P 0 → P 1 → P 2 → (i : ℕ) → i < 3 → P i
below_three P p q r zero h = p
below_three P p q r (suc zero) h = q
below_three P p q r (suc (suc zero)) h = r
below_three P p q r (suc (suc (suc i))) h = absurd (omega arith)

-- a node
pub node_rule : (n : ℕ) (s : List ℕ) (at : ℕ) → (node_ok n s at ≡ true) ↔ NodeRule n s at
unfolding node_ok
node_rule n s at = (there, back)
  where
    there : node_ok n s at ≡ true → NodeRule n s at
    there t =
        let p = simp says at t in
        let each = below_three (λ i. operand_ok n s at i ≡ true) p.1.1.0 p.1.1.1.0 p.1.1.1.1 in
        record { code = p.0; zero = p.1.0; has = λ i h. ((operand_rule n s at i).0 (each i h)).0; lacks = λ i h. ((operand_rule n s at i).0 (each i h)).1 }

    back : NodeRule n s at → node_ok n s at ≡ true
    back r =
        let each : (i : ℕ) → i < 3 → operand_ok n s at i ≡ true = λ i h. (operand_rule n s at i).1 (r.has i h, r.lacks i h) in
        simp says (r.code, (r.zero, (each 0 (omega arith), (each 1 (omega arith), each 2 (omega arith)))))
