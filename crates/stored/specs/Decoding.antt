-- What records mean: the job of `meaning` that they are.
-- Assumes nothing.
use Rattle.std.specs.Prelude.{List, [], ◌∷◌, ℕ, ◌+◌, ◌*◌, eqb, get_or}
use Rattle.meaning.specs.Gates.{gate_of_code}
use Rattle.meaning.specs.declared.Expression.{Expression}
use Rattle.meaning.specs.declared.Expression.TheVariants.{False, True, Variable, Not, And, Or, Xor}
use Rattle.meaning.specs.declared.Node.{Node}
use Rattle.meaning.specs.declared.Clause.{Clause}
use Rattle.meaning.specs.declared.Side.TheVariants.{Stimulus, Expectation}
use Rattle.meaning.specs.Jobs.{Job}
use Rattle.stored.specs.Bytes.{byte_at, u16_at}
use Rattle.stored.specs.Layout.{Records, sizes_of}

unfoldable pub node_at : List ℕ → ℕ → Node
node_at s at = record { gate = gate_of_code (byte_at s at); p = u16_at s (at + 2); q = u16_at s (at + 4); r = u16_at s (at + 6) }

-- the expressions of op 0 to 6
unfoldable pub expression_at : List ℕ → ℕ → Expression
expression_at s at =
    let a = u16_at s (at + 2) in
    let b = u16_at s (at + 4) in
    get_or (False ∷ True ∷ Variable a ∷ Not a ∷ And a b ∷ Or a b ∷ Xor a b ∷ []) (byte_at s at) False

unfoldable pub clause_at : List ℕ → ℕ → Clause
clause_at s at =
    record {
      side = get_or (Stimulus ∷ Expectation ∷ []) (byte_at s at) Stimulus;
      value = eqb (byte_at s (at + 1)) 1;
      node = u16_at s (at + 2);
      time = u16_at s (at + 4);
      guard = u16_at s (at + 6);
    }

unfoldable pub job_of : Records → Job
job_of r =
    record {
      variables = r.k;
      netlist = record { size = (sizes_of r).n; node = λ n. node_at r.nodes (8 * n) };
      expressions = λ i. expression_at r.expressions (8 * i);
      count = (sizes_of r).c;
      clause = λ i. clause_at r.clauses (8 * i);
    }
