-- What a crate above may rest on: the records of an accepted job have their sizes within the limits and every index in range, and their job is well formed.
-- The rules say it of each operand that a gate has; those that it lacks are 0, and there is a node 0.
-- Assumes nothing.
use mathlib.Core.Path.{◌≡◌, ◌∙◌, sym}
use mathlib.Core.List.{List}
use native.Mathlib.Decide.{dec_lt}
use native.Mathlib.Omega.{arith}
use Prim.Native.Nat.{ℕ, zero, suc, ◌+◌, ◌*◌, ◌≤◌, ◌<◌}
use Rattle.meaning.specs.Gates.{arity, gate_of_code}
use Rattle.meaning.specs.Jobs.{operand, WellFormed}
use Rattle.stored.specs.declared.Size.{Size}
use Rattle.stored.specs.Bytes.{byte_at, u16_at}
use Rattle.stored.specs.Layout.{Records, sizes_of, records_of}
use Rattle.stored.specs.Reading.{accepted_as, read_answer}
use Rattle.stored.specs.Broken.{Limits, NodeRule, ExpressionRule, ClauseRule}
use Rattle.stored.specs.Packing.{Keeps}
use Rattle.stored.specs.Decoding.{node_at, clause_at, job_of}
use Rattle.stored.proofs.RuleTests.{limits_rule, node_rule, expression_rule, clause_rule}
use Rattle.stored.proofs.Parts.{Lengths, lengths_of}
use Rattle.stored.proofs.Accepted.{accepted_passes, accepted_sizes, read_sizes, read_keeps}

-- the node at this place: a gate's code, and three nodes below n, whether its gate has those operands or not
pub record NodeIn (n : ℕ) (s : List ℕ) (at : ℕ) : Type 0 where
  pub code : byte_at s at ≤ 8
  pub p : u16_at s (at + 2) < n
  pub q : u16_at s (at + 4) < n
  pub r : u16_at s (at + 6) < n

-- what the records promise: sizes within the limits, lists of those lengths, and every index in them in range
pub record Promise (r : Records) : Type 0 where
  pub limits : Limits (sizes_of r)
  pub lengths : Lengths r (sizes_of r)
  pub node : (i : ℕ) → i < (sizes_of r).n → NodeIn (sizes_of r).n r.nodes (8 * i)
  pub expression : (i : ℕ) → i < (sizes_of r).e → ExpressionRule r.k i r.expressions (8 * i)
  pub clause : (i : ℕ) → i < (sizes_of r).c → ClauseRule (sizes_of r).n (sizes_of r).e r.clauses (8 * i)

module _ (n : ℕ) (s : List ℕ) (at : ℕ) where
  -- each operand is below n: one that the gate lacks is 0
  operand_below : 1 ≤ n → NodeRule n s at → (i place : ℕ) → i < 3 → place ≡ at + 2 + 2 * i → u16_at s place < n
  operand_below l rule i place h e = rw e (go (dec_lt i (arity (gate_of_code (byte_at s at)))))
    where
      go : Dec (i < arity (gate_of_code (byte_at s at))) → u16_at s (at + 2 + 2 * i) < n
      go (yes k) = rule.has i h k
      go (no k) = omega (arith, rule.lacks i h (omega arith))

  node_in : 1 ≤ n → NodeRule n s at → NodeIn n s at
  node_in l rule =
      record {
        code = rule.code;
        p = operand_below l rule 0 _ (omega arith) (omega arith);
        q = operand_below l rule 1 _ (omega arith) (omega arith);
        r = operand_below l rule 2 _ (omega arith) (omega arith);
      }

  operand_in : NodeIn n s at → (i : ℕ) → operand (node_at s at) i < n
  unfolding node_at
  operand_in x zero = x.p
  operand_in x (suc zero) = x.q
  operand_in x (suc (suc i)) = x.r

module _ (r : Records) (keeps : Keeps r) where
  -- records that keep every rule keep this promise
  pub promised : Promise r
  promised =
      let limits = (limits_rule (sizes_of r)).0 keeps.limits in
      record {
        limits = limits;
        lengths = lengths_of r keeps.lists;
        node = λ i h. node_in _ _ _ limits.n_least ((node_rule _ _ _).0 (keeps.node i h));
        expression = λ i h. (expression_rule _ _ _ _).0 (keeps.expression i h);
        clause = λ i h. (clause_rule _ _ _ _).0 (keeps.clause i h);
      }

  -- so their job is well formed
  pub job_formed : WellFormed (job_of r)
  unfolding job_of clause_at
  job_formed = record { operand_in = λ n i h l. operand_in _ _ _ (promised.node n h) i; node_in = λ i h. (promised.clause i h).node }

-- an accepted job keeps it, and its records have the sizes that are answered
pub accepted_promise : (s : List ℕ) (z : Size) → read_answer s ≡ accepted_as z → Promise (records_of s) × WellFormed (job_of (records_of s)) × (sizes_of (records_of s) ≡ z)
accepted_promise s z e =
    let keeps = read_keeps s (accepted_passes s z e) in
    (promised (records_of s) keeps, job_formed (records_of s) keeps, read_sizes s ∙ sym (accepted_sizes s z e))
