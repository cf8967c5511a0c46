-- A plan's lists as a job, and what lets them be indexed.
-- Assumes nothing.
use Rattle.std.specs.Prelude.{◌≡◌, Bool, true, ◌&&◌, List, ℕ, ◌≤◌, ◌<◌, ltb, length, slice_index_or}
use Rattle.meaning.specs.declared.Expression.{Expression}
use Rattle.meaning.specs.declared.Expression.TheVariants.{False, True, Variable, Not, And, Or, Xor}
use Rattle.meaning.specs.declared.Gate.TheVariants.{Input}
use Rattle.meaning.specs.declared.Node.{Node}
use Rattle.meaning.specs.declared.Side.TheVariants.{Stimulus}
use Rattle.meaning.specs.declared.Clause.{Clause}
use Rattle.meaning.specs.Jobs.{Job}
use Rattle.stored.specs.declared.Size.{Size}

-- what stands past the end of a list: a record of zeros
abbrev pub no_node : Node
no_node = record { gate = Input; p = 0; q = 0; r = 0 }

abbrev pub no_clause : Clause
no_clause = record { side = Stimulus; value = Bool.false; node = 0; time = 0; guard = 0 }

abbrev pub node_of : List Node → ℕ → Node
node_of nodes i = slice_index_or nodes i no_node

abbrev pub expression_of : List Expression → ℕ → Expression
expression_of expressions i = slice_index_or expressions i False

abbrev pub clause_of : List Clause → ℕ → Clause
clause_of clauses i = slice_index_or clauses i no_clause

-- the job that three lists of these sizes are
abbrev pub job_from : Size → List Node → List Expression → List Clause → Job
job_from z nodes expressions clauses =
    record {
      variables = z.k;
      netlist = record { size = z.n; node = node_of nodes };
      expressions = expression_of expressions;
      count = z.c;
      clause = clause_of clauses;
    }

-- what expression i names: a variable below k, earlier expressions
abbrev pub names_earlier : ℕ → ℕ → Expression → Bool
names_earlier k i False = true
names_earlier k i True = true
names_earlier k i (Variable a) = ltb a k
names_earlier k i (Not a) = ltb a i
names_earlier k i (And a b) = ltb a i && ltb b i
names_earlier k i (Or a b) = ltb a i && ltb b i
names_earlier k i (Xor a b) = ltb a i && ltb b i

-- a node's operands are nodes, whether its gate has them or not
pub record NodeWithin (n : ℕ) (d : Node) : Type 0 where
  pub p : d.p < n
  pub q : d.q < n
  pub r : d.r < n

-- a clause speaks of a node, at a time to 255, under a guard
pub record ClauseWithin (n e : ℕ) (c : Clause) : Type 0 where
  pub node : c.node < n
  pub time : c.time < 256
  pub guard : c.guard < e

-- what lets the lists be indexed: limits, and every reference within them
pub record Decoded (z : Size) (nodes : List Node) (expressions : List Expression) (clauses : List Clause) : Type 0 where
  pub k_most : z.k ≤ 12
  pub n_least : 1 ≤ z.n
  pub n_most : z.n ≤ 1008
  pub e_most : z.e ≤ 504
  pub c_most : z.c ≤ 504
  pub nodes_long : z.n ≤ length nodes
  pub expressions_long : z.e ≤ length expressions
  pub clauses_long : z.c ≤ length clauses
  pub node : (i : ℕ) → i < z.n → NodeWithin z.n (node_of nodes i)
  pub expression : (i : ℕ) → i < z.e → names_earlier z.k i (expression_of expressions i) ≡ true
  pub clause : (i : ℕ) → i < z.c → ClauseWithin z.n z.e (clause_of clauses i)
