-- A job: a netlist, guards over k variables, and clauses on two sides.
-- Assumes nothing.
use Rattle.std.specs.Prelude.{Bool, true, false, ◌&&◌, ℕ, zero, suc, ◌<◌, ◌^◌, max, T, eqb}
use Rattle.meaning.specs.declared.Gate.{Gate}
use Rattle.meaning.specs.declared.Node.{Node}
use Rattle.meaning.specs.declared.Side.{Side}
use Rattle.meaning.specs.declared.Side.TheVariants.{Stimulus, Expectation}
use Rattle.meaning.specs.declared.Clause.{Clause}
use Rattle.meaning.specs.Gates.{arity}
use Rattle.meaning.specs.declared.Expression.{Expression}
use Rattle.meaning.specs.Guards.{truth}

-- a node's operands by their place: 0 is p, 1 is q, 2 is r
abbrev pub operand : Node → ℕ → ℕ
operand d zero = d.p
operand d (suc zero) = d.q
operand d (suc (suc i)) = d.r

pub record Netlist : Type 0 where
  pub size : ℕ
  pub node : ℕ → Node

abbrev pub same_side : Side → Side → Bool
same_side Stimulus Stimulus = true
same_side Stimulus Expectation = false
same_side Expectation Stimulus = false
same_side Expectation Expectation = true

-- the times of a clause, and the last of them
unfoldable pub on : Clause → ℕ → Bool
on c t = eqb c.time t

unfoldable pub until : Clause → ℕ
until c = c.time

pub record Job : Type 0 where
  pub variables : ℕ
  pub netlist : Netlist
  pub expressions : ℕ → Expression
  pub count : ℕ
  pub clause : ℕ → Clause

-- a case is a number below 2^k
abbrev pub cases : Job → ℕ
cases j = 2 ^ j.variables

-- clause c speaks of node n at time t in case x
unfoldable pub speaks : Job → ℕ → Clause → ℕ → ℕ → Bool
speaks j x c t n = truth j.expressions x c.guard && (on c t && eqb c.node n)

-- it is of this side, and speaks there
unfoldable pub asks : Job → Side → ℕ → ℕ → ℕ → Clause → Bool
asks j side x t n c = same_side c.side side && speaks j x c t n

pub record Asks (j : Job) (side : Side) (x t n i : ℕ) : Type 0 where
  pub below : i < j.count
  pub there : T (asks j side x t n (j.clause i))

-- the largest time of the first i clauses, 0 if there is none
unfoldable pub latest : (ℕ → Clause) → ℕ → ℕ
latest clause zero = 0
latest clause (suc i) = max (latest clause i) (until (clause i))

-- the last time of the job, by every clause of either side
unfoldable pub last_time : Job → ℕ
last_time j = latest j.clause j.count

-- what reading promises: an operand that a gate has, and a clause's node, are nodes of the netlist
pub record WellFormed (j : Job) : Type 0 where
  pub operand_in : (n i : ℕ) → n < j.netlist.size → i < arity (j.netlist.node n).gate → operand (j.netlist.node n) i < j.netlist.size
  pub node_in : (i : ℕ) → i < j.count → (j.clause i).node < j.netlist.size
