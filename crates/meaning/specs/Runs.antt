-- Runs: what demand 3 speaks of. Rows play no part in these definitions.
-- Assumes nothing.
use Rattle.std.specs.Prelude.{◌≡◌, ◌≢◌, cond, ℕ, suc, ◌≤◌, ◌<◌, ltb}
use Rattle.meaning.specs.Values.{Value, v_x, ◌⊑◌, bit}
use Rattle.meaning.specs.Gates.{arity, gate_forces}
use Rattle.meaning.specs.declared.Node.{Node}
use Rattle.meaning.specs.declared.Side.{Side}
use Rattle.meaning.specs.declared.Side.TheVariants.{Stimulus, Expectation}
use Rattle.meaning.specs.Jobs.{operand, Netlist, Job, Asks, last_time}

-- a series of states: at each time, a value for each node
abbrev pub States : Type 0
States = ℕ → ℕ → Value

-- a gate's operand in a state; one that it lacks is no use of a node
abbrev pub read_value : Node → (ℕ → Value) → ℕ → Value
read_value d state i = cond (ltb i (arity d.gate)) (state (operand d i)) v_x

unfoldable pub forces : Node → (ℕ → Value) → Value
forces d state = gate_forces d.gate (read_value d state 0) (read_value d state 1) (read_value d state 2)

-- up to time last, each node has at least what its gate forced one step before
pub record Run (net : Netlist) (last : ℕ) (s : States) : Type 0 where
  pub steps : (t n : ℕ) → suc t ≤ last → n < net.size → forces (net.node n) (s t) ⊑ s (suc t) n

-- up to time last, each clause of this side that speaks in case x finds its value
pub record Meets (j : Job) (side : Side) (x last : ℕ) (s : States) : Type 0 where
  pub met : (t n i : ℕ) → t ≤ last → Asks j side x t n i → s t n ≡ bit (j.clause i).value

-- a run that meets the stimulus
pub record Meeting (j : Job) (x last : ℕ) (s : States) : Type 0 where
  pub run : Run j.netlist last s
  pub meets : Meets j Stimulus x last s

-- clause i asks for another value at node n and time t than s has there
pub record MissedBy (j : Job) (x : ℕ) (s : States) (t n i : ℕ) : Type 0 where
  pub asks : Asks j Expectation x t n i
  pub differs : s t n ≢ bit (j.clause i).value

-- s misses the expectation somewhere up to the job's last time
pub record Misses (j : Job) (x : ℕ) (s : States) : Type 0 where
  pub time : ℕ
  pub node : ℕ
  pub clause : ℕ
  pub in_time : time ≤ last_time j
  pub missed : MissedBy j x s time node clause

-- the run that meets the stimulus and has at each place no more than every other such run
pub record Weakest (j : Job) (x last : ℕ) (w : States) : Type 0 where
  pub meeting : Meeting j x last w
  pub least : (s : States) → Meeting j x last s → (t n : ℕ) → t ≤ last → n < j.netlist.size → w t n ⊑ s t n
