-- The nodes of one kind of gate, what a visit of them writes, and a whole step.
-- Assumes nothing.
use Rattle.std.specs.Prelude.{◌≡◌, Bool, true, false, List, ℕ, ◌<◌, eqb, All, Contains}
use Rattle.std.specs.List.{list_any}
use Rattle.meaning.specs.Values.{Value, value}
use Rattle.meaning.specs.declared.Gate.{Gate}
use Rattle.meaning.specs.Jobs.{Job}
use Rattle.meaning.specs.Runs.{forces}
use Rattle.words.specs.declared.Pair.{Pair}
use Rattle.groups.specs.declared.wires.Wire.{Wire}
use Rattle.groups.specs.Held.{pair_at, Held}

-- a wire's nodes are within a row
pub record InRow (w : Wire) : Type 0 where
  pub node : w.node < 1008
  pub p : w.p < 1008
  pub q : w.q < 1008
  pub r : w.r < 1008

-- a wire stands for one of the job's first n nodes, which has this gate
pub record Stands (j : Job) (n : ℕ) (gate : Gate) (w : Wire) : Type 0 where
  pub below : w.node < n
  pub is : j.netlist.node w.node ≡ record { gate = gate; p = w.p; q = w.q; r = w.r }

-- one of these wires stands for node m
abbrev pub stands_for : List Wire → ℕ → Bool
stands_for wires m = list_any (λ w. eqb w.node m) wires

-- these wires stand for those of the first n nodes that have a gate, each of which is among them
pub record Gathered (j : Job) (n : ℕ) (gate : Gate) (wires : List Wire) : Type 0 where
  pub stands : All (Stands j n gate) wires
  pub all : (m : ℕ) → m < n → (j.netlist.node m).gate ≡ gate → stands_for wires m ≡ true

-- a node's pair after a visit: as it was if no wire stands for it, else what one that does is given from its operands' pairs
pub data Visited (gives : Pair → Pair → Pair → Pair → Type 0) (wires : List Wire) (row : List Pair) (m : ℕ) (old new : Pair) : Type 0 where
  left : stands_for wires m ≡ false → new ≡ old → Visited gives wires row m old new
  given : (w : Wire) → Contains wires w → w.node ≡ m → gives (pair_at row w.p) (pair_at row w.q) (pair_at row w.r) new → Visited gives wires row m old new

pub record Visits (gives : Pair → Pair → Pair → Pair → Type 0) (wires : List Wire) (row next next' : List Pair) : Type 0 where
  pub at : (m : ℕ) → Visited gives wires row m (pair_at next m) (pair_at next' m)

-- a step: wherever the row holds values, the next one holds what the gates force from them
pub record Steps (j : Job) (row next : List Pair) : Type 0 where
  pub at : (i : ℕ) → i < 64 → (v : ℕ → Value) → Held j row i (λ m. value (v m)) → Held j next i (λ m. value (forces (j.netlist.node m) v))
