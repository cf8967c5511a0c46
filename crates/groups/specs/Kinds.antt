-- The gates with operands, kind by kind in one list, and how many there are of each.
-- Assumes nothing.
use Rattle.std.specs.Prelude.{◌≡◌, List, ℕ, zero, suc, ◌+◌, ◌-◌, ◌≤◌, ◌++◌, cond, eqb, length, take, drop, All}
use Rattle.meaning.specs.declared.Gate.{Gate}
use Rattle.meaning.specs.declared.Gate.TheVariants.{Input, Zero, One, Buf, Not, And, Or, Xor, Mux}
use Rattle.meaning.specs.Jobs.{Job}
use Rattle.groups.specs.declared.wires.Wire.{Wire}
use Rattle.groups.specs.Wired.{InRow, Gathered}

-- a gate's code
abbrev pub kind : Gate → ℕ
kind Input = 0
kind Zero = 1
kind One = 2
kind Buf = 3
kind Not = 4
kind And = 5
kind Or = 6
kind Xor = 7
kind Mux = 8

-- how many of the first n nodes have the gate of a code
abbrev pub tally : Job → ℕ → ℕ → ℕ
tally j zero k = 0
tally j (suc n) k = tally j n k + cond (eqb (kind (j.netlist.node n).gate) k) 1 0

-- the nodes of a gate came behind the wires that were there
pub record Gathers (j : Job) (n : ℕ) (gate : Gate) (before after : List Wire) : Type 0 where
  pub more : List Wire
  pub is : after ≡ before ++ more
  pub count : length more ≡ tally j n (kind gate)
  pub inside : All InRow more
  pub gathered : Gathered j n gate more

-- the wires of each kind stand together, BUFs first, and each other kind from its own place on
pub record Sorted (j : Job) (n : ℕ) (wires : List Wire) (nots ands ors xors muxes : ℕ) : Type 0 where
  pub in_order : (nots ≤ ands) × (ands ≤ ors) × (ors ≤ xors) × (xors ≤ muxes) × (muxes ≤ length wires)
  pub inside : All InRow wires
  pub are_bufs : Gathered j n Buf (take nots wires)
  pub are_nots : Gathered j n Not (take (ands - nots) (drop nots wires))
  pub are_ands : Gathered j n And (take (ors - ands) (drop ands wires))
  pub are_ors : Gathered j n Or (take (xors - ors) (drop ors wires))
  pub are_xors : Gathered j n Xor (take (muxes - xors) (drop xors wires))
  pub are_muxes : Gathered j n Mux (take (length wires - muxes) (drop muxes wires))
