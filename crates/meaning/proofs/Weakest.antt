-- Bryant and Seger's theorem: the rows, where nothing collides, are the weakest run that meets the stimulus; and no run meets it where something does.
-- For any last time, so that it also speaks of times past the job's own.
-- Assumes nothing.
use mathlib.Core.Path.{◌≡◌, refl, sym}
use mathlib.Core.Bool.{Bool, true, false, cond}
use Prim.Native.Nat.{ℕ, zero, suc, ◌≤◌, ◌<◌}
use native.Mathlib.Omega.{arith}
use lib.Dec.{T, ltb, ltb→lt}
use Rattle.meaning.specs.Values.{Value, v_x, Cell, value, join_cells}
use Rattle.meaning.specs.Gates.{arity}
use Rattle.meaning.specs.declared.Node.{Node}
use Rattle.meaning.specs.declared.Side.TheVariants.{Stimulus}
use Rattle.meaning.specs.Jobs.{operand, Job, WellFormed}
use Rattle.meaning.specs.Rows.{stimulus_at, read_cell, forces_from, forced, cell}
use Rattle.meaning.specs.Runs.{States, read_value, forces, Run, Meets, Meeting, Weakest}
use Rattle.meaning.proofs.Values.{le_refl, le_of_eq, le_antisym, bit_le, Free, read, free_value, Under, under_read, under_free, under_le, over_read, over_left, over_right, under_both, under_forces}
use Rattle.meaning.proofs.Clauses.{place_node, stimulus_over, stimulus_under}

-- a row whose cells are values at most those of a state: so is what a gate forces from it
module _ (d : Node) (row : ℕ → Cell) (s : ℕ → Value) (size : ℕ) (inside : (i : ℕ) → i < arity d.gate → operand d i < size) where
  read_under : ((m : ℕ) → m < size → Under (row m) (s m)) → (i : ℕ) → Under (read_cell d row i) (read_value d s i)
  read_under f i = go (ltb i (arity d.gate)) (λ t. f (operand d i) (inside i (ltb→lt i _ t)))
    where
      go : (b : Bool) → (T b → Under (row (operand d i)) (s (operand d i))) → Under (cond b (row (operand d i)) (value v_x)) (cond b (s (operand d i)) v_x)
      go true g = g tt
      go false g = record { le = tt }

  pub forces_under : ((m : ℕ) → m < size → Under (row m) (s m)) → Under (forces_from d row) (forces d s)
  unfolding forces_from forces
  forces_under f = under_forces d.gate (read_under f 0) (read_under f 1) (read_under f 2)

-- a row in which nothing collides: a gate forces from it what it forces from the values
module _ (d : Node) (row : ℕ → Cell) (size : ℕ) (inside : (i : ℕ) → i < arity d.gate → operand d i < size) (free : (m : ℕ) → m < size → Free (row m)) where
  read_free : (i : ℕ) → read_cell d row i ≡ value (read_value d (λ m. read (row m)) i)
  read_free i = go (ltb i (arity d.gate)) (λ t. free_value _ (free (operand d i) (inside i (ltb→lt i _ t))))
    where
      go : (b : Bool) → (T b → row (operand d i) ≡ value (read (row (operand d i)))) → cond b (row (operand d i)) (value v_x) ≡ value (cond b (read (row (operand d i))) v_x)
      go true g = g tt
      go false g = refl

  pub forces_free : forces_from d row ≡ value (forces d (λ m. read (row m)))
  unfolding forces_from forces
  forces_free = rw (read_free 0, read_free 1, read_free 2)

-- the rows of a case read as states
abbrev pub row_states : Job → ℕ → States
row_states j x t n = read (cell j x t n)

-- nothing collides up to time last
abbrev pub FreeTo : Job → ℕ → ℕ → Type 0
FreeTo j x last = (t n : ℕ) → t ≤ last → n < j.netlist.size → Free (cell j x t n)

module _ (j : Job) (w : WellFormed j) (x last : ℕ) where
  -- every run that meets the stimulus: the row's cell is a value, and the run has at least it
  pub rows_under : (s : States) → Meeting j x last s → (t n : ℕ) → t ≤ last → n < j.netlist.size → Under (cell j x t n) (s t n)
  unfolding cell forced
  rows_under s m t n l h = under_both (forced_under t n l h) (asked t n l)
    where
      asked : (t n : ℕ) → t ≤ last → Under (stimulus_at j x t n) (s t n)
      asked t n l = stimulus_under j x t n (λ i a. le_of_eq (sym (m.meets.met t n i l a)))

      forced_under : (t n : ℕ) → t ≤ last → n < j.netlist.size → Under (forced j x t n) (s t n)
      forced_under zero n l h = record { le = tt }
      forced_under (suc t) n l h =
          under_le
          (forces_under (j.netlist.node n) (λ m. join_cells (forced j x t m) (stimulus_at j x t m)) (s t) j.netlist.size (λ i. w.operand_in n i h)
          (λ m k. under_both (forced_under t m (omega arith) k) (asked t m (omega arith))))
          (m.run.steps t n l h)

  -- so where something collides no run meets it
  pub run_free : (s : States) → Meeting j x last s → FreeTo j x last
  run_free s m t n l h = under_free (rows_under s m t n l h)

  module _ (free : FreeTo j x last) where
    pub rows_run : Run j.netlist last (row_states j x)
    unfolding cell forced
    rows_run =
        record {
          steps = λ t n l h.
              let f = forces_free (j.netlist.node n) (cell j x t) j.netlist.size (λ i. w.operand_in n i h) (λ m. free t m (omega arith)) in
              over_read (over_left (stimulus_at j x (suc t) n) (rw f (record { le = (le_refl (forces (j.netlist.node n) (row_states j x t))).le }))) (free (suc t) n l h);
        }

    pub rows_meet : Meets j Stimulus x last (row_states j x)
    unfolding cell
    rows_meet =
        record { met = λ t n i l a. bit_le (j.clause i).value (over_read (over_right (forced j x t n) (stimulus_over j x t n a)) (free t n l (place_node j a w))) }

    -- the rows are the weakest run
    pub rows_weakest : Weakest j x last (row_states j x)
    rows_weakest =
        record {
          meeting = record { run = rows_run; meets = rows_meet };
          least = λ s m t n l h. under_read (rows_under s m t n l h);
        }

  -- there is one weakest run, as far as a job's nodes and its last time go
  pub weakest_one : {u v : States} → Weakest j x last u → Weakest j x last v → (t n : ℕ) → t ≤ last → n < j.netlist.size → u t n ≡ v t n
  weakest_one {u} {v} a b t n l h = le_antisym (a.least v b.meeting t n l h) (b.least u a.meeting t n l h)
