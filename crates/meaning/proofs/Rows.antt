-- The row of a time is the least state at that time over all runs that meet the stimulus, also for times past the job's last time.
-- Assumes nothing.
use mathlib.Core.Path.{◌≡◌, subst}
use mathlib.Core.Logic.{◌↔◌}
use Prim.Native.Nat.{ℕ, zero, suc, ◌≤◌, ◌<◌}
use native.Mathlib.Decide.{dec_lt}
use native.Mathlib.Omega.{arith}
use Rattle.meaning.specs.Values.{Value, v0, v1, v_x, Cell, value, collision, join, join_cells}
use Rattle.meaning.specs.Jobs.{Job, last_time, WellFormed}
use Rattle.meaning.specs.Rows.{stimulus_at, forced, cell}
use Rattle.meaning.specs.Runs.{States, Meeting, Weakest}
use Rattle.meaning.proofs.Values.{Free, Under}
use Rattle.meaning.proofs.Clauses.{place_time, stimulus_under}
use Rattle.meaning.proofs.Weakest.{row_states, FreeTo, forces_free, run_free, rows_weakest}

module _ (j : Job) (w : WellFormed j) (x : ℕ) where
  -- nothing is asked past the last time
  quiet : (t n : ℕ) → last_time j < t → Under (stimulus_at j x t n) v_x
  quiet t n l = stimulus_under j x t n (λ i a. absurd (omega (arith, place_time j a)))

  kept_free : (a : Value) (c : Cell) → Under c v_x → Free (join_cells (value a) c)
  unfolding join_cells join
  kept_free v0 (value v0) u = tt
  kept_free v0 (value v1) u = absurd u.le
  kept_free v0 (value v_x) u = tt
  kept_free v1 (value v0) u = absurd u.le
  kept_free v1 (value v1) u = tt
  kept_free v1 (value v_x) u = tt
  kept_free v_x (value b) u = tt
  kept_free v0 collision u = u.le
  kept_free v1 collision u = u.le
  kept_free v_x collision u = u.le

  -- so a case that has not collided by then never does
  pub free_on : FreeTo j x (last_time j) → (last : ℕ) → FreeTo j x last
  unfolding cell forced
  free_on f zero = λ t n l h. f t n (omega arith) h
  free_on f (suc last) = λ t n l h. go (free_on f last) t n l h (dec_lt last t) (dec_lt (last_time j) t)
    where
      go : FreeTo j x last → (t n : ℕ) → t ≤ suc last → n < j.netlist.size → Dec (last < t) → Dec (last_time j < t) → Free (cell j x t n)
      go ih t n l h (no d) e = ih t n (omega arith) h
      go ih t n l h (yes d) (no e) = f t n (omega arith) h
      go ih t n l h (yes d) (yes e) =
          let q : suc last ≡ t = omega arith in
          let step = forces_free (j.netlist.node n) (cell j x last) j.netlist.size (λ i. w.operand_in n i h) (λ m. ih last m (omega arith)) in
          subst (λ u. Free (cell j x u n)) q (rw step (kept_free _ (stimulus_at j x (suc last) n) (quiet (suc last) n (omega arith))))

  -- at time t no node has collided exactly when some run meets the stimulus up to t; then the row is the least of those runs' states
  pub row_least : (t : ℕ) → FreeTo j x t → Weakest j x t (row_states j x)
  row_least t = rows_weakest j w x t

  pub row_some : (t : ℕ) → FreeTo j x t ↔ ((s : States) × Meeting j x t s)
  row_some t = ((λ f. (row_states j x, (row_least t f).meeting)), λ r. run_free j w x t r.0 r.1)
