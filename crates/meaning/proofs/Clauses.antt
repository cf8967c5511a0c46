-- Where a clause speaks; the last time; the stimulus at a place, from below and from above.
-- Assumes nothing.
use mathlib.Core.Path.{◌≡◌, refl, subst}
use mathlib.Core.Bool.{and-false, Bool, true, false, ◌&&◌, cond}
use Prim.Native.Nat.{ℕ, zero, suc, ◌≤◌, ◌<◌, max}
use native.Mathlib.Omega.{arith}
use lib.Dec.{T, eqb, eqb→eq}
use Rattle.scans.proofs.Bools.{and_left, and_right}
use Rattle.scans.proofs.Search.{below_suc}
use Rattle.meaning.specs.Values.{Value, v_x, ◌⊑◌, value, join_cells, bit}
use Rattle.meaning.specs.Guards.{truth}
use Rattle.meaning.specs.declared.Side.{Side}
use Rattle.meaning.specs.declared.Clause.{Clause}
use Rattle.meaning.specs.declared.Side.TheVariants.{Stimulus, Expectation}
use Rattle.meaning.specs.Jobs.{same_side, on, until, Job, speaks, asks, Asks, latest, last_time, WellFormed}
use Rattle.meaning.specs.Rows.{asked, asked_by, stimulus_at}
use Rattle.meaning.proofs.Values.{le_refl, Under, Over, over_left, over_right, under_both}

pub same_side_lem : (a b : Side) → T (same_side a b) → a ≡ b
same_side_lem Stimulus Stimulus t = refl
same_side_lem Stimulus Expectation t = absurd t
same_side_lem Expectation Stimulus t = absurd t
same_side_lem Expectation Expectation t = refl

pub on_until : (c : Clause) (t : ℕ) → T (on c t) → t ≤ until c
unfolding on until
on_until c t h = omega (arith, eqb→eq c.time t h)

pub until_le : (clause : ℕ → Clause) (m i : ℕ) → i < m → until (clause i) ≤ latest clause m
unfolding latest
until_le clause zero i h = absurd (omega arith)
until_le clause (suc m) i h = below_suc (λ i. until (clause i) ≤ max (latest clause m) (until (clause m))) m (λ i l. omega (arith, until_le clause m i l)) (omega arith) i h

pub latest_le : (clause : ℕ → Clause) (m : ℕ) {b : ℕ} → ((i : ℕ) → i < m → until (clause i) ≤ b) → latest clause m ≤ b
unfolding latest
latest_le clause zero f = omega arith
latest_le clause (suc m) f = omega (arith, latest_le clause m (λ i l. f i (omega arith)), f m (omega arith))

-- a clause that asks: its parts, and that it does so at a place of the job
module _ (j : Job) {side : Side} {x t n i : ℕ} (a : Asks j side x t n i) where
  abbrev c : Clause
  c = j.clause i

  pub asks_side : c.side ≡ side
  unfolding asks
  asks_side = same_side_lem _ _ (and_left (same_side c.side side) _ a.there)

  speaking : T (speaks j x c t n)
  unfolding asks
  speaking = and_right (same_side c.side side) _ a.there

  pub asks_guard : T (truth j.expressions x c.guard)
  unfolding speaks
  asks_guard = and_left (truth j.expressions x c.guard) _ speaking

  placed : T (on c t && eqb c.node n)
  unfolding speaks
  placed = and_right (truth j.expressions x c.guard) _ speaking

  pub asks_on : T (on c t)
  asks_on = and_left (on c t) _ placed

  pub asks_node : c.node ≡ n
  asks_node = eqb→eq _ _ (and_right (on c t) _ placed)

  pub place_time : t ≤ last_time j
  unfolding last_time
  place_time = omega (arith, on_until c t asks_on, until_le j.clause j.count i a.below)

  pub place_node : WellFormed j → n < j.netlist.size
  place_node w = subst (λ m. m < j.netlist.size) asks_node (w.node_in i a.below)

-- a clause whose guard is as true in one job as in another asks the same in both
pub asks_same : (j j' : Job) (side : Side) (x t n : ℕ) (c : Clause) → truth j.expressions x c.guard ≡ truth j'.expressions x c.guard → asks j side x t n c ≡ asks j' side x t n c
unfolding asks speaks
asks_same j j' side x t n c e = rw e

-- at a time that is not its own a clause asks nothing
pub asks_off : (j : Job) (side : Side) (x t n : ℕ) (c : Clause) → on c t ≡ false → asks j side x t n c ≡ false
unfolding asks speaks
asks_off j side x t n c e = rw (e, and-false, and-false)

module _ (j : Job) (x t n : ℕ) where
  abbrev there : ℕ → Bool
  there i = asks j Stimulus x t n (j.clause i)

  -- each stimulus clause that speaks there is at most what is asked there
  asked_over : (m i : ℕ) → i < m → T (there i) → Over (bit (j.clause i).value) (asked_by j x t n m)
  unfolding asked_by
  asked_over zero i h a = absurd (omega arith)
  asked_over (suc m) i h a =
      below_suc (λ i. T (there i) → Over (bit (j.clause i).value) (join_cells (asked_by j x t n m) (asked j x t n (j.clause m)))) m
      (λ i l a. over_left _ (asked_over m i l a)) (λ a. over_right (asked_by j x t n m) (go (there m) a)) i h a
    where
      go : (b : Bool) → T b → Over (bit (j.clause m).value) (value (cond b (bit (j.clause m).value) v_x))
      go true u = record { le = (le_refl (bit (j.clause m).value)).le }
      go false u = absurd u

  pub stimulus_over : {i : ℕ} → Asks j Stimulus x t n i → Over (bit (j.clause i).value) (stimulus_at j x t n)
  unfolding stimulus_at
  stimulus_over {i} a = asked_over j.count i a.below a.there

  -- what is at least each of them is at least what is asked
  asked_under : (m : ℕ) {b : Value} → ((i : ℕ) → i < m → T (there i) → bit (j.clause i).value ⊑ b) → Under (asked_by j x t n m) b
  unfolding asked_by
  asked_under zero f = record { le = tt }
  asked_under (suc m) {b} f = under_both (asked_under m (λ i l. f i (omega arith))) (go (there m) (f m (omega arith)))
    where
      go : (y : Bool) → (T y → bit (j.clause m).value ⊑ b) → Under (value (cond y (bit (j.clause m).value) v_x)) b
      go true g = record { le = (g tt).le }
      go false g = record { le = tt }

  pub stimulus_under : {b : Value} → ((i : ℕ) → Asks j Stimulus x t n i → bit (j.clause i).value ⊑ b) → Under (stimulus_at j x t n) b
  unfolding stimulus_at
  stimulus_under f = asked_under j.count (λ i l a. f i (record { below = l; there = a }))
