-- A walk over the clauses of one time takes in, one after the other, those of all clauses that are of that time.
-- Assumes nothing.
use Rattle.std.proofs.Common.{◌≡◌, refl, sym, ◌∙◌, Bool, true, false, ◌&&◌, cond, eqb, ℕ, zero, suc, ◌<◌, ◌≤◌, List, [], ◌∷◌, ◌++◌, length, set, take, filter, arith}
use Rattle.std.specs.Prelude.{Option, None}
use Rattle.std.specs.List.{fold}
use borrow.Author.Tests.{eq-eqb, ne_eqb}
use native.Mathlib.Decide.{ℕ_discrete}
use Rattle.std.proofs.Common.{get_or-set_same, get_or-set_other}
use Rattle.cases.specs.declared.values.Value.{Value}
use Rattle.cases.specs.Cells.{cell_of, cell_in}
use Rattle.std.proofs.lemmas.List.Sums.{fold-append}
use Rattle.std.proofs.lemmas.List.Elements.{filter-append}
use Rattle.std.proofs.Math.Seq.{take-suc}
use Rattle.meaning.specs.declared.Clause.{Clause}
use Rattle.meaning.specs.declared.Side.{Side}
use Rattle.meaning.specs.declared.Side.TheVariants.{Stimulus}
use Rattle.meaning.specs.Values.{v_x, Cell, value, join_cells, bit}
use Rattle.meaning.specs.Guards.{truth}
use Rattle.meaning.specs.Jobs.{same_side, on, Job, speaks, asks}
use Rattle.meaning.specs.Rows.{asked_by, stimulus_at}
use Rattle.meaning.proofs.Cells.{join_nothing, join_assoc}
use Rattle.meaning.proofs.Clauses.{asks_off}
use Rattle.decoded.specs.Plans.{no_clause, clause_of}
use Rattle.decoded.specs.Walks.{timed}
use Rattle.decoded.specs.Meant.{job_in}
use Rattle.decoded.specs.declared.Plan.{Plan}
use Rattle.cases.specs.Runs.{counts}

module _ (clauses : List Clause) (t : ℕ) where
  timed_suc : (i : ℕ) → i < length clauses → timed clauses (suc i) t ≡ timed clauses i t ++ filter (λ k. on k t) (clause_of clauses i ∷ [])
  timed_suc i h = rw (take-suc clauses i no_clause h) (filter-append (λ k. on k t) (take i clauses) (clause_of clauses i ∷ []))

  -- one clause more: a clause of another time changes nothing
  pub timed_fold : {A : Type 0} (f : A → Clause → A) (a : A) (i : ℕ) → i < length clauses
      → fold f a (timed clauses (suc i) t) ≡ cond (on (clause_of clauses i) t) (f (fold f a (timed clauses i t)) (clause_of clauses i)) (fold f a (timed clauses i t))
  timed_fold f a i h = rw (timed_suc i h, fold-append f a (timed clauses i t)) (go (on (clause_of clauses i) t))
    where
      go : (b : Bool) → fold f (fold f a (timed clauses i t)) (cond b (clause_of clauses i ∷ []) []) ≡ cond b (f (fold f a (timed clauses i t)) (clause_of clauses i)) (fold f a (timed clauses i t))
      go true = refl
      go false = refl

-- at its time, a clause asks of a node where it counts and is of that node
pub counts_on : (j : Job) (x t m : ℕ) (side : Side) (k : Clause) → on k t ≡ true → counts j x side k && eqb k.node m ≡ asks j side x t m k
unfolding asks speaks
counts_on j x t m side k o = rw o (go (same_side k.side side) (truth j.expressions x k.guard))
  where
    go : (a b : Bool) → (a && b) && eqb k.node m ≡ a && (b && eqb k.node m)
    go true b = refl
    go false b = refl

-- a cell that one clause more is taken into
abbrev pub joined_by : Job → ℕ → ℕ → Cell → Clause → Cell
joined_by j x m a k = cond (counts j x Stimulus k && eqb k.node m) (join_cells a (value (bit k.value))) a

-- the row where a clause that counts is taken into the cell of its node
pub joined_more : (j : Job) (x : ℕ) (row : List (Option Value)) (k : Clause) {i : ℕ} (new : Option Value) → counts j x Stimulus k ≡ true → i ≡ k.node → i < length row
    → cell_of new ≡ join_cells (cell_in row i) (value (bit k.value)) → (m : ℕ) → cell_in (set row i new) m ≡ joined_by j x m (cell_in row m) k
joined_more j x row k {i} new o e h q m = rw (o, ← e) (go (ℕ_discrete i m))
  where
    go : Dec (i ≡ m) → cell_in (set row i new) m ≡ cond (eqb i m) (join_cells (cell_in row m) (value (bit k.value))) (cell_in row m)
    go (yes d) = rw (← d, eq-eqb i i refl, get_or-set_same row i new None h) q
    go (no d) = rw (ne_eqb i m d, get_or-set_other row i m new None (λ q. d (sym q)))

module _ (p : Plan) (x t m : ℕ) (a : Cell) where
  joined_so_far : (i : ℕ) → i ≤ p.size.c → fold (joined_by (job_in p) x m) a (timed p.clauses i t) ≡ join_cells a (asked_by (job_in p) x t m i)
  unfolding asked_by
  joined_so_far zero h = sym (join_nothing a)
  joined_so_far (suc i) h = timed_fold p.clauses t (joined_by (job_in p) x m) a i (omega (arith, p.decoded.clauses_long)) ∙ rw (joined_so_far i (omega arith)) (go (on k t) refl)
    where
      k : Clause
      k = clause_of p.clauses i

      go : (b : Bool) → on k t ≡ b → cond b (joined_by (job_in p) x m (join_cells a (asked_by (job_in p) x t m i)) k) (join_cells a (asked_by (job_in p) x t m i))
          ≡ join_cells a (join_cells (asked_by (job_in p) x t m i) (value (cond (asks (job_in p) Stimulus x t m k) (bit k.value) v_x)))
      go true o = rw (counts_on (job_in p) x t m Stimulus k o) (taken (asks (job_in p) Stimulus x t m k))
        where
          taken : (b : Bool) → cond b (join_cells (join_cells a (asked_by (job_in p) x t m i)) (value (bit k.value))) (join_cells a (asked_by (job_in p) x t m i))
              ≡ join_cells a (join_cells (asked_by (job_in p) x t m i) (value (cond b (bit k.value) v_x)))
          taken true = join_assoc a (asked_by (job_in p) x t m i) (value (bit k.value))
          taken false = rw (join_nothing (asked_by (job_in p) x t m i))
      go false o = rw (asks_off (job_in p) Stimulus x t m k o, join_nothing (asked_by (job_in p) x t m i))

  -- so the clauses of the time join the stimulus
  pub joined_all : fold (joined_by (job_in p) x m) a (timed p.clauses p.size.c t) ≡ join_cells a (stimulus_at (job_in p) x t m)
  unfolding stimulus_at
  joined_all = joined_so_far p.size.c (omega arith)
