-- From a row to the next: what is forced, and what joining the stimulus makes of it.
-- Assumes nothing.
use Rattle.std.proofs.Common.{◌≡◌, ◌∙◌, ap, subst, Option, None, Some, ℕ, suc, ◌-◌, ◌+◌, ◌<◌, ◌≤◌, List, replicate, arith}
use Rattle.std.proofs.lemmas.List.{get_or-replicate}
use Rattle.meaning.specs.declared.Node.{Node}
use Rattle.meaning.specs.Values.{Cell, join_cells}
use Rattle.meaning.specs.Rows.{forces_from, forced, stimulus_at, cell}
use Rattle.decoded.specs.declared.Plan.{Plan}
use Rattle.decoded.specs.Plans.{node_of, NodeWithin}
use Rattle.decoded.specs.Meant.{job_in}
use Rattle.cases.specs.declared.values.Value.{Value}
use Rattle.cases.specs.declared.values.Value.TheVariants.{X}
use Rattle.cases.specs.Cells.{cell_of, cell_in, Shows}
use Rattle.cases.specs.Runs.{Before}

-- a gate looks at its node's operands only
forces_same : (n : ℕ) (d : Node) → NodeWithin n d → (f g : ℕ → Cell) → ((m : ℕ) → m < n → f m ≡ g m) → forces_from d f ≡ forces_from d g
unfolding forces_from
forces_same n d w f g same = rw (same d.p w.p, same d.q w.q, same d.r w.r)

module _ (p : Plan) (x t : ℕ) where
  -- each node starts at X
  pub forced_first : (size : ℕ) → p.size.n ≤ size → t ≡ 0 → Shows p.size.n (replicate size (Some X)) (forced (job_in p) x t)
  unfolding forced
  forced_first size l e = rw e (record { at = λ m h. ap cell_of (get_or-replicate size m (Some X) None (omega arith)) })

  -- from the row before comes what is forced
  pub forced_next : (row new : List (Option Value)) → ¬ (t ≡ 0) → Before p x t row → ((m : ℕ) → m < p.size.n → cell_in new m ≡ forces_from (node_of p.nodes m) (cell_in row)) → Shows p.size.n new (forced (job_in p) x t)
  unfolding forced cell
  forced_next row new later b made =
      let is : t ≡ suc (t - 1) = omega arith in
      rw is (record { at = λ m h. made m h ∙ forces_same p.size.n (node_of p.nodes m) (p.decoded.node m h) (cell_in row) (cell (job_in p) x (t - 1)) ((b.shows (t - 1) is).at) })

  -- joined with the stimulus it is the row
  pub before_next : (row new : List (Option Value)) → Shows p.size.n row (forced (job_in p) x t)
      → ((m : ℕ) → m < p.size.n → cell_in new m ≡ join_cells (cell_in row m) (stimulus_at (job_in p) x t m)) → Before p x (t + 1) new
  unfolding cell
  before_next row new s joined = record { shows = λ u e. let same : t ≡ u = omega arith in subst (λ u. Shows p.size.n new (cell (job_in p) x u)) same (record { at = λ m h. joined m h ∙ ap (λ a. join_cells a (stimulus_at (job_in p) x t m)) (s.at m h) }) }
