-- Time by time at a place: as long as its case has not collided, the row is that of the case.
-- Assumes nothing.
use Rattle.std.proofs.Common.{◌≡◌, sym, ◌∙◌, ap, Bool, true, not, ℕ, zero, suc, ◌+◌, ◌*◌, ◌<◌, List}
use Rattle.scans.specs.First.{each}
use Rattle.scans.proofs.Bools.{is_true, of_true}
use Rattle.scans.proofs.Search.{each_e, each_i, first_bad_same}
use Rattle.meaning.specs.Values.{value, join_cells, collides}
use Rattle.meaning.specs.Jobs.{operand, Job, WellFormed}
use Rattle.meaning.specs.Rows.{forced, cell, row_clear}
use Rattle.meaning.specs.Runs.{forces}
use Rattle.meaning.specs.Cases.{met_at}
use Rattle.meaning.proofs.Values.{Free, read, free_value}
use Rattle.meaning.proofs.Weakest.{forces_free}
use Rattle.words.specs.declared.Pair.{Pair}
use Rattle.decoded.specs.declared.Plan.{Plan}
use Rattle.decoded.specs.Plans.{node_of}
use Rattle.decoded.specs.Meant.{job_in}
use Rattle.decoded.specs.Walks.{timed}
use Rattle.groups.specs.Held.{Held, clear, asked_in, Stimulates, Expects}
use Rattle.groups.specs.Wired.{Steps}
use Rattle.groups.specs.Turns.{Alive, Turns}
use Rattle.groups.proofs.Timed.{asked_timed, missed_timed}
use Rattle.groups.proofs.StimulusLaws.{clear_same}

-- a plan's job is well-formed
pub formed : (p : Plan) → WellFormed (job_in p)
formed p = record { operand_in = λ m i h l. go m h i; node_in = λ i l. (p.decoded.clause i l).node }
  where
    go : (m : ℕ) → m < p.size.n → (i : ℕ) → operand (node_of p.nodes m) i < p.size.n
    go m h zero = (p.decoded.node m h).p
    go m h (suc zero) = (p.decoded.node m h).q
    go m h (suc (suc i)) = (p.decoded.node m h).r

-- two tests that agree below n
each_agree : (f g : ℕ → Bool) (n : ℕ) → ((m : ℕ) → m < n → f m ≡ g m) → each f n ≡ each g n
unfolding each
each_agree f g n h = rw (first_bad_same f g n h)

module _ (p : Plan) (g t : ℕ) {row row' next : List Pair} {d r : ℕ} (s : Stimulates (job_in p) g t (timed p.clauses p.size.c t) row row' d)
    (e : Expects (job_in p) g t (timed p.clauses p.size.c t) row' r) (steps : Steps (job_in p) row' next) where
  abbrev j : Job
  j = job_in p

  module _ (i : ℕ) (l : i < 64) (a : Alive (job_in p) (64 * g + i) t row i) where
    abbrev x : ℕ
    x = 64 * g + i

    -- the forced row, joined with the stimulus, is the row
    here_clear : clear j (λ m. join_cells (forced j x t m) (asked_in j x t (timed p.clauses p.size.c t) m)) ≡ row_clear j x t
    unfolding row_clear cell
    here_clear = clear_same j (λ m. ap (join_cells (forced j x t m)) (asked_timed p t x m))

    module _ (q : row_clear (job_in p) (64 * g + i) t ≡ true) where
      -- a clear row has a value at each node
      free : (m : ℕ) → m < p.size.n → Free (cell j x t m)
      unfolding row_clear
      free m h = of_true _ (each_e (λ m. not (collides (cell j x t m))) p.size.n (of_true _ q) m h)

      here : Held j row' i (λ m. value (read (cell j x t m)))
      unfolding cell
      here = record { at = λ m h. (s.joined i l (forced j x t) a.held).at m h ∙ ap (join_cells (forced j x t m)) (asked_timed p t x m) ∙ free_value _ (free m h) }

      met : (m : ℕ) → m < p.size.n → met_at j x t m (value (read (cell j x t m))) ≡ met_at j x t m (cell j x t m)
      met m h = ap (met_at j x t m) (sym (free_value _ (free m h)))

      forces_here : (m : ℕ) → m < p.size.n → forced j x (suc t) m ≡ value (forces (node_of p.nodes m) (λ m. read (cell j x t m)))
      unfolding forced cell
      forces_here m h = forces_free (node_of p.nodes m) (cell j x t) p.size.n (λ i. (formed p).operand_in m i h) free

      alive : Alive j x (suc t) next i
      alive =
          record {
            held = record { at = λ m h. (steps.at i l (λ m. read (cell j x t m)) here).at m h ∙ sym (forces_here m h) };
            free = is_true _ (each_i _ p.size.n (λ m h. ap (λ c. not (collides c)) (forces_here m h)));
          }

  pub turns : Turns (job_in p) g t row next (record { collided = d; missed = r })
  turns =
      record {
        collided = λ i l a. s.collided i l (forced j (64 * g + i) t) a.held a.free ∙ ap not (here_clear i l a);
        missed = λ i l a q. e.missed i l (λ m. read (cell j (64 * g + i) t m)) (here i l a q) ∙ missed_timed p t (64 * g + i) (λ m. read (cell j (64 * g + i) t m)) ∙ ap not (each_agree _ _ p.size.n (met i l a q));
        next = λ i l a q. alive i l a q;
      }
