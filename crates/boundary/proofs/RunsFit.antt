-- What row, one case and check answer fits the forty bytes: counts are at most 4,096, times at most 255, nodes below 1,008.
-- Assumes nothing.
use mathlib.Core.Path.{◌≡◌, refl}
use mathlib.Core.List.{List}
use Prim.Native.Nat.{ℕ, ◌≤◌, ◌<◌}
use native.Mathlib.Omega.{arith}
use lib.Pow.{pow_mono}
use Rattle.scans.proofs.Exactly.{in_order_append}
use Rattle.meaning.specs.declared.CaseAnswer.{CaseAnswer}
use Rattle.meaning.specs.declared.CaseAnswer.TheVariants.{Passes, Empty, Fails}
use Rattle.meaning.specs.declared.Counts.{Counts}
use Rattle.meaning.specs.declared.JobAnswer.{JobAnswer}
use Rattle.meaning.specs.declared.JobAnswer.TheVariants.{Holds, Vacant}
use Rattle.meaning.specs.Values.{Value, v0, v1, v_x, number}
use Rattle.meaning.specs.Jobs.{Job, cases, last_time, until, WellFormed}
use Rattle.meaning.specs.Cases.{case_answer}
use Rattle.meaning.specs.Answers.{counts_of, job_answer}
use Rattle.meaning.specs.Stated.{stated_case, stated_job}
use Rattle.meaning.specs.Demands.{FirstMissed, CaseSays, JobSays}
use Rattle.meaning.proofs.Clauses.{latest_le, place_time, place_node}
use Rattle.meaning.proofs.CaseDemand.{case_says}
use Rattle.meaning.proofs.JobDemand.{counts_add, job_says}
use Rattle.stored.specs.Layout.{header_sizes, records_of}
use Rattle.stored.specs.Decoding.{clause_at, job_of}
use Rattle.stored.proofs.Promise.{accepted_promise}
use Rattle.verdicts.specs.Running.{job_in, check_answer, one_case_answer, row_answer}
use Rattle.verdicts.specs.Said.{Accepted}
use Rattle.verdicts.proofs.Demand.{job_formed}
use Rattle.verdicts.proofs.Row.{job_size}
use Rattle.boundary.proofs.Fits.{Fits, end_fits, test_fits}
use Rattle.boundary.proofs.StoredFit.{accepted_limits, after_reading, bytes_small}

number_most : (v : Value) → number v ≤ 2
number_most v0 = omega arith
number_most v1 = omega arith
number_most v_x = omega arith

-- a job with few cases, times and nodes
record Bounded (j : Job) : Type 0 where
  few_cases : cases j ≤ 4096
  few_times : last_time j ≤ 255
  few_nodes : j.netlist.size ≤ 1008
  formed : WellFormed j

module _ (j : Job) (b : Bounded j) where
  record PlaceIn (t n : ℕ) : Type 0 where
    in_time : t ≤ 255
    in_row : n < 1008

  -- what a first miss names
  missed_place : {x t n w f : ℕ} → FirstMissed j x t n w f → PlaceIn t n
  missed_place p =
      let a = p.here.1.asks in
      record { in_time = omega (arith, b.few_times, place_time j a); in_row = omega (arith, b.few_nodes, place_node j a b.formed) }

  found_most : {x t n w f : ℕ} → FirstMissed j x t n w f → f ≤ 2
  found_most {t = t} {n} p = omega (arith, p.found_is, number_most (p.run t n))

  case_small : (x : ℕ) (a : CaseAnswer) → CaseSays j x a → Fits 0 4 (stated_case a)
  case_small x Passes p = record { counted = refl; small = tt }
  case_small x (Empty t n) p = record { counted = refl; small = omega (arith, b.few_times, p.1.in_time, b.few_nodes, p.1.in_row) }
  case_small x (Fails t n w f) p =
      let at = missed_place p in
      record { counted = refl; small = omega (arith, at.in_time, at.in_row, p.wanted_1, found_most p) }

  -- the counts of a job
  record Few (c : Counts) : Type 0 where
    all : c.cases ≤ 4096
    passing : c.passing ≤ 4096
    failing : c.failing ≤ 4096
    empty : c.empty ≤ 4096

  few : (c : Counts) → c ≡ counts_of j → Few c
  unfolding counts_of
  few c e = let s = counts_add j in let l = b.few_cases in rw e (record { all = omega arith; passing = omega arith; failing = omega arith; empty = omega arith })

  job_small : (a : JobAnswer) → JobSays j a → Fits 0 9 (stated_job a)
  job_small (Holds c) p =
      let k = few c p.0 in
      record { counted = refl; small = omega arith }
  job_small (JobAnswer.Fails c x t n w f) p =
      let k = few c p.0 in
      let at = missed_place p.2 in
      record { counted = refl; small = omega (arith, b.few_cases, p.1.below, p.2.wanted_1, found_most p.2) }
  job_small (Vacant c x t n) p =
      let k = few c p.0 in
      let at = p.3 in
      record { counted = refl; small = omega (arith, b.few_cases, p.2.below, b.few_times, b.few_nodes) }

-- an accepted job is one
bounded : (s : List ℕ) → Accepted s → Bounded (job_in s)
unfolding job_of records_of last_time until clause_at
bounded s a =
    let l = accepted_limits s a in
    let p = (accepted_promise s (header_sizes s) a).0 in
    record {
      few_cases = pow_mono {i = (header_sizes s).k} {j = 12} l.k_most;
      few_times = latest_le (job_in s).clause (job_in s).count (λ i h. (p.clause i h).time);
      few_nodes = omega (arith, l.n_most, job_size s);
      formed = job_formed s a;
    }

pub check_fit : (s : List ℕ) → Fits 0 9 (check_answer s)
unfolding check_answer
check_fit s = after_reading 0 9 s _ (λ a. job_small (job_in s) (bounded s a) (job_answer (job_in s)) (job_says (job_in s) (job_formed s a)))

pub one_case_fit : (s : List ℕ) (x : ℕ) → Fits 0 4 (one_case_answer s x)
unfolding one_case_answer
one_case_fit s x =
    rw in_order_append
    (after_reading 0 4 s _ (λ a. test_fits 0 4 11 _ _ _ (omega arith) (end_fits 0 4 (case_small (job_in s) (bounded s a) x (case_answer (job_in s) x) (case_says (job_in s) (job_formed s a) x)))))

pub row_fit : (s : List ℕ) (x t room : ℕ) → Fits 1 0 (row_answer s x t room)
unfolding row_answer
row_fit s x t room =
    rw (in_order_append, in_order_append)
    (after_reading 1 0 s _ (λ a.
    test_fits 1 0 11 _ _ _ (omega arith)
    (end_fits 1 0
    (test_fits 1 0 12 _ _ _ (omega arith)
    (test_fits 1 0 13 _ _ _ (omega arith) (test_fits 1 0 14 _ _ _ (omega arith) (end_fits 1 0 (bytes_small (header_sizes s).n (omega (arith, (accepted_limits s a).n_most))))))))))
