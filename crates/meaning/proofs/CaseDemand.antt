-- Demand 3 for one case: the answer by rows is exactly the answer by runs.
-- Assumes nothing.
use mathlib.Core.Path.{◌≡◌, refl, sym, ◌∙◌, ap}
use mathlib.Core.Logic.{⊎_elim, ◌↔◌}
use mathlib.Core.Bool.{Bool, true, false}
use Prim.Native.Nat.{ℕ, ◌≤◌}
use native.Mathlib.Omega.{arith}
use lib.Dec.{T, T_not, not_T}
use Rattle.scans.proofs.Bools.{of_true}
use Rattle.meaning.specs.declared.CaseAnswer.{CaseAnswer}
use Rattle.meaning.specs.declared.CaseAnswer.TheVariants.{Passes, Empty, Fails}
use Rattle.meaning.specs.Values.{value, collides, has, bit, number, cell_number}
use Rattle.meaning.specs.declared.Side.TheVariants.{Expectation}
use Rattle.meaning.specs.Jobs.{Job, Asks, last_time, WellFormed}
use Rattle.meaning.specs.Rows.{cell}
use Rattle.meaning.specs.Runs.{States, Meeting, MissedBy, Weakest}
use Rattle.meaning.specs.Cases.{case_answer, answer_of, is_passes, is_empty, is_fails}
use Rattle.meaning.specs.Demands.{Passing, Failing, Unmet, Before, FirstMissed, CaseSays}
use Rattle.meaning.proofs.Values.{le_of_eq, le_trans, bit_le, read, free_value, has_e, has_i, under_read}
use Rattle.meaning.proofs.Clauses.{place_time, place_node}
use Rattle.meaning.proofs.Weakest.{row_states, rows_under, run_free, rows_weakest, weakest_one}
use Rattle.meaning.proofs.Described.{NoCollision, MissedAt, EmptyAt, Describes, described, answer_is}

before_time : (t n t' n' : ℕ) {last : ℕ} → t ≤ last → Before t' n' t n → t' ≤ last
before_time t n t' n' l b = ⊎_elim (λ h. omega arith) (λ h. omega arith) b

missed_same : {j : Job} {x : ℕ} {u v : States} {t n i : ℕ} → u t n ≡ v t n → MissedBy j x u t n i → MissedBy j x v t n i
missed_same e m = record { asks = m.asks; differs = λ d. m.differs (e ∙ d) }

module _ (j : Job) (w : WellFormed j) (x : ℕ) where
  abbrev last : ℕ
  last = last_time j

  -- where nothing collides, what a row misses is what its states miss
  missed_run : NoCollision j (cell j x) → {t n i : ℕ} → MissedAt j x (cell j x) t n i → MissedBy j x (row_states j x) t n i
  missed_run f {t} {n} {i} m =
      record { asks = m.asks; differs = λ e. T_not (has (cell j x t n) (bit (j.clause i).value)) m.differs (has_i {c = cell j x t n} (free_value (cell j x t n) (f t n (place_time j m.asks, place_node j m.asks w)) ∙ ap value e)) }

  missed_row : {t n i : ℕ} → MissedBy j x (row_states j x) t n i → MissedAt j x (cell j x) t n i
  missed_row {t} {n} {i} m =
      record { asks = m.asks; differs = not_T (has (cell j x t n) (bit (j.clause i).value)) (λ h. m.differs (ap read (has_e (cell j x t n) _ h))) }

  weakest : NoCollision j (cell j x) → Weakest j x last (row_states j x)
  weakest f = rows_weakest j w x last (λ t n l h. f t n (l, h))

  -- every run that meets the stimulus has what the rows have at 0 and at 1
  above : (s : States) → Meeting j x last s → {t n i : ℕ} → Asks j Expectation x t n i → row_states j x t n ≡ bit (j.clause i).value → s t n ≡ bit (j.clause i).value
  above s m {t} {n} {i} a e =
      bit_le (j.clause i).value (le_trans (le_of_eq (sym e)) (under_read (rows_under j w x last s m t n (place_time j a) (place_node j a w))))

  collided : {t n : ℕ} → EmptyAt j (cell j x) t n → Unmet j x
  collided {t} {n} e s m = T_not (collides (cell j x t n)) (run_free j w x last s m t n e.place.0 e.place.1) e.here

  -- the answer by rows says what it is to say of runs
  says : (a : CaseAnswer) → Describes j x (cell j x) a → CaseSays j x a
  says Passes d =
      record {
        some = (row_states j x, (weakest d.free).meeting);
        every = λ s m. record { met = λ t n i l a. above s m a (met a) };
      }
    where
      met : {t n i : ℕ} → Asks j Expectation x t n i → row_states j x t n ≡ bit (j.clause i).value
      met {t} {n} {i} a = go (has (cell j x t n) (bit (j.clause i).value)) refl
        where
          go : (b : Bool) → has (cell j x t n) (bit (j.clause i).value) ≡ b → row_states j x t n ≡ bit (j.clause i).value
          go true e = ap read (has_e (cell j x t n) _ (of_true _ e))
          go false e = absurd (d.clean t n (place_time j a, place_node j a w) i (record { asks = a; differs = rw e tt }))
  says (Empty t n) d =
      (collided d, record { in_time = d.place.0; in_row = d.place.1; here = d.here; before = λ t' n' h b. d.before t' n' (before_time t n t' n' d.place.0 b, h) b })
  says (Fails t n v f) d =
      record {
        run = row_states j x;
        weakest = weakest d.free;
        here = (d.here.0, missed_run d.free d.here.1);
        before = λ t' n' i b m. d.before t' n' (place_time j m.asks, place_node j m.asks w) b i (missed_row m);
        found_is = d.found_is ∙ ap cell_number (free_value (cell j x t n) (d.free t n d.place));
        wanted_0 = ((λ z. let r = d.wanted_0.0 z in (r.0, missed_run d.free r.1, r.2)), (λ r. d.wanted_0.1 (r.0, missed_row r.1, r.2)));
        wanted_1 = d.wanted_1;
      }

  -- what is said of runs describes the rows
  describes : (a : CaseAnswer) → CaseSays j x a → Describes j x (cell j x) a
  describes Passes p =
      let f : NoCollision j (cell j x) = λ t n h. run_free j w x last p.some.0 p.some.1 t n h.0 h.1 in
      record {
        free = f;
        clean = λ t n h i m. let r = missed_run f m in r.differs ((p.every (row_states j x) (weakest f).meeting).met t n i h.0 m.asks);
      }
  describes (Empty t n) p =
      record { place = (p.1.in_time, p.1.in_row); here = p.1.here; before = λ t' n' h b. p.1.before t' n' h.1 b }
  describes (Fails t n v f) p =
      let free : NoCollision j (cell j x) = λ t n h. run_free j w x last p.run p.weakest.meeting t n h.0 h.1 in
      let same : (t n i : ℕ) → Asks j Expectation x t n i → p.run t n ≡ row_states j x t n =
      λ t n i a. weakest_one j w x last p.weakest (weakest free) t n (place_time j a) (place_node j a w) in
      let here = p.here.1.asks in
      record {
        free = free;
        place = (place_time j here, place_node j here w);
        here = (p.here.0, missed_row (missed_same (same t n _ here) p.here.1));
        before = λ t' n' h b i m. p.before t' n' i b (missed_same (sym (same t' n' i m.asks)) (missed_run free m));
        found_is = p.found_is ∙ ap number (same t n _ here) ∙ sym (ap cell_number (free_value (cell j x t n) (free t n (place_time j here, place_node j here w))));
        wanted_0 = (
          (λ z. let r = p.wanted_0.0 z in (r.0, missed_row (missed_same (same t n r.0 r.1.asks) r.1), r.2)),
          (λ r. p.wanted_0.1 (r.0, missed_same (sym (same t n r.0 r.1.asks)) (missed_run free r.1), r.2)),
        );
        wanted_1 = p.wanted_1;
      }

  -- the answer of a case is the one that says so of its runs
  pub case_demand : (a : CaseAnswer) → (a ≡ case_answer j x) ↔ CaseSays j x a
  unfolding case_answer
  case_demand a = ((λ e. rw e (says (answer_of j x (cell j x)) (described j x (cell j x)))), λ p. answer_is j x (describes a p))

  pub case_says : CaseSays j x (case_answer j x)
  case_says = (case_demand (case_answer j x)).0 refl

  -- a first miss is a miss of some run
  pub first_failing : {t n v f : ℕ} → FirstMissed j x t n v f → Failing j x
  first_failing {t} {n} p =
      record {
        run = p.run;
        meeting = p.weakest.meeting;
        misses = record { time = t; node = n; clause = p.here.0; in_time = place_time j p.here.1.asks; missed = p.here.1 };
      }

  pub not_both : Passing j x → ¬ (Failing j x)
  not_both p f = let m = f.misses in m.missed.differs ((p.every f.run f.meeting).met m.time m.node m.clause m.in_time m.missed.asks)

  parted : (a : CaseAnswer) → CaseSays j x a → (T (is_passes a) ↔ Passing j x) × (T (is_fails a) ↔ Failing j x) × (T (is_empty a) ↔ Unmet j x)
  parted Passes p = (((λ _. p), (λ _. tt)), (absurd, (λ f. not_both p f)), (absurd, (λ u. u p.some.0 p.some.1)))
  parted (Empty t n) p = ((absurd, (λ q. p.0 q.some.0 q.some.1)), (absurd, (λ f. p.0 f.run f.meeting)), ((λ _. p.0), (λ _. tt)))
  parted (Fails t n v f) p =
      let g = first_failing p in
      ((absurd, (λ q. not_both q g)), ((λ _. g), (λ _. tt)), (absurd, (λ u. u g.run g.meeting)))

  -- PASSES, FAILS and EMPTY exactly when
  pub passes_iff : T (is_passes (case_answer j x)) ↔ Passing j x
  passes_iff = (parted (case_answer j x) case_says).0

  pub fails_iff : T (is_fails (case_answer j x)) ↔ Failing j x
  fails_iff = (parted (case_answer j x) case_says).1

  pub empty_iff : T (is_empty (case_answer j x)) ↔ Unmet j x
  empty_iff = (parted (case_answer j x) case_says).2
