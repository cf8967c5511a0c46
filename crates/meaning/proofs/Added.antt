-- One more stimulus clause: a job that HOLDS then HOLDS or is VACANT, since fewer runs meet the stimulus and the expectation is the same.
-- Assumes nothing.
use mathlib.Core.Path.{◌≡◌, refl, sym, ◌∙◌, ap, subst}
use mathlib.Core.Bool.{◌||◌, cond}
use Prim.Native.Nat.{ℕ, suc, ◌-◌, ◌^◌, ◌≤◌, ◌<◌}
use native.Mathlib.Decide.{dec_lt, ℕ_discrete}
use native.Mathlib.Nat.{le_trans}
use native.Mathlib.Omega.{arith}
use borrow.Author.Tests.{lt-ltb, le-ltb, eq-eqb, ne_eqb}
use lib.Dec.{T, ltb, eqb}
use Rattle.meaning.specs.declared.JobAnswer.{JobAnswer}
use Rattle.meaning.specs.declared.JobAnswer.TheVariants.{Holds, Vacant}
use Rattle.meaning.specs.Values.{bit}
use Rattle.meaning.specs.Guards.{truth}
use Rattle.meaning.specs.declared.Side.{Side}
use Rattle.meaning.specs.declared.Clause.{Clause}
use Rattle.meaning.specs.declared.Side.TheVariants.{Stimulus, Expectation}
use Rattle.meaning.specs.Jobs.{Netlist, until, Job, asks, Asks, last_time, cases, WellFormed}
use Rattle.meaning.specs.Runs.{States, Run, Meeting}
use Rattle.meaning.specs.Answers.{job_answer}
use Rattle.meaning.specs.Demands.{Passing, Failing}
use Rattle.meaning.proofs.Clauses.{asks_same, asks_side, place_time, until_le, latest_le}
use Rattle.meaning.proofs.JobDemand.{is_holds, is_fails_job, is_vacant, holds_iff, fails_job_iff}

-- clause i of j asks no more than some clause of j' does
pub record Kept (j j' : Job) (side : Side) (x t n i : ℕ) : Type 0 where
  pub at : ℕ
  pub asks : Asks j' side x t n at
  pub value_is : (j'.clause at).value ≡ (j.clause i).value

-- j' has j's netlist, variables and stimulus, and no expectation that j has not
pub record MoreStimulus (j j' : Job) : Type 0 where
  pub same_net : j'.netlist ≡ j.netlist
  pub same_variables : j'.variables ≡ j.variables
  pub longer : last_time j ≤ last_time j'
  pub kept : (x t n i : ℕ) → Asks j Stimulus x t n i → Kept j j' Stimulus x t n i
  pub no_new : (x t n i : ℕ) → Asks j' Expectation x t n i → Kept j' j Expectation x t n i

either : (a : JobAnswer) → (T (is_fails_job a) → ⊥) → T (is_holds a || is_vacant a)
either (Holds c) h = tt
either (JobAnswer.Fails c x t n w f) h = h tt
either (Vacant c x t n) h = tt

module _ (j j' : Job) (m : MoreStimulus j j') where
  -- a run that meets the greater stimulus meets the lesser
  fewer : (x : ℕ) (s : States) → Meeting j' x (last_time j') s → Meeting j x (last_time j) s
  fewer x s r =
      let run : Run j.netlist (last_time j') s = subst (λ (net : Netlist). Run net (last_time j') s) m.same_net r.run in
      record {
        run = record { steps = λ t n l h. run.steps t n (le_trans l m.longer) h };
        meets = record { met = λ t n i l a. let k = m.kept x t n i a in r.meets.met t n k.at (le_trans l m.longer) k.asks ∙ ap bit k.value_is };
      }

  -- so no case fails that did not
  still : (x : ℕ) → Passing j x → ¬ (Failing j' x)
  still x p f =
      let miss = f.misses in
      let k = m.no_new x miss.time miss.node miss.clause miss.missed.asks in
      miss.missed.differs
      ((p.every f.run (fewer x f.run f.meeting)).met miss.time miss.node k.at (place_time j k.asks) k.asks ∙ ap bit k.value_is)

  pub more_stimulus : WellFormed j → WellFormed j' → T (is_holds (job_answer j)) → T (is_holds (job_answer j') || is_vacant (job_answer j'))
  more_stimulus w w' h =
      either (job_answer j')
      (λ t. let f = (fails_job_iff j' w').0 t in
      let below : f.0 < cases j = subst (λ k. f.0 < 2 ^ k) m.same_variables f.1 in
      still f.0 ((holds_iff j w).0 h f.0 below) f.2)

-- the job with one more clause, at this place of the list
abbrev pub with_clause : Job → ℕ → Clause → Job
with_clause j at c =
    record {
      variables = j.variables;
      netlist = j.netlist;
      expressions = j.expressions;
      count = suc j.count;
      clause = λ i. cond (ltb i at) (j.clause i) (cond (eqb i at) c (j.clause (i - 1)));
    }

-- one more stimulus clause, anywhere in the list
module _ (j : Job) (at : ℕ) (c : Clause) (within : at ≤ j.count) where
  abbrev more : Job
  more = with_clause j at c

  before_at : (i : ℕ) → i < at → more.clause i ≡ j.clause i
  before_at i h = rw (lt-ltb i at h)

  at_at : more.clause at ≡ c
  at_at = rw (le-ltb at at (omega arith), eq-eqb at at refl)

  after_at : (i : ℕ) → at ≤ i → more.clause (suc i) ≡ j.clause i
  after_at i h =
      let e : suc i - 1 ≡ i = omega arith in
      rw (le-ltb (suc i) at (omega arith), ne_eqb (suc i) at (λ e. omega arith), e)

  -- each clause of j has its place in the new list
  record Placed (i : ℕ) : Type 0 where
    to : ℕ
    below : i < j.count → to < more.count
    is : more.clause to ≡ j.clause i

  placed : (i : ℕ) → Placed i
  placed i = go (dec_lt i at)
    where
      go : Dec (i < at) → Placed i
      go (yes h) = record { to = i; below = λ l. omega arith; is = before_at i h }
      go (no h) = record { to = suc i; below = λ l. omega arith; is = after_at i (omega arith) }

  -- and each clause of the new list is the new one or has its place in j
  data Origin (i : ℕ) : Type 0 where
    new : more.clause i ≡ c → Origin i
    old : (k : ℕ) → (i < more.count → k < j.count) → j.clause k ≡ more.clause i → Origin i

  origin : (i : ℕ) → Origin i
  origin i = go (dec_lt i at) (ℕ_discrete i at)
    where
      go : Dec (i < at) → Dec (i ≡ at) → Origin i
      go (yes h) d = old i (λ l. omega arith) (sym (before_at i h))
      go (no h) (yes e) = new (rw e at_at)
      go (no h) (no e) =
          let p : suc (i - 1) ≡ i = omega arith in
          old (i - 1) (λ l. omega arith) (sym (rw p at (after_at (i - 1) (omega arith))))

  -- the same clause, at another place of the list, asks the same
  carried : (j₁ j₂ : Job) → j₁.expressions ≡ j₂.expressions → {side : Side} {x t n i : ℕ} (to : ℕ) → (i < j₁.count → to < j₂.count) → j₂.clause to ≡ j₁.clause i → Asks j₁ side x t n i → Kept j₁ j₂ side x t n i
  carried j₁ j₂ same {side} {x} {t} {n} {i} to within e a =
      let there : T (asks j₂ side x t n (j₁.clause i)) = subst (λ b. T b) (asks_same j₁ j₂ side x t n (j₁.clause i) (ap (λ es. truth es x (j₁.clause i).guard) same)) a.there in
      record {
        at = to;
        asks = record { below = within a.below; there = subst (λ d. T (asks j₂ side x t n d)) (sym e) there };
        value_is = ap (λ d. d.value) e;
      }

  pub added : c.side ≡ Stimulus → MoreStimulus j more
  unfolding last_time
  added s =
      record {
        same_net = refl;
        same_variables = refl;
        longer = latest_le j.clause j.count (λ i h. let p = placed i in subst (λ d. until d ≤ last_time more) p.is (until_le more.clause more.count p.to (p.below h)));
        kept = λ x t n i a. let p = placed i in carried j more refl p.to p.below p.is a;
        no_new = λ x t n i a. from x t n i a (origin i);
      }
    where
      from : (x t n i : ℕ) → Asks more Expectation x t n i → Origin i → Kept more j Expectation x t n i
      from x t n i a (new e) = clash (sym s ∙ ap (λ d. d.side) (sym e) ∙ asks_side more a)
        where
          clash : Stimulus ≡ Expectation → Kept more j Expectation x t n i
          clash q = let z : ◌≡◌ {A = ℕ} 0 1 = cc in absurd (omega arith)
      from x t n i a (old k within e) = carried more j refl k within e a

-- demand 3's last sentence
pub one_more : (j : Job) (at : ℕ) (c : Clause) → at ≤ j.count → c.side ≡ Stimulus → WellFormed j → WellFormed (with_clause j at c) → T (is_holds (job_answer j))
    → T (is_holds (job_answer (with_clause j at c)) || is_vacant (job_answer (with_clause j at c)))
one_more j at c within s = more_stimulus j (with_clause j at c) (added j at c within s)
