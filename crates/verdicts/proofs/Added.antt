-- One more stimulus record, anywhere in the list of clauses, on a stored job that HOLDS: if still accepted, it HOLDS or is VACANT.
-- Assumes nothing.
use mathlib.Core.Path.{◌≡◌, sym, ◌∙◌, ap, subst}
use mathlib.Core.Logic.{◌⊎◌, inl, inr, ⊎_elim}
use mathlib.Core.Bool.{Bool, true, false, ◌||◌}
use mathlib.Core.List.{List, ◌++◌}
use native.Mathlib.Decide.{dec_lt, ℕ_discrete}
use native.Mathlib.Omega.{arith}
use Prim.Native.Nat.{ℕ, suc, ◌*◌, ◌-◌, ◌/◌, ◌≤◌, ◌<◌}
use lib.Dec.{T}
use lib.ListN.{length, length-append}
use Rattle.meaning.specs.Guards.{truth}
use Rattle.meaning.specs.declared.Side.{Side}
use Rattle.meaning.specs.declared.Side.TheVariants.{Stimulus, Expectation}
use Rattle.meaning.specs.Jobs.{until, Job, asks, Asks, last_time}
use Rattle.meaning.specs.Stated.{HOLDS, VACANT}
use Rattle.meaning.specs.Answers.{job_answer}
use Rattle.meaning.proofs.Clauses.{asks_same, asks_side, until_le, latest_le}
use Rattle.meaning.proofs.JobDemand.{is_holds, is_vacant}
use Rattle.meaning.proofs.Added.{Kept, MoreStimulus, more_stimulus}
use Rattle.stored.specs.Layout.{Records, sizes_of, header_sizes, records_of}
use Rattle.stored.specs.Packing.{Keeps}
use Rattle.stored.specs.Decoding.{node_at, clause_at, job_of}
use Rattle.stored.proofs.Promise.{promised, job_formed}
use Rattle.stored.proofs.Accepted.{accepted_passes, read_keeps}
use Rattle.verdicts.specs.Running.{job_in, check_answer}
use Rattle.verdicts.specs.Said.{Accepted, AddedStimulus}
use Rattle.verdicts.proofs.Answers.{job_words}
use Rattle.verdicts.proofs.Refusals.{check_gives}
use Rattle.verdicts.proofs.Alike.{Alike, alike_trans, alike_sym, alike_first, alike_second, first_byte, same_expression, same_clause, truth_same}

module _ (r r' : Records) (added : AddedStimulus r r') (keeps : Keeps r) where
  abbrev j : Job
  j = job_of r

  abbrev j' : Job
  j' = job_of r'

  -- the new record's place
  abbrev at : ℕ
  at = length added.front / 8

  -- clause i of r is clause k of r'
  record Moved (i k : ℕ) : Type 0 where
    from_below : i < j.count
    to_below : k < j'.count
    is : j'.clause k ≡ j.clause i

  -- the records before the new one stay, those from it on move by one
  before : (i : ℕ) → i < at → Alike r'.clauses (8 * i) r.clauses (8 * i)
  before i h =
      rw (added.clauses_were, added.clauses_are)
      (alike_trans (alike_first added.front (added.new ++ added.back) (8 * i) (omega arith)) (alike_sym (alike_first added.front added.back (8 * i) (omega arith))))

  after : (i : ℕ) → at ≤ i → Alike r'.clauses (8 * suc i) r.clauses (8 * i)
  after i h =
      let f = length added.front in
      let w = added.front_whole in
      let n = added.one_record in
      rw (added.clauses_were, added.clauses_are)
      (alike_trans (alike_second added.front (added.new ++ added.back) (8 * suc i) (8 * suc i - f) (omega arith))
      (alike_trans (alike_second added.new added.back (8 * suc i - f) (8 * i - f) (omega arith))
      (alike_sym (alike_second added.front added.back (8 * i) (8 * i - f) (omega arith)))))

  here : Alike r'.clauses (8 * at) added.new 0
  here =
      let w = added.front_whole in
      let n = added.one_record in
      rw added.clauses_are (alike_trans (alike_second added.front (added.new ++ added.back) (8 * at) 0 (omega arith)) (alike_first added.new added.back 0 (omega arith)))

  -- so there is one clause more
  front_count : at ≤ j.count
  unfolding job_of
  front_count = omega (arith, simp length-append at (ap length added.clauses_were))

  one_more : j'.count ≡ suc j.count
  unfolding job_of
  one_more = omega (arith, added.one_record, simp length-append at (ap length added.clauses_were), simp length-append at (ap length added.clauses_are))

  -- each clause of r has its place in r'
  moved : (i : ℕ) → i < j.count → (k : ℕ) × Moved i k
  unfolding job_of
  moved i l = go (dec_lt i at)
    where
      go : Dec (i < at) → (k : ℕ) × Moved i k
      go (yes h) = (i, record { from_below = l; to_below = omega (arith, one_more); is = same_clause (before i h) })
      go (no h) = (suc i, record { from_below = l; to_below = omega (arith, one_more); is = same_clause (after i (omega arith)) })

  -- and each clause of r' is the new one, or has its place in r
  data Origin (k : ℕ) : Type 0 where
    new : (j'.clause k).side ≡ Stimulus → Origin k
    old : (i : ℕ) → Moved i k → Origin k

  origin : (k : ℕ) → k < j'.count → Origin k
  unfolding job_of clause_at
  origin k l = go (dec_lt k at) (ℕ_discrete k at)
    where
      go : Dec (k < at) → Dec (k ≡ at) → Origin k
      go (yes h) d = old k (record { from_below = omega (arith, front_count); to_below = l; is = same_clause (before k h) })
      go (no h) (yes e) = new (rw (e, first_byte here, added.is_stimulus))
      go (no h) (no e) =
          let p : suc (k - 1) ≡ k = omega arith in
          old (k - 1) (record { from_below = omega (arith, one_more); to_below = l; is = rw p at (same_clause (after (k - 1) (omega arith))) })

  -- a clause asks the same in both: its guard is as true, since r' has the expressions of r
  expression_same : (i : ℕ) → i < (sizes_of r).e → j.expressions i ≡ j'.expressions i
  unfolding job_of
  expression_same i h = rw added.expressions_are (sym (same_expression (alike_first r.expressions added.more (8 * i) (omega arith))))

  guard_below : (i : ℕ) → i < j.count → (j.clause i).guard < (sizes_of r).e
  unfolding job_of clause_at
  guard_below i h = ((promised r keeps).clause i h).guard

  moved_asks : {i k : ℕ} → Moved i k → (side : Side) (x t n : ℕ) → asks j side x t n (j.clause i) ≡ asks j' side x t n (j'.clause k)
  moved_asks {i} {k} m side x t n =
      let g = (j.clause i).guard in
      let same : truth j.expressions x g ≡ truth j'.expressions x g = truth_same j.expressions j'.expressions x g (λ l h. expression_same l (omega (arith, guard_below i m.from_below))) in
      asks_same j j' side x t n (j.clause i) same ∙ ap (asks j' side x t n) (sym m.is)

  same_net : j'.netlist ≡ j.netlist
  unfolding job_of
  same_net = λ i. record { size = length (added.same_nodes i) / 8; node = λ n. node_at (added.same_nodes i) (8 * n) }

  same_variables : j'.variables ≡ j.variables
  unfolding job_of
  same_variables = added.same_k

  pub added_more : MoreStimulus (job_of r) (job_of r')
  unfolding last_time
  added_more =
      record {
        same_net = same_net;
        same_variables = same_variables;
        longer = latest_le j.clause j.count
            (λ i h. let m = moved i h in subst (λ c. until c ≤ last_time j') m.1.is (until_le j'.clause j'.count m.0 m.1.to_below));
        kept = λ x t n i a.
            let m = moved i a.below in
            record {
              at = m.0;
              asks = record { below = m.1.to_below; there = subst (λ b. T b) (moved_asks m.1 Stimulus x t n) a.there };
              value_is = ap (λ c. c.value) m.1.is;
            };
        no_new = λ x t n k a. from x t n k a (origin k a.below);
      }
    where
      from : (x t n k : ℕ) → Asks j' Expectation x t n k → Origin k → Kept j' j Expectation x t n k
      from x t n k a (new e) = clash (sym e ∙ asks_side j' a)
        where
          clash : Stimulus ≡ Expectation → Kept j' j Expectation x t n k
          clash q = let z : ◌≡◌ {A = ℕ} 0 1 = cc in absurd (omega arith)
      from x t n k a (old i m) =
          record {
            at = i;
            asks = record { below = m.from_below; there = subst (λ b. T b) (sym (moved_asks m Expectation x t n)) a.there };
            value_is = ap (λ c. c.value) (sym m.is);
          }

-- over records
pub added_records : (r r' : Records) → AddedStimulus r r' → Keeps r → Keeps r' → T (is_holds (job_answer (job_of r))) → T (is_holds (job_answer (job_of r')) || is_vacant (job_answer (job_of r')))
added_records r r' added keeps keeps' = more_stimulus (job_of r) (job_of r') (added_more r r' added keeps) (job_formed r keeps) (job_formed r' keeps')

-- over stored bytes: demand 3's last sentence
pub added_stimulus : (s s' : List ℕ) → Accepted s → Accepted s' → AddedStimulus (records_of s) (records_of s') → (check_answer s).word ≡ HOLDS → ((check_answer s').word ≡ HOLDS) ⊎ ((check_answer s').word ≡ VACANT)
added_stimulus s s' a a' added h =
    let given = ap (λ x. x.word) ((check_gives s).1 a) in
    let given' = ap (λ x. x.word) ((check_gives s').1 a') in
    let words' = job_words (job_answer (job_in s')) in
    ⊎_elim (λ t. inl (given' ∙ words'.0.1 t)) (λ t. inr (given' ∙ words'.2.1 t))
    (either (is_holds (job_answer (job_in s'))) (is_vacant (job_answer (job_in s')))
    (added_records (records_of s) (records_of s') added (kept s a) (kept s' a') ((job_words (job_answer (job_in s))).0.0 (sym given ∙ h))))
  where
    kept : (s : List ℕ) → Accepted s → Keeps (records_of s)
    kept s a = read_keeps s (accepted_passes s (header_sizes s) a)

    either : (b c : Bool) → T (b || c) → T b ⊎ T c
    either true c t = inl tt
    either false c t = inr t
