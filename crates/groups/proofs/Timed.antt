-- The clauses of one time: what they ask or miss is what all of a job's clauses do at that time.
-- Assumes nothing.
use Rattle.std.proofs.Common.{◌≡◌, refl, sym, ◌∙◌, ap, Bool, true, false, not, ◌&&◌, ◌||◌, cond, ℕ, zero, suc, ◌≤◌, ◌<◌, List, [], ◌∷◌, length, take, add-one, arith, T, subst}
use Rattle.std.specs.List.{fold, filter, list_any}
use Rattle.std.proofs.lemmas.List.Folds.{list_any_more}
use Rattle.std.proofs.lemmas.List.Sums.{fold_more}
use borrow.Author.Tests.{not-true}
use Rattle.scans.specs.First.{first_bad, each}
use Rattle.scans.proofs.Bools.{both_ways, is_true, of_true, same_test, and_left}
use Rattle.scans.proofs.Search.{each_e, each_i, each_suc}
use Rattle.meaning.specs.Values.{Value, v_x, value, join_cells, has, bit}
use Rattle.meaning.specs.declared.Clause.{Clause}
use Rattle.meaning.specs.declared.Side.TheVariants.{Stimulus, Expectation}
use Rattle.meaning.specs.Jobs.{on, Job, asks}
use Rattle.meaning.specs.Rows.{asked, asked_by, stimulus_at}
use Rattle.meaning.specs.Cases.{missed, met_at}
use Rattle.meaning.proofs.Clauses.{asks_off, asks_node}
use Rattle.meaning.proofs.Cells.{join_nothing}
use Rattle.decoded.specs.declared.Plan.{Plan}
use Rattle.decoded.specs.Plans.{no_clause, clause_of}
use Rattle.decoded.specs.Meant.{job_in}
use Rattle.decoded.specs.Walks.{timed}
use Rattle.groups.specs.Held.{asked_in}

-- clauses of another time that change nothing may be left out
fold_timed : (t : ℕ) {A : Type 0} (f : A → Clause → A) → ((a : A) (k : Clause) → on k t ≡ false → f a k ≡ a) → (a : A) (clauses : List Clause) → fold f a (filter (λ k. on k t) clauses) ≡ fold f a clauses
fold_timed t f off a [] = refl
fold_timed t {A} f off a (k ∷ ks) = go (on k t) refl (λ b. fold_timed t f off b ks)
  where
    go : (b : Bool) → on k t ≡ b → ((a : A) → fold f a (filter (λ k. on k t) ks) ≡ fold f a ks) → fold f a (filter (λ k. on k t) (k ∷ ks)) ≡ fold f (f a k) ks
    go true e rest = rw e (rest (f a k))
    go false e rest = rw e (rest a ∙ ap (λ b. fold f b ks) (sym (off a k e)))

any_timed : (t : ℕ) (q : Clause → Bool) → ((k : Clause) → on k t ≡ false → q k ≡ false) → (clauses : List Clause) → list_any q (filter (λ k. on k t) clauses) ≡ list_any q clauses
any_timed t q off [] = refl
any_timed t q off (k ∷ ks) = go (on k t) refl (any_timed t q off ks)
  where
    go : (b : Bool) → on k t ≡ b → list_any q (filter (λ k. on k t) ks) ≡ list_any q ks → list_any q (filter (λ k. on k t) (k ∷ ks)) ≡ (q k || list_any q ks)
    go true e rest = rw e (ap (λ b. q k || b) rest)
    go false e rest = rw (e, off k e) rest

-- one of the first clauses passes a test
any_each : (clauses : List Clause) (q : Clause → Bool) (i : ℕ) → i ≤ length clauses → list_any q (take i clauses) ≡ not (each (λ k. not (q (clause_of clauses k))) i)
unfolding each first_bad
any_each clauses q zero h = refl
any_each clauses q (suc i) h =
    rw (← add-one i) (list_any_more q clauses i no_clause (omega arith))
    ∙ ap (λ b. b || q (clause_of clauses i)) (any_each clauses q i (omega arith))
    ∙ go (each (λ k. not (q (clause_of clauses k))) i) (q (clause_of clauses i))
    ∙ ap not (sym (each_suc (λ k. not (q (clause_of clauses k))) i))
  where
    go : (a b : Bool) → (not a || b) ≡ not (a && not b)
    go true true = refl
    go true false = refl
    go false b = refl

module _ (p : Plan) (t x : ℕ) where
  abbrev j : Job
  j = job_in p

  asked_first : (m i : ℕ) → i ≤ length p.clauses → asked_in j x t (take i p.clauses) m ≡ asked_by j x t m i
  unfolding asked_by
  asked_first m zero h = refl
  asked_first m (suc i) h =
      rw (← add-one i) (fold_more (λ c k. join_cells c (asked j x t m k)) (value v_x) p.clauses i no_clause (omega arith))
      ∙ ap (λ c. join_cells c (asked j x t m (clause_of p.clauses i))) (asked_first m i (omega arith))

  -- what they ask of a node is its stimulus
  pub asked_timed : (m : ℕ) → asked_in j x t (timed p.clauses p.size.c t) m ≡ stimulus_at j x t m
  unfolding stimulus_at
  asked_timed m =
      fold_timed t (λ c k. join_cells c (asked j x t m k)) (λ c k e. ap (λ b. join_cells c (value (cond b (bit k.value) v_x))) (asks_off j Stimulus x t m k e) ∙ join_nothing c) (value v_x) (take p.size.c p.clauses)
      ∙ asked_first m p.size.c p.decoded.clauses_long

  -- one of them is missed where some node does not meet its expectation
  pub missed_timed : (v : ℕ → Value) → list_any (λ k. missed j x t k.node (value (v k.node)) k) (timed p.clauses p.size.c t) ≡ not (each (λ m. met_at j x t m (value (v m))) p.size.n)
  unfolding met_at
  missed_timed v =
      any_timed t missed_at (λ k e. ap (λ b. b && not (has (value (v k.node)) (bit k.value))) (asks_off j Expectation x t k.node k e)) (take p.size.c p.clauses)
      ∙ any_each p.clauses missed_at p.size.c p.decoded.clauses_long
      ∙ ap not (same_test _ _ forth back)
    where
      missed_at : Clause → Bool
      missed_at k = missed j x t k.node (value (v k.node)) k

      clause : ℕ → Clause
      clause = clause_of p.clauses

      forth : T (each (λ i. not (missed_at (clause i))) p.size.c) → T (each (λ m. met_at j x t m (value (v m))) p.size.n)
      forth all = each_i _ p.size.n (λ m l. is_true _ (each_i _ p.size.c (λ i h. none m i h (missed j x t m (value (v m)) (clause i)) refl)))
        where
          none : (m i : ℕ) → i < p.size.c → (b : Bool) → missed j x t m (value (v m)) (clause i) ≡ b → not b ≡ true
          none m i l false q = refl
          none m i l true q =
              let asked : T (asks j Expectation x t m (clause i)) = and_left (asks j Expectation x t m (clause i)) (not (has (value (v m)) (bit (clause i).value))) (of_true _ q) in
              let there : (clause i).node ≡ m = asks_node j {x = x} (record { below = l; there = asked }) in
              both_ways (subst (λ d. missed j x t d (value (v d)) (clause i) ≡ true) (sym there) q) (not-true _ (each_e _ p.size.c all i l))

      back : T (each (λ m. met_at j x t m (value (v m))) p.size.n) → T (each (λ i. not (missed_at (clause i))) p.size.c)
      back all = each_i _ p.size.c (λ i l. each_e _ p.size.c (of_true _ (each_e _ p.size.n all (clause i).node (p.decoded.clause i l).node)) i l)
