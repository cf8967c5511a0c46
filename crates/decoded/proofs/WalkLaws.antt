-- A walk over the clauses of one time: what is left from a clause on is that clause, and what is left from the next one on.
-- Assumes nothing.
use Rattle.std.proofs.Common.{◌≡◌, refl, sym, ◌∙◌, ap, subst, true, false, ℕ, suc, ◌≤◌, ◌<◌, List, [], ◌∷◌, ◌++◌, length, append-nil, drop, take, slice_index_or, All, Contains, arith}
use Rattle.std.proofs.lemmas.List.Elements.{All-from_get_or, All-filter, All-contains, filter_passes, Contains-append_right}
use Rattle.std.proofs.lemmas.List.{get_or-take, length-take-le}
use Rattle.std.proofs.Math.Seq.{drop-cons, append_snoc}
use lib.ListN.{drop_of_length-le}
use borrow.Author.Tests.{eqb-true}
use native.Mathlib.Decide.{dec_lt}
use Rattle.meaning.specs.declared.Clause.{Clause}
use Rattle.meaning.specs.Jobs.{on}
use Rattle.decoded.specs.declared.Plan.{Plan}
use Rattle.decoded.specs.declared.walk.ClausesAt.{ClausesAt}
use Rattle.decoded.specs.Plans.{no_clause, clause_of, ClauseWithin}
use Rattle.decoded.specs.Chains.{next_from, Chained}
use Rattle.decoded.specs.Walks.{timed, timed_from}
use Rattle.decoded.proofs.ChainLaws.{next_is, jump}

module _ (clauses : List Clause) (c t : ℕ) (long : c ≤ length clauses) where
  size : length (take c clauses) ≡ c
  size = length-take-le c clauses long

  here : (i : ℕ) → i < c → drop i (take c clauses) ≡ clause_of clauses i ∷ drop (suc i) (take c clauses)
  here i h = drop-cons (take c clauses) i no_clause (omega (arith, size)) ∙ ap (λ x. x ∷ drop (suc i) (take c clauses)) (get_or-take c clauses i no_clause h)

  -- a clause of the time comes first
  pub timed_here : (i : ℕ) → i < c → on (clause_of clauses i) t ≡ true → timed_from clauses c t i ≡ clause_of clauses i ∷ timed_from clauses c t (suc i)
  timed_here i h e = rw (here i h, e)

  -- another is passed over
  timed_past : (i : ℕ) → on (clause_of clauses i) t ≡ false → timed_from clauses c t (suc i) ≡ timed_from clauses c t i
  timed_past i e = go (dec_lt i c)
    where
      go : Dec (i < c) → timed_from clauses c t (suc i) ≡ timed_from clauses c t i
      go (yes h) = sym (rw (here i h, e))
      go (no h) = rw (drop_of_length-le (take c clauses) {i = suc i} (omega (arith, size)), drop_of_length-le (take c clauses) {i = i} (omega (arith, size)))

  -- so nothing is lost on the way to the next clause of the time
  pub timed_next : (i k : ℕ) → i ≤ c → k ≡ next_from (clause_of clauses) c t i → timed_from clauses c t k ≡ timed_from clauses c t i
  timed_next i k h e = rw e (jump (clause_of clauses) c (λ m. timed_from clauses c t m) t timed_past i _ (next_is (clause_of clauses) c t i h))

  pub on_next : (i k : ℕ) → i ≤ c → k ≡ next_from (clause_of clauses) c t i → k < c → on (clause_of clauses k) t ≡ true
  on_next i k h e = rw e (next_is (clause_of clauses) c t i h).here

  -- a clause of the time knows the next one
  pub next_after : {heads nexts : List ℕ} (i k : ℕ) → Chained (clause_of clauses) c 0 heads nexts → i < c → on (clause_of clauses i) t ≡ true → k ≡ slice_index_or nexts i 0 → k ≡ next_from (clause_of clauses) c t (suc i)
  unfolding on
  next_after i k chained h e q = q ∙ chained.next i (omega arith) h ∙ ap (λ u. next_from (clause_of clauses) c u (suc i)) (eqb-true _ _ e)

-- what a walk has left
abbrev pub left : ClausesAt → List Clause
left s = timed_from s.plan.now.clauses s.plan.now.size.c s.time s.next

-- a clause of time t, within a plan's limits
pub record Timely (p : Plan) (t : ℕ) (k : Clause) : Type 0 where
  pub within : ClauseWithin p.size.n p.size.e k
  pub time : k.time ≡ t

all_timely : (p : Plan) (t : ℕ) → All (Timely p t) (timed p.clauses p.size.c t)
unfolding on
all_timely p t =
    let long = length-take-le p.size.c p.clauses p.decoded.clauses_long in
    let all : All (ClauseWithin p.size.n p.size.e) (timed p.clauses p.size.c t) = All-filter (λ k. on k t) (ClauseWithin p.size.n p.size.e) (take p.size.c p.clauses)
    (All-from_get_or (ClauseWithin p.size.n p.size.e) (take p.size.c p.clauses) no_clause
    (λ i l. let h : i < p.size.c = omega (arith, long) in rw (get_or-take p.size.c p.clauses i no_clause h) (p.decoded.clause i h))) in
    λ i d l. record { within = all i d l; time = eqb-true (slice_index_or (timed p.clauses p.size.c t) i d).time t (filter_passes (λ k. on k t) (take p.size.c p.clauses) i d l) }

-- a walk over a plan's clauses of time t: those that it has come to, and those that are left
pub record Walking (p : Plan) (t : ℕ) (done rest : List Clause) : Type 0 where
  pub is : done ++ rest ≡ timed p.clauses p.size.c t

module _ {p : Plan} {t : ℕ} {done rest : List Clause} (w : Walking p t done rest) where
  pub walk_timely : {k : Clause} {rest' : List Clause} → rest ≡ k ∷ rest' → Timely p t k
  walk_timely {k} {rest'} e = All-contains (Timely p t) _ k (all_timely p t) (subst (λ l. Contains l k) (rw e at w.is) (Contains-append_right done (k ∷ rest') k (0, omega arith, refl)))

  pub walk_more : {k : Clause} {rest' : List Clause} → rest ≡ k ∷ rest' → Walking p t (done ++ k ∷ []) rest'
  walk_more {k} {rest'} e = record { is = append_snoc done k rest' ∙ (rw e at w.is) }

  pub walk_end : rest ≡ [] → done ≡ timed p.clauses p.size.c t
  walk_end e = sym (append-nil done) ∙ (rw e at w.is)
