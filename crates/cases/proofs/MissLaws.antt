-- Misses: what the clauses of a time that a row misses want of its nodes, and the lowest node that misses one.
-- Assumes nothing.
use Rattle.std.proofs.Common.{◌≡◌, refl, sym, ◌∙◌, ap, Option, None, Some, Bool, true, false, not, ◌&&◌, ◌||◌, cond, eqb, ℕ, zero, suc, ◌<◌, ◌≤◌, List, [], ◌∷◌, ◌++◌, MatchOption, arith}
use mathlib.Core.Bool.{beq, and-true, and-false, or-false}
use native.Mathlib.Decide.{ℕ_discrete, dec_lt}
use borrow.Author.Tests.{lt-ltb, le-ltb, eq-eqb, ne_eqb}
use Rattle.std.specs.List.{fold}
use Rattle.std.specs.Ordering.{ord_min, is_lt, nat_cmp, bool_cmp, ordering_then}
use Rattle.std.proofs.lemmas.List.Sums.{fold-append}
use Rattle.scans.specs.First.{first_bad, each}
use Rattle.scans.proofs.Bools.{both_ways}
use Rattle.scans.proofs.Search.{none_some, each_suc, each_clear, at_stopped, first_bad_same}
use Rattle.meaning.specs.declared.Clause.{Clause}
use Rattle.meaning.specs.declared.Side.TheVariants.{Expectation}
use Rattle.meaning.specs.Values.{Cell, has, bit}
use Rattle.meaning.specs.Jobs.{Job, on}
use Rattle.meaning.specs.Cases.{missed, met_at, wanted_at}
use Rattle.meaning.proofs.Clauses.{asks_off}
use Rattle.decoded.specs.declared.Plan.{Plan}
use Rattle.decoded.specs.Plans.{clause_of}
use Rattle.decoded.specs.Walks.{timed}
use Rattle.decoded.specs.Meant.{job_in}
use Rattle.cases.specs.Runs.{counts, misses, lowest_missed}
use Rattle.cases.proofs.WalkLaws.{timed_fold, counts_on}

each_none : (f : ℕ → Bool) → each f 0 ≡ true
unfolding each first_bad
each_none f = refl

each_same : (f g : ℕ → Bool) (n : ℕ) → ((i : ℕ) → f i ≡ g i) → each f n ≡ each g n
unfolding each
each_same f g n h = rw (first_bad_same f g n (λ i l. h i))

each_both : (f g : ℕ → Bool) (n : ℕ) → each (λ i. f i && g i) n ≡ (each f n && each g n)
each_both f g zero = each_none _ ∙ rw (each_none f, each_none g)
each_both f g (suc n) = each_suc (λ i. f i && g i) n ∙ rw (each_both f g n, each_suc f n, each_suc g n) (go (each f n) (f n))
  where
    go : (a b : Bool) → ((a && each g n) && (b && g n)) ≡ ((a && b) && (each g n && g n))
    go true true = refl
    go true false = and-false (each g n)
    go false b = refl

-- one of these clauses is missed at node m, and wants v there
abbrev pub missed_by : Job → ℕ → (ℕ → Cell) → ℕ → Bool → Bool → Clause → Bool
missed_by j x row m v so_far k = so_far || (misses j x row k && (eqb k.node m && beq k.value v))

abbrev pub missed_in : Job → ℕ → (ℕ → Cell) → List Clause → ℕ → Bool → Bool
missed_in j x row ks m v = fold (missed_by j x row m v) false ks

-- one clause more
module _ (j : Job) (x : ℕ) (row : ℕ → Cell) (ks : List Clause) (k : Clause) (m : ℕ) (v : Bool) where
  pub missed_more : misses j x row k ≡ true → missed_in j x row (ks ++ k ∷ []) m v ≡ (missed_in j x row ks m v || (eqb k.node m && beq k.value v))
  missed_more e = fold-append (missed_by j x row m v) false ks (k ∷ []) ∙ rw e

  pub missed_past : misses j x row k ≡ false → missed_in j x row (ks ++ k ∷ []) m v ≡ missed_in j x row ks m v
  missed_past e = fold-append (missed_by j x row m v) false ks (k ∷ []) ∙ rw e (or-false (missed_in j x row ks m v))

-- the lowest node at which something is wanted, and the lower of what is wanted there
pub record LowestAt (n : ℕ) (wants : ℕ → Bool → Bool) (m : ℕ) (v : Bool) : Type 0 where
  pub in_row : m < n
  pub here : wants m v ≡ true
  pub before : (m' : ℕ) (w : Bool) → m' < m → wants m' w ≡ false
  pub zero : v ≡ true → wants m false ≡ false

pub record Lowest (n : ℕ) (wants : ℕ → Bool → Bool) (r : Option (ℕ × Bool)) : Type 0 where
  pub none : r ≡ None → (m : ℕ) (v : Bool) → wants m v ≡ false
  pub some : (p : ℕ × Bool) → r ≡ Some p → LowestAt n wants p.0 p.1

lowest_at : (n : ℕ) (wants : ℕ → Bool → Bool) (p : ℕ × Bool) → LowestAt n wants p.0 p.1 → Lowest n wants (Some p)
lowest_at n wants p l = record { none = λ e. none_some (sym e); some = λ q e. let same : p ≡ q = cc in rw same at l }

-- the lower of what was found and a miss more
abbrev pub lower : Option (ℕ × Bool) → ℕ × Bool → ℕ × Bool
lower None here = here
lower (Some lowest) here = ord_min (λ (x : ℕ × Bool) (y : ℕ × Bool). ordering_then (nat_cmp x.0 y.0) (bool_cmp x.1 y.1)) lowest here

module _ (m : ℕ) (v : Bool) (i : ℕ) (w : Bool) where
  lower_before : i < m → lower (Some (m, v)) (i, w) ≡ (i, w)
  lower_before h = rw (lt-ltb i m h)

  lower_after : m < i → lower (Some (m, v)) (i, w) ≡ (m, v)
  lower_after h = rw (le-ltb i m (omega arith), ne_eqb i m (omega arith))

  lower_same : i ≡ m → lower (Some (m, v)) (i, w) ≡ (m, v && w)
  lower_same e = rw (e, le-ltb m m (omega arith), eq-eqb m m refl) (go v w)
    where
      go : (v w : Bool) → ◌≡◌ {A = ℕ × Bool} (cond (is_lt (bool_cmp w v)) (m, w) (m, v)) (m, v && w)
      go true true = refl
      go true false = refl
      go false true = refl
      go false false = refl

module _ {n : ℕ} {wants more : ℕ → Bool → Bool} {r : Option (ℕ × Bool)} (l : Lowest n wants r) where
  -- nothing more is wanted
  pub lowest_stays : ((m : ℕ) (v : Bool) → more m v ≡ wants m v) → Lowest n more r
  lowest_stays same =
      record {
        none = λ e m v. same m v ∙ l.none e m v;
        some = λ p e. let o = l.some p e in record { in_row = o.in_row; here = same p.0 p.1 ∙ o.here; before = λ m w h. same m w ∙ o.before m w h; zero = λ q. same p.0 false ∙ o.zero q };
      }

module _ {n : ℕ} (wants more : ℕ → Bool → Bool) (i : ℕ) (w : Bool) (h : i < n) (same : (m : ℕ) (v : Bool) → more m v ≡ (wants m v || (eqb i m && beq w v))) where
  more_here : more i w ≡ true
  more_here = same i w ∙ rw (eq-eqb i i refl) (go (wants i w) w)
    where
      go : (b w : Bool) → (b || beq w w) ≡ true
      go true w = refl
      go false true = refl
      go false false = refl

  more_past : (m : ℕ) (v : Bool) → (i ≡ m → ⊥) → more m v ≡ wants m v
  more_past m v d = same m v ∙ rw (ne_eqb i m d) (or-false (wants m v))

  more_zero : w ≡ true → wants i false ≡ false → more i false ≡ false
  more_zero e q = same i false ∙ rw (q, eq-eqb i i refl, e)

  first_more : ((m : ℕ) (v : Bool) → m < i → wants m v ≡ false) → (w ≡ true → wants i false ≡ false) → LowestAt n more i w
  first_more before low = record { in_row = h; here = more_here; before = λ m v g. more_past m v (omega arith) ∙ before m v g; zero = λ e. more_zero e (low e) }

  -- at the node that was found
  same_more : (v : Bool) → LowestAt n wants i v → LowestAt n more i (v && w)
  same_more v o = record { in_row = h; here = here v w refl o.here; before = λ m u g. more_past m u (omega arith) ∙ o.before m u g; zero = low v w refl o.zero }
    where
      here : (v u : Bool) → u ≡ w → wants i v ≡ true → more i (v && u) ≡ true
      here true u e q = rw e more_here
      here false u e q = same i false ∙ rw q

      low : (v u : Bool) → u ≡ w → (v ≡ true → wants i false ≡ false) → v && u ≡ true → more i false ≡ false
      low true true e z q = more_zero (sym e) (z refl)
      low true false e z q = both_ways q refl
      low false u e z q = both_ways q refl

  -- one wish more
  pub lowest_more : (r : Option (ℕ × Bool)) → Lowest n wants r → Lowest n more (Some (lower r (i, w)))
  lowest_more None l = lowest_at n more (i, w) (first_more (λ m v g. l.none refl m v) (λ e. l.none refl i false))
  lowest_more (Some p) l = go (l.some p refl) (dec_lt i p.0) (dec_lt p.0 i)
    where
      go : LowestAt n wants p.0 p.1 → Dec (i < p.0) → Dec (p.0 < i) → Lowest n more (Some (lower (Some p) (i, w)))
      go o (yes b) d = rw (lower_before p.0 p.1 i w b) (lowest_at n more (i, w) (first_more (λ m v g. o.before m v (omega arith)) (λ e. o.before i false b)))
      go o (no b) (yes a) =
          rw (lower_after p.0 p.1 i w a)
          (lowest_at n more p (record { in_row = o.in_row; here = more_past p.0 p.1 (omega arith) ∙ o.here; before = λ m v g. more_past m v (omega arith) ∙ o.before m v g; zero = λ e. more_past p.0 false (omega arith) ∙ o.zero e }))
      go o (no b) (no a) =
          let e : p.0 ≡ i = omega arith in
          rw (lower_same p.0 p.1 i w (sym e), e) (lowest_at n more (i, p.1 && w) (same_more p.1 (rw e at o)))

-- at its time, a clause is missed at a node where it is missed and is of that node
missed_on : (j : Job) (x t m : ℕ) (row : ℕ → Cell) (k : Clause) → on k t ≡ true → missed j x t m (row m) k ≡ (misses j x row k && eqb k.node m)
missed_on j x t m row k o = rw (← counts_on j x t m Expectation k o) (go (ℕ_discrete k.node m) (counts j x Expectation k))
  where
    go : Dec (k.node ≡ m) → (b : Bool) → ((b && eqb k.node m) && not (has (row m) (bit k.value))) ≡ ((b && not (has (row k.node) (bit k.value))) && eqb k.node m)
    go (yes e) true = rw (e, eq-eqb m m refl) (sym (and-true _))
    go (no d) true = rw (ne_eqb k.node m d) (sym (and-false _))
    go d false = refl

-- what the clauses of a time want is what is missed by all clauses
module _ (p : Plan) (x t m : ℕ) (row : ℕ → Cell) where
  abbrev j : Job
  j = job_in p

  -- clause k is not missed here, or does not want v
  abbrev unmissed : Bool → ℕ → Bool
  unmissed v k = not (missed j x t m (row m) (j.clause k) && beq (j.clause k).value v)

  missed_so_far : (v : Bool) (i : ℕ) → i ≤ p.size.c → each (unmissed v) i ≡ not (missed_in j x row (timed p.clauses i t) m v)
  missed_so_far v zero h = each_none _
  missed_so_far v (suc i) h =
      each_suc _ i
      ∙ rw (missed_so_far v i (omega arith), timed_fold p.clauses t (missed_by j x row m v) false i (omega (arith, p.decoded.clauses_long))) (go (on k t) refl (missed_in j x row (timed p.clauses i t) m v))
    where
      k : Clause
      k = clause_of p.clauses i

      joined : (w a b c : Bool) → (not w && not ((a && b) && c)) ≡ not (w || (a && (b && c)))
      joined true a b c = refl
      joined false true b c = refl
      joined false false b c = refl

      go : (b : Bool) → on k t ≡ b → (w : Bool) → (not w && not (missed j x t m (row m) k && beq k.value v)) ≡ not (cond b (missed_by j x row m v w k) w)
      go true o w = rw (missed_on j x t m row k o) (joined w (misses j x row k) (eqb k.node m) (beq k.value v))
      go false o w = rw (asks_off j Expectation x t m k o) (and-true (not w))

  abbrev wants : Bool → Bool
  wants v = missed_in j x row (timed p.clauses p.size.c t) m v

  met_is : met_at j x t m (row m) ≡ (not (wants false) && not (wants true))
  unfolding met_at
  met_is =
      each_same _ (λ i. unmissed false i && unmissed true i) p.size.c (λ i. go (missed j x t m (row m) (j.clause i)) (j.clause i).value)
      ∙ each_both (unmissed false) (unmissed true) p.size.c
      ∙ rw (missed_so_far false p.size.c (omega arith), missed_so_far true p.size.c (omega arith))
    where
      go : (a v : Bool) → not a ≡ (not (a && beq v false) && not (a && beq v true))
      go true true = refl
      go true false = refl
      go false v = refl

  wanted_is : wanted_at j x t m (row m) ≡ cond (wants false) 0 1
  unfolding wanted_at
  wanted_is = ap (λ b. cond b 1 0) (each_same _ (unmissed false) p.size.c (λ i. go (missed j x t m (row m) (j.clause i)) (j.clause i).value) ∙ missed_so_far false p.size.c (omega arith)) ∙ other (wants false)
    where
      go : (a v : Bool) → not (a && not v) ≡ not (a && beq v false)
      go true true = refl
      go true false = refl
      go false v = refl

      other : (b : Bool) → ◌≡◌ {A = ℕ} (cond (not b) 1 0) (cond b 0 1)
      other true = refl
      other false = refl

-- so the lowest that is missed is the lowest that misses the time's expectation
module _ (p : Plan) (x t : ℕ) (row : ℕ → Cell) where
  abbrev wanted : ℕ → Bool → Bool
  wanted = missed_in (job_in p) x row (timed p.clauses p.size.c t)

  pub lowest_is : (r : Option (ℕ × Bool)) → Lowest p.size.n wanted r
      → MatchOption r (lowest_missed (job_in p) x t row ≡ None) (λ q. (q.0 < p.size.n) × (lowest_missed (job_in p) x t row ≡ Some q.0) × (wanted_at (job_in p) x t q.0 (row q.0) ≡ cond q.1 1 0))
  lowest_is None l = each_clear _ p.size.n (λ m h. met_is p x t m row ∙ rw (l.none refl m false, l.none refl m true))
  lowest_is (Some q) l =
      let o : LowestAt p.size.n wanted q.0 q.1 = l.some q refl in (
        o.in_row,
        at_stopped _ p.size.n (record { below = o.in_row; fails = met_is p x t q.0 row ∙ fails q.1 o.here; before = λ k h. met_is p x t k row ∙ rw (o.before k false h, o.before k true h) }),
        wanted_is p x t q.0 row ∙ value q.1 o.here o.zero,
      )
    where
      fails : (v : Bool) → wanted q.0 v ≡ true → (not (wanted q.0 false) && not (wanted q.0 true)) ≡ false
      fails true e = rw e (and-false _)
      fails false e = rw e

      value : (v : Bool) → wanted q.0 v ≡ true → (v ≡ true → wanted q.0 false ≡ false) → ◌≡◌ {A = ℕ} (cond (wanted q.0 false) 0 1) (cond v 1 0)
      value true e z = rw (z refl)
      value false e z = rw e
