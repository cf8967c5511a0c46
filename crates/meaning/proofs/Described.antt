-- A case's answer described by its rows, with no search: the answer of 01 fits its description, and nothing else does.
-- So whoever shows that an answer fits, a program above all, has shown that it is the answer.
-- Assumes nothing.
use Rattle.std.specs.Prelude.{Option, None, Some}
use mathlib.Core.Path.{◌≡◌, refl, sym, ◌∙◌, ap₂}
use mathlib.Core.Logic.{inl, inr, ◌↔◌}
use mathlib.Core.Bool.{Bool, true, false, not, ◌&&◌, cond}
use Prim.Native.Nat.{ℕ, suc, ◌≤◌, ◌<◌}
use native.Mathlib.Decide.{dec_lt}
use native.Mathlib.Omega.{arith}
use borrow.Author.Tests.{not-true, not-false}
use lib.Dec.{T, T_not}
use Rattle.scans.specs.First.{each, first_place, FirstPlace}
use Rattle.scans.proofs.Bools.{is_true, of_true, is_false, and_left, and_right, and_both}
use Rattle.scans.proofs.Search.{each_e, each_not}
use Rattle.scans.proofs.Places.{nowhere_each, found_at}
use Rattle.meaning.specs.declared.CaseAnswer.{CaseAnswer}
use Rattle.meaning.specs.declared.CaseAnswer.TheVariants.{Passes, Empty, Fails}
use Rattle.meaning.specs.Values.{Cell, collides, has, bit, cell_number}
use Rattle.meaning.specs.declared.Side.TheVariants.{Expectation}
use Rattle.meaning.specs.Jobs.{Job, asks, Asks, last_time}
use Rattle.meaning.specs.Rows.{cell}
use Rattle.meaning.specs.Demands.{Before}
use Rattle.meaning.specs.Cases.{missed, met_at, wanted_at, answer_at, first_collision, first_miss, answer_of, case_answer}

abbrev pub In : Job → ℕ → ℕ → Type 0
In j t n = (t ≤ last_time j) × (n < j.netlist.size)

abbrev pub NoCollision : Job → (ℕ → ℕ → Cell) → Type 0
NoCollision j rows = (t n : ℕ) → In j t n → T (not (collides (rows t n)))

-- clause i is an expectation that the row misses at node n and time t
pub record MissedAt (j : Job) (x : ℕ) (rows : ℕ → ℕ → Cell) (t n i : ℕ) : Type 0 where
  pub asks : Asks j Expectation x t n i
  pub differs : T (not (has (rows t n) (bit (j.clause i).value)))

pub record EmptyAt (j : Job) (rows : ℕ → ℕ → Cell) (t n : ℕ) : Type 0 where
  pub place : In j t n
  pub here : T (collides (rows t n))
  pub before : (t' n' : ℕ) → In j t' n' → Before t' n' t n → T (not (collides (rows t' n')))

pub record FailsAt (j : Job) (x : ℕ) (rows : ℕ → ℕ → Cell) (t n wanted found : ℕ) : Type 0 where
  pub free : NoCollision j rows
  pub place : In j t n
  pub here : (i : ℕ) × MissedAt j x rows t n i
  pub before : (t' n' : ℕ) → In j t' n' → Before t' n' t n → (i : ℕ) → ¬ (MissedAt j x rows t' n' i)
  pub found_is : found ≡ cell_number (rows t n)
  pub wanted_0 : (wanted ≡ 0) ↔ ((i : ℕ) × MissedAt j x rows t n i × ((j.clause i).value ≡ false))
  pub wanted_1 : wanted ≤ 1

pub record PassesAll (j : Job) (x : ℕ) (rows : ℕ → ℕ → Cell) : Type 0 where
  pub free : NoCollision j rows
  pub clean : (t n : ℕ) → In j t n → (i : ℕ) → ¬ (MissedAt j x rows t n i)

abbrev pub Describes : Job → ℕ → (ℕ → ℕ → Cell) → CaseAnswer → Type 0
Describes j x rows Passes = PassesAll j x rows
Describes j x rows (Empty t n) = EmptyAt j rows t n
Describes j x rows (Fails t n w f) = FailsAt j x rows t n w f

module _ (j : Job) (x : ℕ) (rows : ℕ → ℕ → Cell) where
  abbrev miss : ℕ → ℕ → ℕ → Bool
  miss t n i = missed j x t n (rows t n) (j.clause i)

  missed_e : (t n i : ℕ) → i < j.count → T (miss t n i) → MissedAt j x rows t n i
  missed_e t n i h m =
      let there : T (asks j Expectation x t n (j.clause i)) = and_left (asks j Expectation x t n (j.clause i)) _ m in
      record { asks = record { below = h; there = there }; differs = and_right (asks j Expectation x t n (j.clause i)) _ m }

  missed_i : {t n i : ℕ} → MissedAt j x rows t n i → T (miss t n i)
  missed_i {t} {n} {i} m = and_both (asks j Expectation x t n (j.clause i)) (not (has (rows t n) (bit (j.clause i).value))) m.asks.there m.differs

  -- met at a place: no clause is missed there
  met_e : (t n : ℕ) → met_at j x t n (rows t n) ≡ true → (i : ℕ) → ¬ (MissedAt j x rows t n i)
  unfolding met_at
  met_e t n e i m = T_not (miss t n i) (of_true _ (each_e (λ i. not (miss t n i)) j.count (of_true _ e) i m.asks.below)) (missed_i m)

  unmet_e : (t n : ℕ) → met_at j x t n (rows t n) ≡ false → (i : ℕ) × MissedAt j x rows t n i
  unfolding met_at
  unmet_e t n e =
      let f = each_not (λ i. not (miss t n i)) j.count e in
      (f.0, missed_e t n f.0 f.1.below (of_true (miss t n f.0) (not-false (miss t n f.0) f.1.fails)))

  abbrev wants0 : ℕ → ℕ → ℕ → Bool
  wants0 t n i = miss t n i && not (j.clause i).value

  -- wanted is 0 exactly when a missed clause there wants 0
  pub wanted_0 : (t n : ℕ) → (wanted_at j x t n (rows t n) ≡ 0) ↔ ((i : ℕ) × MissedAt j x rows t n i × ((j.clause i).value ≡ false))
  unfolding wanted_at
  wanted_0 t n = (to (each (λ i. not (wants0 t n i)) j.count) refl, from)
    where
      to : (b : Bool) → each (λ i. not (wants0 t n i)) j.count ≡ b → ◌≡◌ {A = ℕ} (cond b 1 0) 0 → (i : ℕ) × MissedAt j x rows t n i × ((j.clause i).value ≡ false)
      to true e z = absurd (omega arith)
      to false e z =
          let f = each_not (λ i. not (wants0 t n i)) j.count e in
          let i = f.0 in
          let u : T (wants0 t n i) = of_true (wants0 t n i) (not-false (wants0 t n i) f.1.fails) in
          (i, missed_e t n i f.1.below (and_left (miss t n i) _ u), not-true _ (is_true _ (and_right (miss t n i) _ u)))

      from : ((i : ℕ) × MissedAt j x rows t n i × ((j.clause i).value ≡ false)) → ◌≡◌ {A = ℕ} (cond (each (λ i. not (wants0 t n i)) j.count) 1 0) 0
      from (i, m, v) =
          let zero_wanted : T (wants0 t n i) = and_both (miss t n i) (not (j.clause i).value) (missed_i m) (rw v tt) in
          let some : each (λ i. not (wants0 t n i)) j.count ≡ false =
          is_false _ (λ e. T_not (wants0 t n i) (of_true _ (each_e (λ i. not (wants0 t n i)) j.count e i m.asks.below)) zero_wanted) in
          rw some

  pub wanted_1 : (t n : ℕ) → wanted_at j x t n (rows t n) ≤ 1
  unfolding wanted_at
  wanted_1 t n = go (each (λ i. not (wants0 t n i)) j.count)
    where
      go : (b : Bool) → cond b 1 0 ≤ 1
      go true = omega arith
      go false = omega arith

  -- what a search over a test finds, in a job's places
  module _ (f : ℕ → ℕ → Bool) where
    nowhere : first_place f (suc (last_time j)) j.netlist.size ≡ None → (t n : ℕ) → In j t n → f t n ≡ true
    nowhere e t n h = nowhere_each f (suc (last_time j)) j.netlist.size e t n (omega arith) h.1

    sooner : {t n : ℕ} → FirstPlace f (suc (last_time j)) j.netlist.size t n → (t' n' : ℕ) → In j t' n' → Before t' n' t n → f t' n' ≡ true
    sooner p t' n' h (inl l) = p.earlier t' n' l h.1
    sooner p t' n' h (inr (e, l)) = rw e (p.lower n' l)

  -- the answer that rows give fits its description
  pub described : Describes j x rows (answer_of j x rows)
  unfolding answer_of
  described = go (first_collision j rows) refl (first_miss j x rows) refl
    where
      clear : ℕ → ℕ → Bool
      clear t n = not (collides (rows t n))

      met : ℕ → ℕ → Bool
      met t n = met_at j x t n (rows t n)

      free : first_collision j rows ≡ None → NoCollision j rows
      free e t n h = of_true (clear t n) (nowhere clear e t n h)

      go : (a : Option (ℕ × ℕ)) → first_collision j rows ≡ a → (b : Option (ℕ × ℕ)) → first_miss j x rows ≡ b → Describes j x rows (answer_at j x rows a b)
      go (Some (t, n)) p b q =
          let f = found_at clear (suc (last_time j)) j.netlist.size p in
          record { place = (omega arith, f.in_row); here = of_true (collides (rows t n)) (not-false (collides (rows t n)) f.fails); before = λ t' n' h l. of_true (clear t' n') (sooner clear f t' n' h l) }
      go None p (Some (t, n)) q =
          let f = found_at met (suc (last_time j)) j.netlist.size q in
          record {
            free = free p;
            place = (omega arith, f.in_row);
            here = unmet_e t n f.fails;
            before = λ t' n' h l. met_e t' n' (sooner met f t' n' h l);
            found_is = refl;
            wanted_0 = wanted_0 t n;
            wanted_1 = wanted_1 t n;
          }
      go None p None q = record { free = free p; clean = λ t n h. met_e t n (nowhere met q t n h) }

-- of two places one comes first, or they are one
data Order (t n t' n' : ℕ) : Type 0 where
  less : Before t n t' n' → Order t n t' n'
  same : t ≡ t' → n ≡ n' → Order t n t' n'
  more : Before t' n' t n → Order t n t' n'

order : (t n t' n' : ℕ) → Order t n t' n'
order t n t' n' = go (dec_lt t t') (dec_lt t' t) (dec_lt n n') (dec_lt n' n)
  where
    go : Dec (t < t') → Dec (t' < t) → Dec (n < n') → Dec (n' < n) → Order t n t' n'
    go (yes a) b c d = less (inl a)
    go (no a) (yes b) c d = more (inl b)
    go (no a) (no b) (yes c) d = less (inr (omega arith, c))
    go (no a) (no b) (no c) (yes d) = more (inr (omega arith, d))
    go (no a) (no b) (no c) (no d) = same (omega arith) (omega arith)

-- two numbers that are 0 or 1, and 0 together
bits_same : (v w : ℕ) → v ≤ 1 → w ≤ 1 → (v ≡ 0 → w ≡ 0) → (w ≡ 0 → v ≡ 0) → v ≡ w
bits_same v w hv hw f g = go (dec_lt v 1) (dec_lt w 1)
  where
    go : Dec (v < 1) → Dec (w < 1) → v ≡ w
    go (yes a) b = let z : v ≡ 0 = omega arith in omega (arith, f z)
    go (no a) (yes b) = let z : w ≡ 0 = omega arith in omega (arith, g z)
    go (no a) (no b) = omega arith

module _ (j : Job) (x : ℕ) (rows : ℕ → ℕ → Cell) where
  same_fails : {t n t' n' w w' f f' : ℕ} → t ≡ t' → n ≡ n' → FailsAt j x rows t n w f → FailsAt j x rows t' n' w' f' → Fails t n w f ≡ Fails t' n' w' f'
  same_fails {t} {n} {t'} {n'} {w} {w'} {f} {f'} p q a b =
      let c : FailsAt j x rows t n w' f' = rw (← p, ← q) at b in
      let v : w ≡ w' = bits_same w w' a.wanted_1 c.wanted_1 (λ z. c.wanted_0.1 (a.wanted_0.0 z)) (λ z. a.wanted_0.1 (c.wanted_0.0 z)) in
      let u : f ≡ f' = a.found_is ∙ sym c.found_is in
      cc

  pub unique : (a b : CaseAnswer) → Describes j x rows a → Describes j x rows b → a ≡ b
  unique Passes Passes p q = refl
  unique Passes (Empty t n) p q = absurd (T_not (collides (rows t n)) (p.free t n q.place) q.here)
  unique Passes (Fails t n w f) p q = absurd (p.clean t n q.place q.here.0 q.here.1)
  unique (Empty t n) Passes p q = absurd (T_not (collides (rows t n)) (q.free t n p.place) p.here)
  unique (Empty t n) (Empty t' n') p q = go (order t n t' n')
    where
      go : Order t n t' n' → Empty t n ≡ Empty t' n'
      go (less h) = absurd (T_not (collides (rows t n)) (q.before t n p.place h) p.here)
      go (same e f) = ap₂ Empty e f
      go (more h) = absurd (T_not (collides (rows t' n')) (p.before t' n' q.place h) q.here)
  unique (Empty t n) (Fails t' n' w f) p q = absurd (T_not (collides (rows t n)) (q.free t n p.place) p.here)
  unique (Fails t n w f) Passes p q = absurd (q.clean t n p.place p.here.0 p.here.1)
  unique (Fails t n w f) (Empty t' n') p q = absurd (T_not (collides (rows t' n')) (p.free t' n' q.place) q.here)
  unique (Fails t n w f) (Fails t' n' w' f') p q = go (order t n t' n')
    where
      go : Order t n t' n' → Fails t n w f ≡ Fails t' n' w' f'
      go (less h) = absurd (q.before t n p.place h p.here.0 p.here.1)
      go (same e g) = same_fails e g p q
      go (more h) = absurd (p.before t' n' q.place h q.here.0 q.here.1)

-- the answer of a case is the one that fits
pub answer_is : (j : Job) (x : ℕ) {a : CaseAnswer} → Describes j x (cell j x) a → a ≡ case_answer j x
unfolding case_answer
answer_is j x {a} d = unique j x (cell j x) a (answer_of j x (cell j x)) d (described j x (cell j x))
