-- All times of sixty-four cases, one after another.
-- Assumes nothing.
use Rattle.std.proofs.Common.{◌≡◌, refl, sym, ◌∙◌, ap, subst, Bool, true, false, not, ◌&&◌, ◌||◌, ℕ, suc, ◌+◌, ◌*◌, ◌≤◌, ◌<◌, List, replicate, bit_or, arith, T}
use Rattle.std.proofs.Math.ListN.{get_or-replicate}
use native.Mathlib.Decide.{dec_lt}
use Rattle.scans.specs.First.{first_bad, each}
use Rattle.scans.proofs.Bools.{is_true, of_true, same_test, left_true, right_true}
use Rattle.scans.proofs.Search.{each_e, each_i, each_suc}
use Rattle.meaning.specs.declared.Side.TheVariants.{Expectation}
use Rattle.meaning.specs.Jobs.{until, Job, asks, last_time, WellFormed}
use Rattle.meaning.specs.Rows.{forced, row_clear}
use Rattle.meaning.specs.Cases.{met_at}
use Rattle.meaning.proofs.Clauses.{latest_le, place_time}
use Rattle.meaning.proofs.Weakest.{FreeTo}
use Rattle.meaning.proofs.Rows.{free_on}
use Rattle.words.specs.declared.Pair.{Pair}
use Rattle.words.proofs.Bits.{bit_zero, bit_or_lem}
use Rattle.decoded.specs.declared.Plan.{Plan}
use Rattle.decoded.specs.Plans.{clause_of}
use Rattle.decoded.specs.Meant.{job_in}
use Rattle.groups.specs.declared.times.Told.{Told}
use Rattle.groups.specs.Turns.{row_met, Alive, Turns, Ran}
use Rattle.groups.proofs.SteadyLaws.{unknown, unknown_at}
use Rattle.groups.proofs.TurnLaws.{formed}

-- a plan's times fit the walks
pub last_below : (p : Plan) → p.last < 256
unfolding until
last_below p = omega (arith, p.last_is, latest_le (clause_of p.clauses) p.size.c {b = 255} (λ i l. omega (arith, (p.decoded.clause i l).time)))

-- what a bit says of all times before, or-ed with what it says of the time after
or_more : (all now : Bool) {a b : Bool} → a ≡ not all → (all ≡ true → b ≡ not now) → (a || b) ≡ not (all && now)
or_more true now e f = rw (e, f refl)
or_more false now e f = rw e

module _ (j : Job) (g : ℕ) where
  -- the times before t are done, and the row is that of time t wherever nothing has collided
  pub record Running (t : ℕ) (row : List Pair) (r : Told) : Type 0 where
    pub ran : Ran j g t r
    pub alive : (i : ℕ) → i < 64 → each (row_clear j (64 * g + i)) t ≡ true → Alive j (64 * g + i) t row i

  pub running_none : j.netlist.size ≤ 1008 → Running 0 (replicate 1008 unknown) (record { collided = 0; missed = 0 })
  unfolding first_bad each forced
  running_none few =
      record {
        ran = record { collided = λ i l. bit_zero i; missed = λ i l q. bit_zero i };
        alive = λ i l q. record {
          held = record { at = λ m h. rw (get_or-replicate {A = Pair} 1008 m unknown (record { zeros = 0; ones = 0 }) (omega arith)) (unknown_at i l) };
          free = is_true _ (each_i _ j.netlist.size (λ m h. refl));
        };
      }

  abbrev with : Told → Told → Told
  with r now = record { collided = bit_or r.collided now.collided; missed = bit_or r.missed now.missed }

  running_more : {t : ℕ} {row row' : List Pair} {r now : Told} → Running t row r → Turns j g t row row' now → Running (suc t) row' (with r now)
  running_more {t} {r = r} {now} s u =
      record {
        ran = record {
          collided = λ i l. bit_or_lem r.collided now.collided i
              ∙ or_more (each (row_clear j (64 * g + i)) t) (row_clear j (64 * g + i) t) (s.ran.collided i l) (λ q. u.collided i l (s.alive i l q))
              ∙ ap not (sym (each_suc (row_clear j (64 * g + i)) t));
          missed = λ i l q. bit_or_lem r.missed now.missed i
              ∙ or_more (each (row_met j (64 * g + i)) t) (row_met j (64 * g + i) t) (s.ran.missed i l (before i q)) (λ _. u.missed i l (s.alive i l (before i q)) (here i q))
              ∙ ap not (sym (each_suc (row_met j (64 * g + i)) t));
        };
        alive = λ i l q. u.next i l (s.alive i l (before i q)) (here i q);
      }
    where
      before : (i : ℕ) → each (row_clear j (64 * g + i)) (suc t) ≡ true → each (row_clear j (64 * g + i)) t ≡ true
      before i q = left_true _ (row_clear j (64 * g + i) t) (sym (each_suc (row_clear j (64 * g + i)) t) ∙ q)

      here : (i : ℕ) → each (row_clear j (64 * g + i)) (suc t) ≡ true → row_clear j (64 * g + i) t ≡ true
      here i q = right_true (each (row_clear j (64 * g + i)) t) _ (sym (each_suc (row_clear j (64 * g + i)) t) ∙ q)

  pub running_two : {t : ℕ} {row next row' : List Pair} {r first second both told : Told} → Running t row r → Turns j g t row next first → Turns j g (t + 1) next row' second → both ≡ with r first → told ≡ with both second → Running (t + 2) row' told
  running_two {t} {next = next} {row'} {second = second} s u v e f =
      let one : t + 1 ≡ suc t = omega arith in
      let two : t + 2 ≡ suc (suc t) = omega arith in
      rw (f, e, two) (running_more (running_more s u) (subst (λ t. Turns j g t next row' second) one v))

-- past the last time nothing collides that had not, and nothing is expected
module _ (j : Job) (w : WellFormed j) (x end : ℕ) (h : last_time j < end) where
  clear_past : each (row_clear j x) end ≡ each (row_clear j x) (suc (last_time j))
  unfolding row_clear
  clear_past =
      same_test _ _
      (λ all. each_i _ (suc (last_time j)) (λ t l. each_e _ end all t (omega arith)))
      (λ all. let free : FreeTo j x end = free_on j w x (λ t n l k. of_true _ (each_e _ j.netlist.size (of_true _ (each_e (row_clear j x) (suc (last_time j)) all t (omega arith))) n k)) end in
      each_i _ end (λ t l. is_true _ (each_i _ j.netlist.size (λ n k. is_true _ (free t n (omega arith) k)))))

  met_past : each (row_met j x) end ≡ each (row_met j x) (suc (last_time j))
  unfolding met_at
  met_past =
      same_test _ _
      (λ all. each_i _ (suc (last_time j)) (λ t l. each_e _ end all t (omega arith)))
      (λ all. each_i _ end (λ t l. go all t (dec_lt (last_time j) t)))
    where
      quiet : (t n i : ℕ) → last_time j < t → i < j.count → (b r : Bool) → asks j Expectation x t n (j.clause i) ≡ b → not (b && r) ≡ true
      quiet t n i l k true r e = absurd (omega (arith, place_time j {side = Expectation} {x = x} {t = t} {n = n} {i = i} (record { below = k; there = of_true _ e })))
      quiet t n i l k false r e = refl

      go : T (each (row_met j x) (suc (last_time j))) → (t : ℕ) → Dec (last_time j < t) → row_met j x t ≡ true
      go all t (no l) = each_e _ (suc (last_time j)) all t (omega arith)
      go all t (yes l) = is_true _ (each_i _ j.netlist.size (λ n k. is_true _ (each_i _ j.count (λ i d. quiet t n i l d (asks j Expectation x t n (j.clause i)) _ refl))))

-- so times past the last one change nothing
pub ran_past : (p : Plan) (g end : ℕ) {r : Told} → p.last < end → Ran (job_in p) g end r → Ran (job_in p) g (suc (last_time (job_in p))) r
unfolding last_time
ran_past p g end h ran =
    record {
      collided = λ i l. ran.collided i l ∙ ap not (clear_past (job_in p) (formed p) (64 * g + i) end past);
      missed = λ i l q. ran.missed i l (clear_past (job_in p) (formed p) (64 * g + i) end past ∙ q) ∙ ap not (met_past (job_in p) (formed p) (64 * g + i) end past);
    }
  where
    past : last_time (job_in p) < end
    past = omega (arith, p.last_is)
