-- A clause: `when`, a guard, a colon and the rest.
-- Assumes nothing.
use borrow.Author.Tests.{not-true, lt-ltb, le-leb, eqb-true, eq-eqb}
use mathlib.Core.Path.{◌≡◌, refl, sym, ◌∙◌, ap}
use mathlib.Core.Bool.{Bool, true, false, not, ◌&&◌}
use mathlib.Core.List.{List, [], ◌++◌}
use mathlib.Core.Option.{some}
use native.Mathlib.Omega.{arith}
use Prim.Native.Nat.{ℕ, ◌+◌, ◌*◌, ◌<◌}
use lib.Dec.{eqb}
use Rattle.scans.proofs.Bools.{both_ways, left_true, right_true}
use lib.ListN.{length}
use Rattle.grammar.specs.Items.{WHEN, Mark, NOT, OPEN, COLON, word, mark_byte, letters}
use Rattle.grammar.specs.Guards.{Guard}
use Rattle.grammar.specs.Records.{guard_place, clause_bytes}
use Rattle.grammar.specs.Points.{close, groups, clause_slots, listing, guarding, guarded, Point, step, finished}
use Rattle.grammar.specs.Bytewise.{ready, stops, reading}
use Rattle.phrases.specs.Places.{is_at, Stands, Skips, Broken, Spelt}
use Rattle.phrases.specs.GuardsRead.{in_phase, wanting, having, Over, GuardTo, GuardNone, records_in}
use Rattle.assertions.specs.ClausesRead.{awaiting, ToldTo, ToldNone}
use Rattle.assertions.specs.ListsRead.{count_of, ClauseAsked, ClauseTo, Kept, ClauseNone}
use Rattle.assertions.proofs.Keeping.{kept_same, kept_put}
use Rattle.grammar.proofs.Frames.{fresh_none}
use Rattle.phrases.proofs.Standing.{stands, stands_not}
use Rattle.phrases.proofs.Feeding.{run_past, run_mark, mark_goes}
use Rattle.phrases.proofs.OperandLaws.{no_opening}
use Rattle.phrases.proofs.FrameLaws.{having_over}
use Rattle.phrases.proofs.LevelLaws.{wanted, had, one_record}
use Rattle.phrases.proofs.Stopping.{touching_stops}
use Rattle.phrases.proofs.WordRuns.{word_goes, word_stops}

module _ (k n : ℕ) (text : List ℕ) (p : Point) (e : ℕ) where
  -- where a guard begins just after `when`
  touched_stops : {i q : ℕ} → Skips text i q → eqb q i && (not (is_at text q 33) && not (is_at text q 40)) ≡ true → reading k n text i (ready true) (in_phase p e (guarding [])) ≡ stops q
  unfolding finished
  touched_stops {i} {q} sk t =
      let same : q ≡ i = eqb-true q i (left_true (eqb q i) _ t) in
      let rest = right_true (eqb q i) _ t in
      let a : is_at text q 33 ≡ false = not-true _ (left_true (not (is_at text q 33)) _ rest) in
      let b : is_at text q 40 ≡ false = not-true _ (right_true (not (is_at text q 33)) _ rest) in
      rw (sym same) (touching_stops k n text (in_phase p e (guarding [])) q (λ _. refl) sk.ends (no_opening k n text p e [] (stands_not refl a) (stands_not refl b)))

  marked_same : {i : ℕ} (m : Mark) → Stands text i (mark_byte m) → reading k n text i (ready true) (in_phase p e (guarding [])) ≡ wanting k n text i p e []
  marked_same m s = run_mark k n text true (in_phase p e (guarding [])) m s ∙ sym (run_mark k n text false (in_phase p e (guarding [])) m s)

  untouched_goes : {i q : ℕ} → Skips text i q → eqb q i && (not (is_at text q 33) && not (is_at text q 40)) ≡ false → reading k n text i (ready true) (in_phase p e (guarding [])) ≡ wanting k n text q p e []
  untouched_goes {i} {q} sk t = run_past k n text true (in_phase p e (guarding [])) sk (λ same. opening same (is_at text q 33) (is_at text q 40) refl refl) refl
    where
      opening : q ≡ i → (a b : Bool) → is_at text q 33 ≡ a → is_at text q 40 ≡ b → reading k n text q (ready true) (in_phase p e (guarding [])) ≡ wanting k n text q p e []
      opening same true b x y = marked_same NOT (stands refl x)
      opening same false true x y = marked_same OPEN (stands refl y)
      opening same false false x y = both_ways refl (rw (eq-eqb q i same, x, y) at t)

  -- a colon after the guard
  colon_goes : {q : ℕ} (g : Guard) → Stands text q 58 → having k n text q p e [] g ≡ awaiting k n text (q + 1) (ready false) p e g (clause_slots n) []
  unfolding step close
  colon_goes g s = mark_goes k n text false (in_phase p e (guarded [] g)) COLON s refl

  colon_stops : {q : ℕ} (g : Guard) → Over 1 text q → ¬ Stands text q 58 → having k n text q p e [] g ≡ stops q
  unfolding close
  colon_stops g v f = having_over k n text p e [] g v (λ _. refl) (λ s. absurd (f s))

  -- `when`
  when_steps : {c : ℕ} → count_of p ≡ c → e < 504 → c < 504 → step k n (in_phase p e listing) (word WHEN) ≡ some (in_phase p e (guarding []))
  unfolding step
  when_steps same a b = rw (lt-ltb (count_of p) 504 (omega arith), le-leb (e + 1) 504 (omega arith))

-- the guard begins, and it ends
module _ (k n : ℕ) {i q : ℕ} {text : List ℕ} {t : Bool} (sk : Skips text i q) (t-is : t ≡ eqb q i && (not (is_at text q 33) && not (is_at text q 40))) (h : t ≡ false) (p : Point) where
  begun : (e : ℕ) → reading k n text i (ready true) (in_phase p e (guarding [])) ≡ wanting k n text q p (e + 0) []
  begun e = untouched_goes k n text p e sk (sym t-is ∙ h) ∙ wanted k n text q p [] (omega arith)

  passed : {es es' : List ℕ} {r : ℕ} (g : GuardTo 1 1 k 0 0 q text es es' r) → reading k n text i (ready true) (in_phase p (records_in es) (guarding [])) ≡ having k n text r p (records_in es') [] g.guard
  unfolding groups
  passed {es} {r = r} g = begun (records_in es) ∙ g.comes n p [] refl (fresh_none 1) ∙ had k n text r p [] (omega arith) g.guard

-- what stays in both lists
module _ {i : ℕ} {text es cs : List ℕ} (asked : ClauseAsked i text es cs) where
  expressions_kept : Kept es es
  expressions_kept = kept_same es (omega (arith, asked.room_e))

  clauses_kept : Kept cs cs
  clauses_kept = kept_same cs (omega (arith, asked.room_c))

guard_kept : {k i q : ℕ} {text es es' : List ℕ} → GuardTo 1 1 k 0 0 i text es es' q → Kept es es'
guard_kept {es = es} g = kept_put es _ g.put (omega (arith, g.few))

module _ {k n a i q : ℕ} {text es cs : List ℕ} {t : Bool} (asked : ClauseAsked a text es cs) (sk : Skips text i q) (t-is : t ≡ eqb q i && (not (is_at text q 33) && not (is_at text q 40))) where
  pub touched_none : t ≡ true → ClauseNone (guarding []) true k n i text es es cs cs q
  touched_none h = record { kept_e = expressions_kept asked; kept_c = clauses_kept asked; comes = λ p _. touched_stops k n text p (records_in es) sk (sym t-is ∙ h) }

  module _ (h : t ≡ false) where
    pub guard_none : {es' : List ℕ} {j : ℕ} → Kept es es' → GuardNone 1 k 0 0 q text es j → ClauseNone (guarding []) true k n i text es es' cs cs j
    unfolding groups
    guard_none kept g = record { kept_e = kept; kept_c = clauses_kept asked; comes = λ p _. begun k n sk t-is h p (records_in es) ∙ g.comes n p [] refl (fresh_none 1) }

    module _ {es' : List ℕ} {r : ℕ} (g : GuardTo 1 1 k 0 0 q text es es' r) where
      pub colon_none : ¬ Stands text r 58 → ClauseNone (guarding []) true k n i text es es' cs cs r
      colon_none s = record { kept_e = guard_kept g; kept_c = clauses_kept asked; comes = λ p _. passed k n sk t-is h p g ∙ colon_stops k n text p (records_in es') g.guard g.over s }

      module _ (s : Stands text r 58) where
        pub rest_none : {j : ℕ} → ToldNone text false (clause_slots n) [] (r + 1) j → ClauseNone (guarding []) true k n i text es es' cs cs j
        rest_none x = record { kept_e = guard_kept g; kept_c = clauses_kept asked; comes = λ p _. passed k n sk t-is h p g ∙ colon_goes k n text p (records_in es') g.guard s ∙ x.comes k n p (records_in es') g.guard }

        pub rest_to : (place : ℕ) {cs' : List ℕ} {side node value time u : ℕ} → ToldTo text false (clause_slots n) [] (r + 1) node value time u → 8 * (place + 1) ≡ length es' → cs' ≡ cs ++ clause_bytes side value node time place
            → ClauseTo (guarding []) true k n side i text es es' cs cs' u
        rest_to place {cs'} {side} {node} {value} {time} {u} x counted put =
            let place_is : place ≡ guard_place (records_in es) g.guard = omega (arith, g.count) in
            record {
              clause = record { guard = g.guard; node = node; value = value; time = time };
              past = omega (arith, sk.forward, g.past, x.past);
              inside = x.inside;
              count = g.count;
              few_e = omega (arith, g.few);
              few_c = omega (arith, asked.room_c, one_record cs (clause_bytes side value node time place) put refl);
              put_guard = g.put;
              put_clause = put ∙ ap (λ a. cs ++ clause_bytes side value node time a) place_is;
              comes = λ p _. passed k n sk t-is h p g ∙ colon_goes k n text p (records_in es') g.guard s ∙ x.comes k n p (records_in es') g.guard;
            }

-- `when`, where there is room
when_read : (k n : ℕ) {i q : ℕ} {text es cs : List ℕ} → ClauseAsked i text es cs → Spelt text i (letters WHEN) q → (p : Point) → count_of p ≡ records_in cs
    → reading k n text i (ready false) (in_phase p (records_in es) listing) ≡ reading k n text q (ready true) (in_phase p (records_in es) (guarding []))
when_read k n {text = text} {es} asked sp p same = word_goes k n text (in_phase p (records_in es) listing) WHEN (when_steps k n text p (records_in es) same asked.room_e asked.room_c) sp

module _ {k n i : ℕ} {text es cs : List ℕ} (asked : ClauseAsked i text es cs) where
  pub when_none : {j : ℕ} → Stands text i 119 → Broken text i (letters WHEN) j → ClauseNone listing false k n i text es es cs cs j
  unfolding letters
  when_none s b =
      record {
        kept_e = expressions_kept asked;
        kept_c = clauses_kept asked;
        comes = λ p same. word_stops k n text (in_phase p (records_in es) listing) WHEN (when_steps k n text p (records_in es) same asked.room_e asked.room_c) (λ f. absurd (f s)) b;
      }

  module _ {q : ℕ} (sp : Spelt text i (letters WHEN) q) where
    pub when_to : {es' cs' : List ℕ} {side u : ℕ} → ClauseTo (guarding []) true k n side q text es es' cs cs' u → ClauseTo listing false k n side i text es es' cs cs' u
    when_to y =
        record {
          clause = y.clause;
          past = omega (arith, sp.q_is, y.past);
          inside = y.inside;
          count = y.count;
          few_e = y.few_e;
          few_c = y.few_c;
          put_guard = y.put_guard;
          put_clause = y.put_clause;
          comes = λ p same. when_read k n asked sp p same ∙ y.comes p same;
        }

    pub when_then_none : {es' cs' : List ℕ} {j : ℕ} → ClauseNone (guarding []) true k n q text es es' cs cs' j → ClauseNone listing false k n i text es es' cs cs' j
    when_then_none y = record { kept_e = y.kept_e; kept_c = y.kept_c; comes = λ p same. when_read k n asked sp p same ∙ y.comes p same }
