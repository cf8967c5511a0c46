-- A text is read byte by byte exactly as the grammar says, and reading stops exactly where no accepted text goes on.
-- Assumes nothing.
use mathlib.Core.Path.{◌≡◌, refl, sym, ◌∙◌, ap, subst}
use mathlib.Core.Bool.{false}
use mathlib.Core.List.{List, ◌++◌, append_assoc}
use native.Mathlib.Omega.{arith}
use Prim.Native.Nat.{ℕ, suc, ◌+◌, ◌-◌, ◌≤◌, ◌<◌}
use lib.ListN.{length, take, drop, take-append-drop}
use lib.Seq.{take-take}
use Rattle.grammar.specs.Grammar.{Text, Reads}
use Rattle.grammar.specs.Starts.{StopsAt}
use Rattle.grammar.specs.Points.{start}
use Rattle.grammar.specs.Bytewise.{ready, at, Outcome, reads, stops, or_stops, read_text}
use Rattle.grammar.proofs.Reached.{start_sound}
use Rattle.grammar.proofs.After.{not_both, no_reading, run_stops}
use Rattle.grammar.proofs.SpelledRuns.{spelled_runs}
use Rattle.grammar.proofs.RunsSpelled.{runs_spelled}
use Rattle.grammar.proofs.Viable.{goes_on}
use Rattle.grammar.proofs.TextSteps.{text_steps}
use Rattle.grammar.proofs.StepsText.{steps_text}

module _ {k n : ℕ} {s : List ℕ} where
  pub never_both : {t : Text} {j : ℕ} → Reads k n t s → ¬ StopsAt k n s j
  never_both {t} r stop = stop.not_read t r

  -- the first of two places would not stop the other's start
  not_before : {i j : ℕ} → StopsAt k n s i → StopsAt k n s j → ¬ (i < j)
  not_before {i} {j} a b l =
      let b' = b.begins in
      let more = drop (suc i) (take j s) in
      let e : take j s ≡ take (suc i) s ++ more = sym (take-append-drop (suc i) (take j s)) ∙ ap (λ u. u ++ more) (take-take (suc i) j s l) in
      a.stops (omega (arith, b.within))
      (record {
        rest = more ++ b'.rest;
        text = b'.text;
        reads = rw append_assoc at (subst (λ u. Reads k n b'.text (u ++ b'.rest)) e b'.reads);
      })

  pub stop_unique : {i j : ℕ} → StopsAt k n s i → StopsAt k n s j → i ≡ j
  stop_unique {i} {j} a b = omega (arith, not_before a b, not_before b a)

-- letters go to `z`, and there is a node to speak of
module _ (k n : ℕ) (few : k ≤ 26) (some-node : 1 ≤ n) where
  pub read_is : (s : List ℕ) {t : Text} → read_text k n s ≡ reads t → Reads k n t s
  read_is s {t} e =
      let (is, q, spelt, f, g) = runs_spelled k n 0 false start s t e in
      let (d, given, expect, clauses, expressions) = steps_text k n is q t f g in
      record { given_fits = given; expect_fits = expect; few_clauses = clauses; few_expressions = expressions; spelled = rw d at spelt }

  pub reads_so : {s : List ℕ} {t : Text} → Reads k n t s → read_text k n s ≡ reads t
  reads_so {s} {t} r =
      let (q, f, g) = text_steps k n t r.given_fits r.expect_fits r.few_clauses r.few_expressions in
      spelled_runs k n few 0 start q (start_sound k n) r.spelled f ∙ ap (or_stops (0 + length s)) g

  pub reading_unique : {s : List ℕ} {t u : Text} → Reads k n t s → Reads k n u s → t ≡ u
  reading_unique a b = cc (reads_so a, reads_so b)

  pub stop_is : (s : List ℕ) {j : ℕ} → read_text k n s ≡ stops j → StopsAt k n s j
  stop_is s {j} e =
      let σ = at (ready false) start in
      let z : j - 0 ≡ j = omega arith in
      let a = run_stops k n 0 σ s j e in
      let (rest, t, r) = goes_on k n few some-node (take j s) a.state (rw z at a.before) in
      record {
        within = omega (arith, a.within);
        not_read = λ u b. not_both (sym e ∙ reads_so b);
        begins = record { rest = rest; text = t; reads = read_is (take j s ++ rest) r };
        stops = λ l b. no_reading k n 0 σ (take (suc j) s) (rw z at (a.not_past (omega arith))) b.rest b.text (reads_so b.reads);
      }

  pub stops_so : {s : List ℕ} {j : ℕ} → StopsAt k n s j → read_text k n s ≡ stops j
  stops_so {s} {j} a = go (read_text k n s) refl
    where
      go : (o : Outcome) → read_text k n s ≡ o → o ≡ stops j
      go (reads t) e = absurd (never_both (read_is s e) a)
      go (stops i) e = ap stops (stop_unique (stop_is s e) a)
