-- Clauses one after the other, and where the list is full or over.
-- Assumes nothing.
use borrow.Author.Tests.{lt-ltb, le-ltb, lt-leb}
use mathlib.Core.Path.{◌≡◌, refl, sym, ◌∙◌, ap}
use mathlib.Core.Bool.{false}
use mathlib.Core.List.{List, [], ◌∷◌, ◌++◌, append_assoc, append-nil}
use mathlib.Core.Option.{none}
use native.Mathlib.Decide.{dec_lt}
use native.Mathlib.Omega.{arith}
use Prim.Native.Nat.{ℕ, ◌+◌, ◌≤◌, ◌<◌}
use lib.ListN.{length, length-append}
use Rattle.stored.specs.Bytes.{byte_at}
use Rattle.grammar.specs.Items.{Keyword, GIVEN, EXPECT, WHEN, IS, AT, word, letters}
use Rattle.grammar.specs.Guards.{size}
use Rattle.grammar.specs.Grammar.{Clause, sizes}
use Rattle.grammar.specs.Records.{guard_records, clause_record, list_expressions, list_clauses}
use Rattle.grammar.specs.Points.{listing, Point, step, finished}
use Rattle.grammar.specs.Bytewise.{ready, stops, reading}
use Rattle.phrases.specs.Places.{Stands, Skips, NoGap}
use Rattle.phrases.specs.GuardsRead.{in_phase, records_in}
use Rattle.assertions.specs.ClausesRead.{clause_added}
use Rattle.assertions.specs.ListsRead.{count_of, ClauseTo, ClauseNone, list_added, ListTo, ListNone}
use Rattle.grammar.proofs.Steps.{length_added, none_added, more_added, sizes_snoc}
use Rattle.phrases.proofs.Feeding.{run_gaps}
use Rattle.phrases.proofs.LevelLaws.{one_record}
use Rattle.phrases.proofs.Stopping.{nothing_goes}
use Rattle.assertions.proofs.Keeping.{kept_put, kept_on}

-- one clause more at the end of a list
expressions_more : (e : ℕ) (l : List Clause) (x : Clause) → list_expressions e (l ++ x ∷ []) ≡ list_expressions e l ++ guard_records (e + sizes l) x.guard
unfolding sizes list_expressions
expressions_more e [] x = let z : e + 0 ≡ e = omega arith in rw (z, append-nil)
expressions_more e (y ∷ l) x =
    let z : e + size y.guard + sizes l ≡ e + (size y.guard + sizes l) = omega arith in
    rw (expressions_more (e + size y.guard) l x, z, ← append_assoc)

clauses_more : (side e : ℕ) (l : List Clause) (x : Clause) → list_clauses side e (l ++ x ∷ []) ≡ list_clauses side e l ++ clause_record side (e + sizes l) x
unfolding sizes list_clauses
clauses_more side e [] x = let z : e + 0 ≡ e = omega arith in rw (z, append-nil)
clauses_more side e (y ∷ l) x =
    let z : e + size y.guard + sizes l ≡ e + (size y.guard + sizes l) = omega arith in
    rw (clauses_more side (e + size y.guard) l x, z)

expressions_put : (e : ℕ) (es : List ℕ) (l : List Clause) (x : Clause) {es₁ es₂ : List ℕ} → es₁ ≡ es ++ list_expressions e l → es₂ ≡ es₁ ++ guard_records (e + sizes l) x.guard → es₂ ≡ es ++ list_expressions e (l ++ x ∷ [])
expressions_put e es l x p q = rw (expressions_more e l x, q, p) (append_assoc es (list_expressions e l) (guard_records (e + sizes l) x.guard))

clauses_put : (side e : ℕ) (cs : List ℕ) (l : List Clause) (x : Clause) {cs₁ cs₂ : List ℕ} → cs₁ ≡ cs ++ list_clauses side e l → cs₂ ≡ cs₁ ++ clause_record side (e + sizes l) x → cs₂ ≡ cs ++ list_clauses side e (l ++ x ∷ [])
clauses_put side e cs l x p q = rw (clauses_more side e l x, q, p) (append_assoc cs (list_clauses side e l) (clause_record side (e + sizes l) x))

-- where neither a clause nor `expect` may begin
pub listing_stops : (k n : ℕ) (text : List ℕ) (p : Point) (used : ℕ) {i : ℕ} → (length text ≤ i → finished (in_phase p used listing) ≡ none) → NoGap text i
    → (Stands text i 101 → step k n (in_phase p used listing) (word EXPECT) ≡ none) → (Stands text i 119 → step k n (in_phase p used listing) (word WHEN) ≡ none)
    → reading k n text i (ready false) (in_phase p used listing) ≡ stops i
unfolding step letters
listing_stops k n text p used {i} open-yet clean no-expect no_when = nothing_goes k n text (in_phase p used listing) i open-yet clean (λ m _. refl) (λ d _ _. refl) (λ v _. refl) no_word
  where
    no_word : (w : Keyword) → Stands text i (byte_at (letters w) 0) → step k n (in_phase p used listing) (word w) ≡ none
    no_word GIVEN s = refl
    no_word EXPECT s = no-expect s
    no_word WHEN s = no_when s
    no_word IS s = refl
    no_word AT s = refl

-- no clause yet
pub list_none : {k n i q : ℕ} {text es cs : List ℕ} (side : ℕ) → (records_in es ≤ 504) × (records_in cs ≤ 504) → Skips text i q → ListTo k n side i text es es cs cs q
unfolding sizes list_expressions list_clauses
list_none {k} {n} {i} {q} {text} {es} {cs} side few sk =
    record {
      clauses = [];
      inside = sk.inside;
      no_gap = sk.ends;
      count_e = omega arith;
      count_c = omega arith;
      few_e = few.0;
      few_c = few.1;
      put_e = sym (append-nil es);
      put_c = sym (append-nil cs);
      comes = λ p same. run_gaps k n text (in_phase p (records_in es) listing) sk ∙ ap (reading k n text q (ready false)) (sym (none_added p.second p.given p.expect (records_in es)));
    }

module _ {k n side i q : ℕ} {text es es₁ cs cs₁ : List ℕ} (l : ListTo k n side i text es es₁ cs cs₁ q) where
  counted : (p : Point) → count_of p ≡ records_in cs → count_of (list_added p (records_in es₁) l.clauses) ≡ records_in cs₁
  counted p same = omega (arith, length_added p.second p.given p.expect l.clauses, l.count_c)

  -- one more
  pub list_more : {es₂ cs₂ : List ℕ} {u v : ℕ} → ClauseTo listing false k n side q text es₁ es₂ cs₁ cs₂ u → Skips text u v → ListTo k n side i text es es₂ cs cs₂ v
  list_more {es₂} {cs₂} {u} {v} x sk =
      let here = l.clauses in
      let e_is : records_in es₁ ≡ records_in es + sizes here = l.count_e in
      record {
        clauses = here ++ x.clause ∷ [];
        inside = sk.inside;
        no_gap = sk.ends;
        count_e = omega (arith, x.count, l.count_e, sizes_snoc here x.clause);
        count_c = omega (arith, l.count_c, length-append here (x.clause ∷ []), one_record cs₁ _ x.put_clause refl);
        few_e = x.few_e;
        few_c = x.few_c;
        put_e = expressions_put (records_in es) es here x.clause l.put_e (rw e_is at x.put_guard);
        put_c = clauses_put side (records_in es) cs here x.clause l.put_c (rw e_is at x.put_clause);
        comes = λ p same.
            l.comes p same ∙ x.comes (list_added p (records_in es₁) here) (counted p same)
            ∙ run_gaps k n text (clause_added (list_added p (records_in es₁) here) (records_in es₂) x.clause) sk
            ∙ ap (reading k n text v (ready false)) (more_added p.second p.given p.expect here (x.clause ∷ []) (records_in es₂));
      }

  pub list_stops : {es₂ cs₂ : List ℕ} {j : ℕ} → ClauseNone listing false k n q text es₁ es₂ cs₁ cs₂ j → ListNone k n i text es es₂ cs cs₂ j
  list_stops x =
      record {
        kept_e = kept_on es _ l.put_e x.kept_e;
        kept_c = kept_on cs _ l.put_c x.kept_c;
        comes = λ p same. l.comes p same ∙ x.comes (list_added p (records_in es₁) l.clauses) (counted p same);
      }

  -- no room for one more
  no_room : (p : Point) → count_of p ≡ records_in cs₁ → ¬ ((records_in es₁ < 504) × (records_in cs₁ < 504)) → step k n (in_phase p (records_in es₁) listing) (word WHEN) ≡ none
  unfolding step
  no_room p same full = go (dec_lt (records_in es₁) 504) (dec_lt (count_of p) 504)
    where
      go : Dec (records_in es₁ < 504) → Dec (count_of p < 504) → step k n (in_phase p (records_in es₁) listing) (word WHEN) ≡ none
      go a (no b) = rw (le-ltb (count_of p) 504 (omega arith))
      go (no a) (yes b) = rw (lt-ltb (count_of p) 504 b, lt-leb (records_in es₁ + 1) 504 (omega arith))
      go (yes a) (yes b) = absurd (full (a, omega arith))

  pub list_full : Stands text q 119 → ¬ ((records_in es₁ < 504) × (records_in cs₁ < 504)) → ListNone k n i text es es₁ cs cs₁ q
  list_full s full =
      record {
        kept_e = kept_put es _ l.put_e l.few_e;
        kept_c = kept_put cs _ l.put_c l.few_c;
        comes = λ p same.
            l.comes p same
            ∙ listing_stops k n text (list_added p (records_in es₁) l.clauses) (records_in es₁) (λ o. absurd (omega (arith, s.inside))) l.no_gap (λ t. absurd (omega (arith, s.is, t.is)))
            (λ _. no_room (list_added p (records_in es₁) l.clauses) (counted p same) full);
      }
