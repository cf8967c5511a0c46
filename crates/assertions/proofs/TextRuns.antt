-- The two lists and their words: what is read of a whole text.
-- Assumes nothing.
use mathlib.Core.Path.{◌≡◌, refl, sym, ◌∙◌, ap, subst}
use mathlib.Core.Bool.{Bool, true, false, ◌&&◌}
use mathlib.Core.List.{List, [], ◌++◌}
use mathlib.Core.Option.{some, none}
use native.Mathlib.Decide.{dec_lt}
use native.Mathlib.Omega.{arith}
use Prim.Native.Nat.{ℕ, ◌≤◌, ◌<◌}
use lib.Dec.{eqb, ltb}
use lib.ListN.{length}
use Rattle.scans.proofs.Bools.{says, both_ways}
use Rattle.std.specs.Prelude.{Result}
use Rattle.std.proofs.lemmas.Result.{MatchResult-weaker}
use Rattle.stored.specs.Bytes.{byte_at}
use Rattle.phrases.specs.declared.items.Stopped.{Stopped}
use Rattle.phrases.specs.GuardsRead.{records_in}
use Rattle.grammar.specs.Items.{Keyword, GIVEN, EXPECT, WHEN, IS, AT, word, letters}
use Rattle.grammar.specs.Grammar.{Clause, sizes}
use Rattle.grammar.specs.Records.{list_expressions, list_clauses, text_expressions, text_clauses}
use Rattle.grammar.specs.Points.{start, step, finished}
use Rattle.grammar.specs.Bytewise.{ready, reads, stops, reading}
use Rattle.phrases.specs.Places.{Stands, Skips, NoGap, Broken, Spelt}
use Rattle.assertions.specs.ListsRead.{list_added, ListNone, ListOver}
use Rattle.assertions.specs.TextsRead.{listing_at, RestTo, RestNone, RestAt, TextTo, TextNone, TextAt}
use Rattle.phrases.proofs.Feeding.{run_past, run_end, run_gaps, run_some}
use Rattle.phrases.proofs.Stopping.{touching_stops, nothing_goes}
use Rattle.phrases.proofs.WordRuns.{word_goes, word_stops}
use Rattle.assertions.proofs.Keeping.{kept_same, kept_put}
use Rattle.assertions.proofs.ListRuns.{listing_stops}

-- after `expect`
module _ (k n : ℕ) (text : List ℕ) (gs : List Clause) (e : ℕ) where
  -- a word touches what stands next
  pub expect_touched : {i q : ℕ} → Skips text i q → eqb q i && ltb i (length text) ≡ true → reading k n text i (ready true) (listing_at true gs e) ≡ stops i
  unfolding step
  expect_touched {i} {q} sk t =
      let x = simp says at t in
      touching_stops k n text (listing_at true gs e) i (λ o. absurd (omega (arith, x.1))) (subst (NoGap text) x.0 sk.ends) (λ m _. refl)

  pub expect_goes : {i q : ℕ} → Skips text i q → eqb q i && ltb i (length text) ≡ false → reading k n text i (ready true) (listing_at true gs e) ≡ reading k n text q (ready false) (listing_at true gs e)
  expect_goes {i} {q} sk t = run_past k n text true (listing_at true gs e) sk (λ same. go same (dec_lt i (length text))) refl
    where
      go : q ≡ i → Dec (i < length text) → reading k n text q (ready true) (listing_at true gs e) ≡ reading k n text q (ready false) (listing_at true gs e)
      go same (yes h) = both_ways (simp says (same, h)) t
      go same (no h) = run_end k n text q true (listing_at true gs e) (omega arith) ∙ sym (run_end k n text q false (listing_at true gs e) (omega arith))

  -- the end of the text
  text_ends : {i : ℕ} (used : ℕ) (xs : List Clause) → length text ≤ i → reading k n text i (ready false) (list_added (listing_at true gs e) used xs) ≡ reads (record { given = gs; expect = xs })
  unfolding finished
  text_ends {i} used xs h = run_end k n text i false (list_added (listing_at true gs e) used xs) h

  -- something stands after the last clause
  text_stops : {i : ℕ} (used : ℕ) (xs : List Clause) → i < length text → NoGap text i → ¬ Stands text i 119 → reading k n text i (ready false) (list_added (listing_at true gs e) used xs) ≡ stops i
  unfolding step
  text_stops used xs h clean f = listing_stops k n text (list_added (listing_at true gs e) used xs) used (λ o. absurd (omega arith)) clean (λ _. refl) (λ s. absurd (f s))

  -- `expect` itself
  expect_steps : step k n (listing_at false gs e) (word EXPECT) ≡ some (listing_at true gs e)
  unfolding step
  expect_steps = refl

  pub expect_read : {i q : ℕ} → Spelt text i (letters EXPECT) q → reading k n text i (ready false) (listing_at false gs e) ≡ reading k n text q (ready true) (listing_at true gs e)
  expect_read sp = word_goes k n text (listing_at false gs e) EXPECT expect_steps sp

  pub expect_stops : {i j : ℕ} → NoGap text i → ¬ Stands text i 119 → Broken text i (letters EXPECT) j → reading k n text i (ready false) (listing_at false gs e) ≡ stops j
  unfolding finished letters
  expect_stops clean f b =
      word_stops k n text (listing_at false gs e) EXPECT expect_steps (λ g. listing_stops k n text (listing_at false gs e) e (λ _. refl) clean (λ s. absurd (g s)) (λ s. absurd (f s))) b

-- `given`
module _ (k n : ℕ) (text : List ℕ) where
  given_steps : step k n start (word GIVEN) ≡ some (listing_at false [] 0)
  unfolding step
  given_steps = refl

  no_given : {i : ℕ} → ¬ Stands text i (byte_at (letters GIVEN) 0) → (w : Keyword) → Stands text i (byte_at (letters w) 0) → step k n start (word w) ≡ none
  unfolding step letters
  no_given f GIVEN s = absurd (f s)
  no_given f EXPECT s = refl
  no_given f WHEN s = refl
  no_given f IS s = refl
  no_given f AT s = refl

  given_stops : {i j : ℕ} → Skips text 0 i → Broken text i (letters GIVEN) j → reading k n text 0 (ready false) start ≡ stops j
  unfolding step finished
  given_stops {i} sk b =
      run_gaps k n text start sk
      ∙ word_stops k n text start GIVEN given_steps (λ f. nothing_goes k n text start i (λ _. refl) sk.ends (λ m _. refl) (λ d _ _. refl) (λ v _. refl) (no_given f)) b

  given_goes : {i q : ℕ} → Skips text 0 i → Spelt text i (letters GIVEN) q → reading k n text 0 (ready false) start ≡ reading k n text q (ready true) (listing_at false [] 0)
  given_goes sk sp = run_gaps k n text start sk ∙ word_goes k n text start GIVEN given_steps sp

  given_touched : {i q : ℕ} → Skips text i q → q ≡ i → reading k n text i (ready true) (listing_at false [] 0) ≡ stops i
  unfolding step finished
  given_touched {i} sk same = touching_stops k n text (listing_at false [] 0) i (λ _. refl) (subst (NoGap text) same sk.ends) (λ m _. refl)

  given_listed : {i q r : ℕ} → Skips text 0 i → Spelt text i (letters GIVEN) q → Skips text q r → ¬ (r ≡ q) → reading k n text 0 (ready false) start ≡ reading k n text r (ready false) (listing_at false [] 0)
  given_listed sk sp sk' apart = given_goes sk sp ∙ run_some k n text true (listing_at false [] 0) sk' (omega (arith, sk'.forward))

-- `expect` and its list
module _ {k n i : ℕ} {text es cs : List ℕ} (few : (records_in es ≤ 504) × (records_in cs ≤ 504)) where
  pub expect_none : {j : ℕ} → NoGap text i → ¬ Stands text i 119 → Broken text i (letters EXPECT) j → RestNone k n i text es es cs cs j
  expect_none clean f b = record { kept_e = kept_same es few.0; kept_c = kept_same cs few.1; comes = λ gs _. expect_stops k n text gs (records_in es) clean f b }

  pub rest_touched : {q r : ℕ} {t : Bool} → Spelt text i (letters EXPECT) q → Skips text q r → t ≡ eqb r q && ltb q (length text) → t ≡ true → RestNone k n i text es es cs cs q
  rest_touched sp sk t-is h = record { kept_e = kept_same es few.0; kept_c = kept_same cs few.1; comes = λ gs _. expect_read k n text gs (records_in es) sp ∙ expect_touched k n text gs (records_in es) sk (sym t-is ∙ h) }

module _ {k n i q r : ℕ} {text es cs : List ℕ} {t : Bool} (sp : Spelt text i (letters EXPECT) q) (sk : Skips text q r) (t-is : t ≡ eqb r q && ltb q (length text)) (h : t ≡ false) where
  pub rest_fails : {es' cs' : List ℕ} {j : ℕ} → ListNone k n r text es es' cs cs' j → RestNone k n i text es es' cs cs' j
  rest_fails x =
      record {
        kept_e = x.kept_e;
        kept_c = x.kept_c;
        comes = λ gs same. expect_read k n text gs (records_in es) sp ∙ expect_goes k n text gs (records_in es) sk (sym t-is ∙ h) ∙ x.comes (listing_at true gs (records_in es)) (omega arith);
      }

  module _ {es' cs' : List ℕ} {u : ℕ} (l : ListOver k n 1 r text es es' cs cs' u) where
    listed : (gs : List Clause) → length gs ≡ records_in cs → reading k n text i (ready false) (listing_at false gs (records_in es)) ≡ reading k n text u (ready false) (list_added (listing_at true gs (records_in es)) (records_in es') l.to.clauses)
    listed gs same = expect_read k n text gs (records_in es) sp ∙ expect_goes k n text gs (records_in es) sk (sym t-is ∙ h) ∙ l.to.comes (listing_at true gs (records_in es)) (omega arith)

    pub rest_open : u < length text → RestNone k n i text es es' cs cs' u
    rest_open inside =
        record {
          kept_e = kept_put es _ l.to.put_e l.to.few_e;
          kept_c = kept_put cs _ l.to.put_c l.to.few_c;
          comes = λ gs same. listed gs same ∙ text_stops k n text gs (records_in es) (records_in es') l.to.clauses inside l.to.no_gap l.no_when;
        }

    pub rest_ends : length text ≤ u → RestTo k n i text es es' cs cs'
    rest_ends over =
        record {
          expect = l.to.clauses;
          few_e = l.to.few_e;
          few_c = l.to.few_c;
          put_e = l.to.put_e;
          put_c = l.to.put_c;
          comes = λ gs same. listed gs same ∙ text_ends k n text gs (records_in es) (records_in es') l.to.clauses over;
        }

-- `given` and its list, and the rest, where nothing has been read
module _ {k n i : ℕ} {text es cs : List ℕ} (es-empty : es ≡ []) (cs-empty : cs ≡ []) (sk : Skips text 0 i) where
  none_read : {j : ℕ} → reading k n text 0 (ready false) start ≡ stops j → TextNone k n text es cs j
  none_read e = record { few_e = omega (arith, ap length es-empty); few_c = omega (arith, ap length cs-empty); comes = e }

  pub text_none : {j : ℕ} → Broken text i (letters GIVEN) j → TextNone k n text es cs j
  text_none b = none_read (given_stops k n text sk b)

  module _ {q r : ℕ} (sp : Spelt text i (letters GIVEN) q) (sk' : Skips text q r) where
    pub given_close : r ≡ q → TextNone k n text es cs q
    given_close same = none_read (given_goes k n text sk sp ∙ given_touched k n text sk' same)

    module _ (apart : ¬ (r ≡ q)) where
      pub given_fails : {es' cs' : List ℕ} {j : ℕ} → ListNone k n r text es es' cs cs' j → TextNone k n text es' cs' j
      given_fails x =
          let y = rw (es-empty, cs-empty) at x in
          record { few_e = x.kept_e.few; few_c = x.kept_c.few; comes = given_listed k n text sk sp sk' apart ∙ y.comes (listing_at false [] 0) refl }

      module _ {es₁ cs₁ : List ℕ} {u : ℕ} (l : ListOver k n 0 r text es es₁ cs cs₁ u) where
        -- all that the list says, of what was empty
        from_empty : ListOver k n 0 r text [] es₁ [] cs₁ u
        from_empty = rw (es-empty, cs-empty) at l

        given_count : length from_empty.to.clauses ≡ records_in cs₁
        given_count = omega (arith, from_empty.to.count_c)

        on_rest : reading k n text 0 (ready false) start ≡ reading k n text u (ready false) (listing_at false from_empty.to.clauses (records_in es₁))
        on_rest = given_listed k n text sk sp sk' apart ∙ from_empty.to.comes (listing_at false [] 0) refl

        text_to : {es₂ cs₂ : List ℕ} → RestTo k n u text es₁ es₂ cs₁ cs₂ → TextTo k n text es₂ cs₂
        unfolding text_expressions text_clauses
        text_to y =
            let before = from_empty.to in
            let e_is : records_in es₁ ≡ sizes before.clauses = omega (arith, before.count_e) in
            record {
              t = record { given = before.clauses; expect = y.expect };
              few_e = y.few_e;
              few_c = y.few_c;
              es_are = (rw e_is at y.put_e) ∙ ap (λ l. l ++ list_expressions (sizes before.clauses) y.expect) before.put_e;
              cs_are = (rw e_is at y.put_c) ∙ ap (λ l. l ++ list_clauses 1 (sizes before.clauses) y.expect) before.put_c;
              comes = on_rest ∙ y.comes before.clauses given_count;
            }

        pub text_at : {es₂ cs₂ : List ℕ} {w : Result (Unit {0}) Stopped} → RestAt k n u text es₁ es₂ cs₁ cs₂ w → TextAt k n text es₂ cs₂ w
        text_at {w = w} x = record { says = MatchResult-weaker w x.says (λ _. text_to) (λ _ y. record { few_e = y.kept_e.few; few_c = y.kept_c.few; comes = on_rest ∙ y.comes from_empty.to.clauses given_count }) }
