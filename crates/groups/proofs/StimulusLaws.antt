-- The stimulus, clause by clause.
-- Assumes nothing.
use Rattle.std.proofs.Common.{◌≡◌, ◌≢◌, refl, sym, ◌∙◌, ap, subst, Bool, true, false, not, ◌||◌, cond, ℕ, ◌+◌, ◌*◌, ◌<◌, List, [], ◌∷◌, ◌++◌, length, slice_set, bit_or, T}
use Rattle.std.proofs.lemmas.List.Folds.{list_any-append}
use Rattle.std.proofs.lemmas.List.Sums.{fold_push}
use mathlib.Core.Bool.{and-true, and-false}
use mathlib.Core.Path.{fun_ext}
use native.Mathlib.Decide.{ℕ_discrete}
use borrow.Author.Tests.{eq-eqb, ne_eqb, not-true}
use lib.Dec.{eqb}
use Rattle.scans.proofs.Bools.{both_ways, is_true, of_true, is_false, same_test}
use Rattle.scans.proofs.Search.{each_e, each_i}
use Rattle.meaning.specs.Values.{v_x, Cell, value, collision, join, join_cells, collides, bit}
use Rattle.meaning.specs.Guards.{bit_of, truth}
use Rattle.meaning.specs.declared.Clause.{Clause}
use Rattle.meaning.specs.declared.Side.{Side}
use Rattle.meaning.specs.declared.Side.TheVariants.{Stimulus, Expectation}
use Rattle.meaning.specs.Jobs.{on, Job, speaks, asks}
use Rattle.meaning.specs.Rows.{asked}
use Rattle.meaning.proofs.Cells.{join_nothing, join_assoc}
use Rattle.words.specs.declared.Pair.{Pair}
use Rattle.words.specs.Places.{cell_at, Narrows, Collided}
use Rattle.words.proofs.Bits.{bit_zero, bit_or_lem}
use Rattle.groups.specs.Held.{pair_at, Held, clear, asked_in, named_in, Stimulates}
use Rattle.groups.proofs.WireLaws.{stored_there, stored_elsewhere}

pub not_expectation : (s : Side) → s ≢ Expectation → s ≡ Stimulus
not_expectation Stimulus h = refl
not_expectation Expectation h = absurd (h refl)

-- a collision stays one
still : (a b : Cell) → T (not (collides (join_cells a b))) → T (not (collides a))
unfolding join_cells
still (value a) b t = tt
still collision b t = t

clear_before : (j : Job) (f a : ℕ → Cell) → clear j (λ m. join_cells (f m) (a m)) ≡ true → clear j f ≡ true
clear_before j f a h = is_true _ (each_i _ j.netlist.size (λ m l. is_true _ (still (f m) (a m) (of_true _ (each_e _ j.netlist.size (of_true _ h) m l)))))

pub clear_same : (j : Job) {f g : ℕ → Cell} → ((m : ℕ) → f m ≡ g m) → clear j f ≡ clear j g
clear_same j h = ap (clear j) (fun_ext h)

both_false : (a b : Bool) → (a || b) ≡ false → (a ≡ false) × (b ≡ false)
both_false false false e = (refl, refl)
both_false true b e = both_ways refl e
both_false false true e = both_ways refl e

module _ (j : Job) (g t : ℕ) where
  pub stimulates_none : {row : List Pair} → Stimulates j g t [] row row 0
  stimulates_none =
      record {
        joined = λ i l f h. record { at = λ m k. h.at m k ∙ sym (join_nothing (f m)) };
        collided = λ i l f h c. bit_zero i ∙ ap not (sym (clear_same j (λ m. join_nothing (f m)) ∙ c));
        only = λ i l f h b. both_ways b (bit_zero i);
        spared = λ m h. refl;
      }

  -- what one clause asks
  asked_one : (x m : ℕ) (k : Clause) → asked_in j x t (k ∷ []) m ≡ asked j x t m k
  unfolding join_cells join
  asked_one x m k = refl

  module _ {clauses : List Clause} {k : Clause} {row row' row'' : List Pair} {d r : ℕ} (s : Stimulates j g t clauses row row' d) (u : Stimulates j g t (k ∷ []) row' row'' r) where
    -- a cell after one clause more, from that before
    cell_more : (x m : ℕ) (c : Cell) → join_cells (join_cells c (asked_in j x t clauses m)) (asked_in j x t (k ∷ []) m) ≡ join_cells c (asked_in j x t (clauses ++ k ∷ []) m)
    cell_more x m c =
        ap (join_cells (join_cells c (asked_in j x t clauses m))) (asked_one x m k)
        ∙ join_assoc c (asked_in j x t clauses m) (asked j x t m k)
        ∙ ap (join_cells c) (sym (fold_push (λ c k. join_cells c (asked j x t m k)) (value v_x) clauses k))

    module _ (i : ℕ) (l : i < 64) (f : ℕ → Cell) (h : Held j row i f) where
      abbrev x : ℕ
      x = 64 * g + i

      abbrev before : Bool
      before = clear j (λ m. join_cells (f m) (asked_in j x t clauses m))

      abbrev after : Bool
      after = clear j (λ m. join_cells (f m) (asked_in j x t (clauses ++ k ∷ []) m))

      after_is : clear j (λ m. join_cells (join_cells (f m) (asked_in j x t clauses m)) (asked_in j x t (k ∷ []) m)) ≡ after
      after_is = clear_same j (λ m. cell_more x m (f m))

      after_false : before ≡ false → after ≡ false
      after_false b = is_false _ (λ a. both_ways (clear_before j _ _ (after_is ∙ is_true _ a)) b)

      collided_more : clear j f ≡ true → (b : Bool) → before ≡ b → (bit_of d i || bit_of r i) ≡ not after
      collided_more c true e = rw (s.collided i l f h c, e) (u.collided i l _ (s.joined i l f h) e ∙ ap not after_is)
      collided_more c false e = rw (s.collided i l f h c, e, after_false e)

      only_more : (b : Bool) → bit_of d i ≡ b → (b || bit_of r i) ≡ true → after ≡ false
      only_more true e h' = after_false (s.only i l f h e)
      only_more false e h' = sym after_is ∙ u.only i l _ (s.joined i l f h) h'

    joined_more : Stimulates j g t (clauses ++ k ∷ []) row row'' (bit_or d r)
    joined_more =
        record {
          joined = λ i l f h. record { at = λ m n. (u.joined i l _ (s.joined i l f h)).at m n ∙ cell_more (64 * g + i) m (f m) };
          collided = λ i l f h c. bit_or_lem d r i ∙ collided_more i l f h c _ refl;
          only = λ i l f h b. only_more i l f h _ refl (sym (bit_or_lem d r i) ∙ b);
          spared = λ m none. let both = both_false (named_in clauses m) (named_in (k ∷ []) m) (sym (list_any-append (λ (k : Clause). eqb k.node m) clauses (k ∷ [])) ∙ none) in
              u.spared m both.1 ∙ s.spared m both.0;
        }

  pub stimulates_more : {clauses : List Clause} {k : Clause} {row row' row'' : List Pair} {d r : ℕ} → k.time ≡ t → Stimulates j g t clauses row row' d → Stimulates j g k.time (k ∷ []) row' row'' r
      → Stimulates j g t (clauses ++ k ∷ []) row row'' (bit_or d r)
  stimulates_more {k = k} {row' = row'} {row''} {r = r} e s u = joined_more s (subst (λ t. Stimulates j g t (k ∷ []) row' row'' r) e u)

  -- an expectation leaves all as it was
  pub stimulates_not : (k : Clause) {row : List Pair} → k.side ≡ Expectation → Stimulates j g t (k ∷ []) row row 0
  unfolding asks
  stimulates_not k e =
      record {
        joined = λ i l f h. record { at = λ m n. h.at m n ∙ sym (nothing (64 * g + i) m (f m)) };
        collided = λ i l f h c. bit_zero i ∙ ap not (sym (clear_same j (λ m. nothing (64 * g + i) m (f m)) ∙ c));
        only = λ i l f h b. both_ways b (bit_zero i);
        spared = λ m h. refl;
      }
    where
      nothing : (x m : ℕ) (c : Cell) → join_cells c (asked_in j x t (k ∷ []) m) ≡ c
      nothing x m c = ap (join_cells c) (asked_one x m k ∙ rw e) ∙ join_nothing c

  -- a stimulus narrows its node
  module _ (k : Clause) (row : List Pair) (word : ℕ) {r : ℕ} {new : Pair} (side : k.side ≡ Stimulus) (timely : on k t ≡ true) (inside : k.node < j.netlist.size) (room : k.node < length row)
      (guard : (i : ℕ) → i < 64 → bit_of word i ≡ truth j.expressions (64 * g + i) k.guard) (narrowed : Narrows (pair_at row k.node) word k.value new) (tells : Collided new r) where
    abbrev row' : List Pair
    row' = slice_set row k.node new

    -- it asks at its node where its guard is true, and nowhere else
    asked_here : (i : ℕ) → i < 64 → asked_in j (64 * g + i) t (k ∷ []) k.node ≡ value (cond (bit_of word i) (bit k.value) v_x)
    unfolding asks speaks
    asked_here i l =
        let on : asks j Stimulus (64 * g + i) t k.node k ≡ bit_of word i = rw (timely, eq-eqb k.node k.node refl, side, ← guard i l) (and-true (bit_of word i)) in
        asked_one (64 * g + i) k.node k ∙ ap (λ b. value (cond b (bit k.value) v_x)) on

    asked_elsewhere : (x m : ℕ) → m ≢ k.node → asked_in j x t (k ∷ []) m ≡ value v_x
    unfolding asks speaks
    asked_elsewhere y m other =
        let off : asks j Stimulus y t m k ≡ false = rw (timely, ne_eqb k.node m (λ e. other (sym e)), side) (and-false (truth j.expressions y k.guard)) in
        asked_one y m k ∙ ap (λ b. value (cond b (bit k.value) v_x)) off

    module _ (i : ℕ) (l : i < 64) (f : ℕ → Cell) (h : Held j row i f) where
      here : cell_at new i ≡ join_cells (f k.node) (asked_in j (64 * g + i) t (k ∷ []) k.node)
      here = narrowed.at i l ∙ ap (λ c. join_cells c (value (cond (bit_of word i) (bit k.value) v_x))) (h.at k.node inside) ∙ ap (join_cells (f k.node)) (sym (asked_here i l))

      elsewhere : (m : ℕ) → m ≢ k.node → join_cells (f m) (asked_in j (64 * g + i) t (k ∷ []) m) ≡ f m
      elsewhere m e = ap (join_cells (f m)) (asked_elsewhere (64 * g + i) m e) ∙ join_nothing (f m)

      cell_new : (m : ℕ) → m < j.netlist.size → Dec (m ≡ k.node) → cell_at (pair_at row' m) i ≡ join_cells (f m) (asked_in j (64 * g + i) t (k ∷ []) m)
      cell_new m n (yes e) = rw e (ap (λ p. cell_at p i) (stored_there row k.node new room) ∙ here)
      cell_new m n (no e) = ap (λ p. cell_at p i) (stored_elsewhere row k.node new m e) ∙ h.at m n ∙ sym (elsewhere m e)

      -- nothing collides but at its node
      clear_new : clear j f ≡ true → clear j (λ m. join_cells (f m) (asked_in j (64 * g + i) t (k ∷ []) m)) ≡ not (collides (cell_at new i))
      clear_new c =
          same_test _ _
          (λ all. of_true _ (ap (λ c. not (collides c)) here ∙ each_e _ j.netlist.size all k.node inside))
          (λ free. each_i _ j.netlist.size (λ m n. go free m n (ℕ_discrete m k.node)))
        where
          go : T (not (collides (cell_at new i))) → (m : ℕ) → m < j.netlist.size → Dec (m ≡ k.node) → not (collides (join_cells (f m) (asked_in j (64 * g + i) t (k ∷ []) m))) ≡ true
          go free m n (yes e) = rw e (ap (λ c. not (collides c)) (sym here) ∙ is_true _ free)
          go free m n (no e) = ap (λ c. not (collides c)) (elsewhere m e) ∙ each_e _ j.netlist.size (of_true _ c) m n

    pub stimulates_one : Stimulates j g t (k ∷ []) row row' r
    stimulates_one =
        record {
          joined = λ i l f h. record { at = λ m n. cell_new i l f h m n (ℕ_discrete m k.node) };
          collided = λ i l f h c. tells.at i l ∙ sym (twice (collides (cell_at new i))) ∙ ap not (sym (clear_new i l f h c));
          only = λ i l f h b. is_false _ (λ all. both_ways (ap collides (sym (here i l f h)) ∙ sym (tells.at i l) ∙ b) (not-true _ (each_e _ j.netlist.size all k.node inside)));
          spared = λ m none. stored_elsewhere row k.node new m (λ e. both_ways (rw (eq-eqb k.node m (sym e))) none);
        }
      where
        twice : (b : Bool) → not (not b) ≡ b
        twice true = refl
        twice false = refl
