-- What is read can be ended: a text begins with each start that reading comes through.
-- Assumes nothing.
use borrow.Author.Tests.{eq-eqb}
use mathlib.Core.Path.{◌≡◌, refl, ◌∙◌, ap, subst}
use mathlib.Core.Bool.{Bool, true, false}
use mathlib.Core.List.{List, [], ◌∷◌, ◌++◌}
use mathlib.Core.Option.{some}
use Prim.Native.Nat.{ℕ, ◌+◌, ◌≤◌}
use lib.ListN.{length}
use Rattle.grammar.specs.Items.{Keyword, GIVEN, EXPECT, WHEN, IS, AT, Item, word, variable, number, mark, letters, spelled, wordlike}
use Rattle.grammar.specs.Spelling.{is_gap, Spells, end, gap, item}
use Rattle.grammar.specs.Grammar.{Text}
use Rattle.grammar.specs.Points.{Point, step, start}
use Rattle.grammar.specs.Bytewise.{Within, ready, spelling, digits, State, at, tail, fed_ready, fed_digits, fed, reads, or_stops, run, read_text}
use Rattle.grammar.proofs.Steps.{steps, chain}
use Rattle.grammar.proofs.Options.{each, both_steps}
use Rattle.grammar.proofs.Finish.{steps_finish}
use Rattle.grammar.proofs.Reached.{reached}
use Rattle.grammar.proofs.After.{after, run_after}
use Rattle.grammar.proofs.SpelledRuns.{spelled_runs}
use Rattle.grammar.proofs.Moves.{Moves, over_gap, over_mark, over_variable, into_word, in_word, word_end, into_number, in_number, past_number, moves}

-- within a word letters are to come, and a number read so far may stand
abbrev Held : ℕ → ℕ → Within → Point → Type 0
Held k n (ready touching) p = Unit {0}
Held k n (spelling []) p = ⊥
Held k n (spelling (c ∷ s)) p = Unit {0}
Held k n (digits v) p = (q : Point) × (step k n p (number v) ≡ some q)

record Reached (k n : ℕ) (σ : State) : Type 0 where
  items : List Item
  stepped : steps k n start items ≡ some σ.point
  held : Held k n σ.within σ.point

-- items with a space before each
laid : List Item → List ℕ
laid [] = []
laid (a ∷ is) = 32 ∷ spelled a ++ laid is

laid_spells : (touching : Bool) (is : List Item) → Spells touching is (laid is)
unfolding laid is_gap
laid_spells touching [] = end
laid_spells touching (a ∷ is) = gap refl (item refl (laid_spells (wordlike a) is))

more_letters : (k n : ℕ) (w : Keyword) (p : Point) → Held k n (spelling (tail (letters w))) p
unfolding letters
more_letters k n GIVEN p = tt
more_letters k n EXPECT p = tt
more_letters k n WHEN p = tt
more_letters k n IS p = tt
more_letters k n AT p = tt

module _ (k n : ℕ) where
  and_item : {w w' : Within} {p q : Point} (a : Item) → Reached k n (at w p) → step k n p a ≡ some q → Held k n w' q → Reached k n (at w' q)
  unfolding steps
  and_item a r e h = record { items = r.items ++ a ∷ []; stepped = chain k n start r.items (a ∷ []) r.stepped (rw e); held = h }

  still : {w w' : Within} {p : Point} → Reached k n (at w p) → Held k n w' p → Reached k n (at w' p)
  still r h = record { items = r.items; stepped = r.stepped; held = h }

  forth : {w : Within} {p : Point} {b : ℕ} {σ : State} → Moves k n w p b σ → Reached k n (at w p) → Reached k n σ
  forth (over_gap g) r = still r tt
  forth (over_mark m e d) r = and_item (mark m) r d tt
  forth (over_variable i e d) r = and_item (variable i) r d tt
  forth (into_word {q = q} w e d) r = and_item (word w) r d (more_letters k n w q)
  forth (in_word e) r = still r tt
  forth (word_end e) r = still r tt
  forth (into_number d q l e f) r = still r (q, f)
  forth (in_number d q h l e f) r = still r (q, f)
  forth (past_number {v = v} e m) r = forth m (and_item (number v) r e tt)

  reached_after : (σ : State) (u : List ℕ) {τ : State} → Reached k n σ → after k n σ u ≡ some τ → Reached k n τ
  unfolding after fed
  reached_after σ [] {τ} r e = let d : σ ≡ τ = cc in subst (Reached k n) d r
  reached_after σ (b ∷ u) r e =
      let (ρ, d, f) = both_steps (fed k n σ b) (λ ρ. after k n ρ u) e in
      reached_after ρ u (forth (each _ (moves k n σ.within σ.point b) d) r) f

  rest_read : (p : Point) (c : ℕ) (s : List ℕ) → after k n (at (spelling (c ∷ s)) p) (c ∷ s) ≡ some (at (ready true) p)
  unfolding after fed
  rest_read p c [] = rw (eq-eqb c c refl)
  rest_read p c (d ∷ s) = rw (eq-eqb c c refl) (rest_read p d s)

  -- the rest of a word, or a space after a number
  settled : (w : Within) (p : Point) → Reached k n (at w p)
      → (rest : List ℕ) × (touching : Bool) × (q : Point) × (after k n (at w p) rest ≡ some (at (ready touching) q)) × Reached k n (at (ready touching) q)
  unfolding after fed fed_digits fed_ready is_gap
  settled (ready touching) p r = ([], touching, p, refl, r)
  settled (spelling []) p r = absurd r.held
  settled (spelling (c ∷ s)) p r = (c ∷ s, true, p, rest_read p c s, still r tt)
  settled (digits v) p r = let (q, e) = r.held in (32 ∷ [], false, q, rw e, and_item (number v) r e tt)

module _ (k n : ℕ) (few : k ≤ 26) (some-node : 1 ≤ n) where
  reads_on : (i : ℕ) (σ : State) → Reached k n σ → (rest : List ℕ) × (t : Text) × (run k n i σ rest ≡ reads t)
  reads_on i σ r =
      let (rest, touching, q, c, m) = settled k n σ.within σ.point r in
      let (more, last, t, f, g) = steps_finish k n some-node m.items q m.stepped in
      let (said, sound, same) = reached k n m.items q m.stepped in
      let s = spelled_runs k n few (i + length rest) q last sound (laid_spells touching more) f ∙ ap (or_stops _) g in
      (rest ++ laid more, t, run_after k n i σ rest (laid more) c ∙ s)

  pub goes_on : (u : List ℕ) (σ : State) → after k n (at (ready false) start) u ≡ some σ → (rest : List ℕ) × (t : Text) × (read_text k n (u ++ rest) ≡ reads t)
  unfolding steps
  goes_on u σ e =
      let begun : Reached k n (at (ready false) start) = record { items = []; stepped = refl; held = tt } in
      let (rest, t, f) = reads_on (0 + length u) σ (reached_after k n (at (ready false) start) u begun e) in
      (rest, t, run_after k n 0 (at (ready false) start) u rest e ∙ f)
