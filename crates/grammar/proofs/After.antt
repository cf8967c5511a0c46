-- Reading the start of a text: what is read of the rest, and where reading stops.
-- Assumes nothing.
use mathlib.Core.Path.{◌≡◌, refl, sym, ◌∙◌, ap}
use mathlib.Core.List.{List, [], ◌∷◌, ◌++◌}
use mathlib.Core.Option.{Option, some, none, none-ne-some}
use native.Mathlib.Omega.{arith}
use Prim.Native.Nat.{ℕ, suc, ◌+◌, ◌-◌, ◌≤◌, ◌<◌}
use lib.ListN.{length, take}
use Rattle.grammar.specs.Grammar.{Text}
use Rattle.grammar.specs.Points.{Point, finished}
use Rattle.grammar.specs.Bytewise.{Within, ready, spelling, digits, State, fed, Outcome, reads, stops, or_stops, at_end, going_on, run}
use Rattle.grammar.proofs.Options.{and_then, both_steps}

-- the state after these bytes, if they may stand there
unfoldable pub after : ℕ → ℕ → State → List ℕ → Option State
after k n σ [] = some σ
after k n σ (b ∷ s) = and_then (fed k n σ b) (λ σ'. after k n σ' s)

pub not_both : {i : ℕ} {t : Text} → stops i ≡ reads t → ⊥
not_both e = let z : ◌≡◌ {A = ℕ} 0 1 = cc in omega arith

pub read_on : (i : ℕ) (o : Option State) (f : State → Outcome) {t : Text} → going_on i o f ≡ reads t → (σ : State) × (o ≡ some σ) × (f σ ≡ reads t)
read_on i none f e = absurd (not_both e)
read_on i (some σ) f e = (σ, refl, e)

module _ (k n : ℕ) where
  pub run_after : (i : ℕ) (σ : State) (u v : List ℕ) {σ' : State} → after k n σ u ≡ some σ' → run k n i σ (u ++ v) ≡ run k n (i + length u) σ' v
  unfolding after run
  run_after i σ [] v {σ'} e =
      let z : i + 0 ≡ i = omega arith in
      let s : σ ≡ σ' = cc in
      rw (z, s)
  run_after i σ (b ∷ u) v {σ'} e =
      let (τ, d, f) = both_steps (fed k n σ b) (λ τ. after k n τ u) e in
      let z : suc i + length u ≡ i + suc (length u) = omega arith in
      rw d (run_after (suc i) τ u v f ∙ ap (λ j. run k n j σ' v) z)

  pub after_after : (σ : State) (u v : List ℕ) {σ' : State} → after k n σ u ≡ some σ' → after k n σ (u ++ v) ≡ after k n σ' v
  unfolding after
  after_after σ [] v {σ'} e = let s : σ ≡ σ' = cc in rw s
  after_after σ (b ∷ u) v e = let (τ, d, f) = both_steps (fed k n σ b) (λ τ. after k n τ u) e in rw d (after_after τ u v f)

  -- whoever reads a text reads each start of it
  reads_after : (i : ℕ) (σ : State) (u v : List ℕ) {t : Text} → run k n i σ (u ++ v) ≡ reads t → (σ' : State) × (after k n σ u ≡ some σ')
  unfolding after run
  reads_after i σ [] v e = (σ, refl)
  reads_after i σ (b ∷ u) v e =
      let (τ, d, f) = read_on i (fed k n σ b) (λ τ. run k n (suc i) τ (u ++ v)) e in
      let (σ', g) = reads_after (suc i) τ u v f in
      (σ', ap (λ o. and_then o (λ τ. after k n τ u)) d ∙ g)

  -- so where a start is refused no text that begins with it is read
  pub no_reading : (i : ℕ) (σ : State) (u : List ℕ) → after k n σ u ≡ none → (v : List ℕ) (t : Text) → ¬ (run k n i σ (u ++ v) ≡ reads t)
  no_reading i σ u e v t f = let (τ, g) = reads_after i σ u v f in none-ne-some τ (sym e ∙ g)

-- reading from place i stops at place j: the bytes before it may stand, those up to it may not
pub record Stopped (k n i : ℕ) (σ : State) (s : List ℕ) (j : ℕ) : Type 0 where
  pub from : i ≤ j
  pub within : j ≤ i + length s
  pub state : State
  pub before : after k n σ (take (j - i) s) ≡ some state
  pub not_past : j < i + length s → after k n σ (take (suc (j - i)) s) ≡ none

at_end_lem : (i j : ℕ) (w : Within) (p : Point) → at_end i w p ≡ stops j → i ≡ j
at_end_lem i j (ready touching) p e = go (finished p) e
  where
    go : (o : Option Text) → or_stops i o ≡ stops j → i ≡ j
    go none e = cc
    go (some t) e = absurd (not_both (sym e))
at_end_lem i j (spelling s) p e = cc
at_end_lem i j (digits v) p e = cc

pub run_stops : (k n i : ℕ) (σ : State) (s : List ℕ) (j : ℕ) → run k n i σ s ≡ stops j → Stopped k n i σ s j
unfolding after run
run_stops k n i σ [] j e =
    let h = at_end_lem i j σ.within σ.point e in
    let z : j - i ≡ 0 = omega arith in
    record { from = omega arith; within = omega arith; state = σ; before = rw z; not_past = λ l. absurd (omega arith) }
run_stops k n i σ (b ∷ s) j e = go (fed k n σ b) refl (λ τ. run_stops k n (suc i) τ s j) e
  where
    go : (o : Option State) → fed k n σ b ≡ o → ((τ : State) → run k n (suc i) τ s ≡ stops j → Stopped k n (suc i) τ s j)
        → going_on i o (λ τ. run k n (suc i) τ s) ≡ stops j → Stopped k n i σ (b ∷ s) j
    go none d ih e =
        let h : i ≡ j = cc in
        let z : j - i ≡ 0 = omega arith in
        record { from = omega arith; within = omega arith; state = σ; before = rw z; not_past = λ l. rw (z, d) }
    go (some τ) d ih e =
        let r = ih τ e in
        let z : j - i ≡ suc (j - suc i) = omega (arith, r.from) in
        record { from = omega arith; within = omega arith; state = r.state; before = rw (z, d) r.before; not_past = λ l. rw (z, d) (r.not_past (omega arith)) }
