-- What is read is spelled: from a text's reading, its items, one by one.
-- Assumes nothing.
use mathlib.Core.Path.{◌≡◌, refl, sym, ◌∙◌, ap, subst}
use mathlib.Core.Bool.{Bool, true, false, ◌&&◌, and-false}
use mathlib.Core.List.{List, [], ◌∷◌, ◌++◌}
use mathlib.Core.Option.{Option, some, none}
use native.Mathlib.Omega.{arith}
use Prim.Native.Nat.{ℕ, suc, ◌+◌, ◌*◌, ◌/◌, ◌%◌, ◌<◌}
use lib.Seq.{append_snoc}
use Rattle.texts.specs.Decimals.{digit, decimal}
use Rattle.texts.proofs.DecimalLaws.{decimal_small, decimal_more}
use Rattle.grammar.specs.Items.{Item, word, variable, number, mark, spelled, wordlike}
use Rattle.grammar.specs.Spelling.{Spells, end, gap, item}
use Rattle.grammar.specs.Grammar.{Text}
use Rattle.grammar.specs.Points.{Point, step, finished}
use Rattle.grammar.specs.Bytewise.{Within, ready, spelling, digits, State, at, fed, reads, or_stops, run}
use Rattle.grammar.proofs.Steps.{steps}
use Rattle.grammar.proofs.Options.{each}
use Rattle.grammar.proofs.After.{not_both, read_on}
use Rattle.grammar.proofs.Moves.{Moves, over_gap, over_mark, over_variable, into_word, in_word, word_end, into_number, in_number, past_number, moves}

-- from point p the bytes spell items that lead to the end of text t
abbrev pub Spelt : ℕ → ℕ → Bool → Point → List ℕ → Text → Type 0
Spelt k n touching p s t = (is : List Item) × (q : Point) × Spells touching is s × (steps k n p is ≡ some q) × (finished q ≡ some t)

-- the same from any state: within a word its letters come first, within a number the rest of its digits
abbrev Comes : ℕ → ℕ → Within → Point → List ℕ → Text → Type 0
Comes k n (ready touching) p s t = Spelt k n touching p s t
Comes k n (spelling rest) p s t = (s' : List ℕ) × (s ≡ rest ++ s') × Spelt k n true p s' t
Comes k n (digits v) p s t = (x : ℕ) × (q : Point) × (s' : List ℕ) × (decimal v ++ s ≡ decimal x ++ s') × (step k n p (number x) ≡ some q) × Spelt k n true q s' t

decimal_next : (v d : ℕ) → 0 < v → d < 10 → decimal (10 * v + d) ≡ decimal v ++ digit d ∷ []
decimal_next v d h l =
    let q : (10 * v + d) / 10 ≡ v = omega arith in
    let r : (10 * v + d) % 10 ≡ d = omega arith in
    decimal_more (10 * v + d) (omega arith) ∙ rw (q, r)

module _ (k n : ℕ) (t : Text) where
  with_item : {touching : Bool} (p : Point) {q : Point} (a : Item) {s : List ℕ} → touching && wordlike a ≡ false → step k n p a ≡ some q → Spelt k n (wordlike a) q s t
      → Spelt k n touching p (spelled a ++ s) t
  unfolding steps
  with_item p a h e (is, q, r, f, g) = (a ∷ is, q, item h r, rw e f, g)

  back : {w : Within} {p : Point} {b : ℕ} {σ : State} (s : List ℕ) → Moves k n w p b σ → Comes k n σ.within σ.point s t → Comes k n w p (b ∷ s) t
  unfolding spelled
  back s (over_gap g) (is, q, r, f, e) = (is, q, gap g r, f, e)
  back s (over_mark {touching = touching} {p = p} m e d) c = subst (λ b. Spelt k n touching p (b ∷ s) t) e (with_item p (mark m) (and-false touching) d c)
  back s (over_variable {p = p} i e d) c = subst (λ b. Spelt k n false p (b ∷ s) t) e (with_item p (variable i) refl d c)
  back s (into_word {p = p} {b = b} w e d) (s', f, c) = subst (λ u. Spelt k n false p u t) (ap (λ u. u ++ s') e ∙ ap (λ u. b ∷ u) (sym f)) (with_item p (word w) refl d c)
  back s (in_word e) (s', f, c) = (s', cc, c)
  back s (word_end e) c = (s, cc, c)
  back s (into_number {p = p} {b = b} d q l e z) (x, r, s', f, g, c) =
      let h : decimal d ++ s ≡ b ∷ s = rw (decimal_small d l, e) in
      subst (λ u. Spelt k n false p u t) (sym f ∙ h) (with_item p (number x) refl g c)
  back s (in_number {b = b} {v = v} d q h l e z) (x, r, s', f, g, c) =
      let w : decimal (10 * v + d) ++ s ≡ decimal v ++ b ∷ s = rw (decimal_next v d h l, append_snoc (decimal v) (digit d) s, e) in
      (x, r, s', sym w ∙ f, g, c)
  back s (past_number {q = q} {b = b} {v = v} e m) c = (v, q, b ∷ s, refl, e, back s m c)

  comes : (i : ℕ) (w : Within) (p : Point) (s : List ℕ) → run k n i (at w p) s ≡ reads t → Comes k n w p s t
  unfolding run fed steps
  comes i (ready touching) p [] e = ([], p, end, refl, go (finished p) e)
    where
      go : (o : Option Text) → or_stops i o ≡ reads t → o ≡ some t
      go none e = absurd (not_both e)
      go (some u) e = cc
  comes i (spelling rest) p [] e = absurd (not_both e)
  comes i (digits v) p [] e = absurd (not_both e)
  comes i w p (b ∷ s) e =
      let (σ, d, f) = read_on i (fed k n (at w p) b) (λ σ. run k n (suc i) σ s) e in
      back s (each _ (moves k n w p b) d) (comes (suc i) σ.within σ.point s f)

pub runs_spelled : (k n i : ℕ) (touching : Bool) (p : Point) (s : List ℕ) (t : Text) → run k n i (at (ready touching) p) s ≡ reads t → Spelt k n touching p s t
runs_spelled k n i touching p s t = comes k n t i (ready touching) p s
