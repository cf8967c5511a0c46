-- The rest of a clause: its slots are filled one after the other, and the semicolon adds it.
-- Assumes nothing.
use borrow.Author.Tests.{ne_eqb}
use mathlib.Core.Path.{◌≡◌, refl, ◌∙◌}
use mathlib.Core.Bool.{Bool, true, false}
use mathlib.Core.List.{List, [], ◌∷◌}
use mathlib.Core.Option.{some, none}
use native.Mathlib.Omega.{arith}
use Prim.Native.Nat.{ℕ, ◌+◌, ◌<◌}
use Rattle.grammar.specs.Items.{IS, AT, Mark, SEMICOLON, mark, mark_byte}
use Rattle.grammar.specs.Guards.{Guard}
use Rattle.grammar.specs.Points.{saying, below, ending, clause_slots, telling, Point, step, finished}
use Rattle.grammar.specs.Bytewise.{ready, stops, reading}
use Rattle.phrases.specs.Places.{Stands, Skips}
use Rattle.phrases.specs.GuardsRead.{in_phase}
use Rattle.assertions.specs.ClausesRead.{awaiting, Fills, Fails, ToldTo, ToldNone}
use Rattle.phrases.proofs.Feeding.{run_past, run_gaps, mark_goes}
use Rattle.phrases.proofs.Stopping.{touching_stops, nothing_goes}

-- gaps and then a mark; touching does not matter to a mark
module _ (k n : ℕ) (text : List ℕ) (p : Point) {i q : ℕ} (sk : Skips text i q) where
  gaps_mark : (touching : Bool) (m : Mark) {r : Point} → Stands text q (mark_byte m) → step k n p (mark m) ≡ some r → reading k n text i (ready touching) p ≡ reading k n text (q + 1) (ready false) r
  gaps_mark touching m s e = run_past k n text touching p sk (λ _. mark_goes k n text touching p m s e) (mark_goes k n text false p m s e)

module _ (k n : ℕ) (text : List ℕ) (p : Point) (used : ℕ) (g : Guard) (ns : List ℕ) {i q : ℕ} (sk : Skips text i q) where
  -- where a semicolon is wanted
  other_mark : ¬ Stands text q 59 → (m : Mark) → Stands text q (mark_byte m) → step k n (in_phase p used (telling g (ending ∷ []) ns)) (mark m) ≡ none
  unfolding step
  other_mark f m s = rw (ne_eqb (mark_byte m) 59 (λ e. f (rw e at s)))

  unended : ¬ Stands text q 59 → awaiting k n text i (ready true) p used g (ending ∷ []) ns ≡ stops q
  unfolding step finished
  unended f =
      let here = in_phase p used (telling g (ending ∷ []) ns) in
      run_past k n text true here sk (λ _. touching_stops k n text here q (λ _. refl) sk.ends (other_mark f))
      (nothing_goes k n text here q (λ _. refl) sk.ends (other_mark f) (λ d h s. refl) (λ v _. refl) (λ w s. refl))

-- gaps, a node, a value, a time, gaps and the semicolon
module _ {text : List ℕ} {n i a : ℕ} (sk : Skips text i a) where
  pub no_node : {j : ℕ} → Fails text false (below n ∷ []) a j → ToldNone text false (clause_slots n) [] i j
  no_node f = record { comes = λ k m p used g. run_gaps k m text (in_phase p used (telling g (clause_slots n) [])) sk ∙ f.comes k m p used g (saying IS) (below 2 ∷ saying AT ∷ below 256 ∷ ending ∷ []) [] }

  module _ {b node : ℕ} (f : Fills text false (below n ∷ []) a b node) where
    on_value : (k m : ℕ) (p : Point) (used : ℕ) (g : Guard) → awaiting k m text i (ready false) p used g (clause_slots n) [] ≡ awaiting k m text b (ready true) p used g (saying IS ∷ below 2 ∷ saying AT ∷ below 256 ∷ ending ∷ []) (node ∷ [])
    on_value k m p used g = run_gaps k m text (in_phase p used (telling g (clause_slots n) [])) sk ∙ f.comes k m p used g (saying IS) (below 2 ∷ saying AT ∷ below 256 ∷ ending ∷ []) []

    pub no_value : {j : ℕ} → Fails text true (saying IS ∷ below 2 ∷ []) b j → ToldNone text false (clause_slots n) [] i j
    no_value x = record { comes = λ k m p used g. on_value k m p used g ∙ x.comes k m p used g (saying AT) (below 256 ∷ ending ∷ []) (node ∷ []) }

    module _ {c value : ℕ} (v : (value < 2) × Fills text true (saying IS ∷ below 2 ∷ []) b c value) where
      on_time : (k m : ℕ) (p : Point) (used : ℕ) (g : Guard) → awaiting k m text i (ready false) p used g (clause_slots n) [] ≡ awaiting k m text c (ready true) p used g (saying AT ∷ below 256 ∷ ending ∷ []) (node ∷ value ∷ [])
      on_time k m p used g = on_value k m p used g ∙ v.1.comes k m p used g (saying AT) (below 256 ∷ ending ∷ []) (node ∷ [])

      pub no_time : {j : ℕ} → Fails text true (saying AT ∷ below 256 ∷ []) c j → ToldNone text false (clause_slots n) [] i j
      no_time x = record { comes = λ k m p used g. on_time k m p used g ∙ x.comes k m p used g ending [] (node ∷ value ∷ []) }

      module _ {d e time : ℕ} (t : (time < 256) × Fills text true (saying AT ∷ below 256 ∷ []) c d time) (sk' : Skips text d e) where
        on_end : (k m : ℕ) (p : Point) (used : ℕ) (g : Guard) → awaiting k m text i (ready false) p used g (clause_slots n) [] ≡ awaiting k m text d (ready true) p used g (ending ∷ []) (node ∷ value ∷ time ∷ [])
        on_end k m p used g = on_time k m p used g ∙ t.1.comes k m p used g ending [] (node ∷ value ∷ [])

        pub no_end : ¬ Stands text e 59 → ToldNone text false (clause_slots n) [] i e
        no_end s = record { comes = λ k m p used g. on_end k m p used g ∙ unended k m text p used g (node ∷ value ∷ time ∷ []) sk' s }

        pub told_all : Stands text e 59 → ToldTo text false (clause_slots n) [] i node value time (e + 1)
        unfolding step
        told_all s =
            record {
              past = omega (arith, sk.forward, f.past, v.1.past, t.1.past, sk'.forward);
              inside = omega (arith, s.inside);
              comes = λ k m p used g. on_end k m p used g ∙ gaps_mark k m text (in_phase p used (telling g (ending ∷ []) (node ∷ value ∷ time ∷ []))) sk' true SEMICOLON s refl;
            }
