-- A table of refusals in two parts: which part gave an answer; and a test of the whole in front of a table.
-- Assumes nothing.
use Rattle.std.specs.Prelude.{Option, None, Some}
use mathlib.Core.Path.{◌≡◌, refl, sym, ◌∙◌, ap}
use mathlib.Core.Logic.{◌⊎◌, inl, inr, ⊎_elim, ◌↔◌}
use mathlib.Core.Bool.{Bool, true, false}
use mathlib.Core.List.{List, [], ◌∷◌, ◌++◌}
use Prim.Native.Nat.{ℕ}
use Rattle.scans.specs.First.{first_bad}
use Rattle.scans.specs.Refusals.{Stage, whole, unless_at, in_order}
use Rattle.scans.proofs.Bools.{both_ways}
use Rattle.scans.proofs.Exactly.{in_order_append, refused_still, passed_on, answer_is}

module _ {A : Type 0} (refused : ℕ → ℕ → ℕ → A) where
  -- a table's answer is its own refusal, whatever comes after it, or what comes after it
  pub own_or_next : (stages : List Stage) {next r : A} (last : A) → in_order refused stages next ≡ r → (in_order refused stages last ≡ r) ⊎ ((in_order refused stages last ≡ last) × (next ≡ r))
  unfolding in_order unless_at
  own_or_next [] last e = inr (refl, e)
  own_or_next (st ∷ rest) {next} {r} last e = go (first_bad st.ok st.count) e (own_or_next rest {next = next} {r = r} last)
    where
      go : (x : Option ℕ) → unless_at x (λ i. refused st.number (st.block i) (st.slot i)) (in_order refused rest next) ≡ r
          → (in_order refused rest next ≡ r → (in_order refused rest last ≡ r) ⊎ ((in_order refused rest last ≡ last) × (next ≡ r)))
          → (unless_at x (λ i. refused st.number (st.block i) (st.slot i)) (in_order refused rest last) ≡ r) ⊎ ((unless_at x (λ i. refused st.number (st.block i) (st.slot i)) (in_order refused rest last) ≡ last) × (next ≡ r))
      go None q ih = ih q
      go (Some i) q ih = inl q

  module _ (first rest : List Stage) {last : A} (answer : A) (never : (m b l : ℕ) → refused m b l ≡ last → ⊥) where
    -- refused by the first part, or the first part's answer was given and the second part refuses
    pub either_part : {r : A} → (last ≡ r → ⊥) → (in_order refused (first ++ rest) answer ≡ r) ↔ ((in_order refused first last ≡ r) ⊎ ((in_order refused first last ≡ last) × (in_order refused rest answer ≡ r)))
    either_part {r} apart = (λ e. own_or_next first last (sym joined ∙ e), back)
      where
        joined : in_order refused (first ++ rest) answer ≡ in_order refused first (in_order refused rest answer)
        joined = in_order_append refused first rest answer

        back : (in_order refused first last ≡ r) ⊎ ((in_order refused first last ≡ last) × (in_order refused rest answer ≡ r)) → in_order refused (first ++ rest) answer ≡ r
        back (inl e) = joined ∙ refused_still refused first apart e _
        back (inr (e, f)) = joined ∙ passed_on refused first never e _ ∙ f

    -- answered: both parts were passed
    pub both_parts : {r : A} → ((m b l : ℕ) → refused m b l ≡ r → ⊥) → (in_order refused (first ++ rest) answer ≡ r) ↔ ((in_order refused first last ≡ last) × (in_order refused rest answer ≡ r))
    both_parts {r} none = (there, λ e. in_order_append refused first rest answer ∙ passed_on refused first never e.0 _ ∙ e.1)
      where
        there : in_order refused (first ++ rest) answer ≡ r → (in_order refused first last ≡ last) × (in_order refused rest answer ≡ r)
        there e =
            let p : in_order refused first (in_order refused rest answer) ≡ r = sym (in_order_append refused first rest answer) ∙ e in
            let q = answer_is refused first none p in
            (passed_on refused first none (ap (in_order refused first) (sym q) ∙ p) last, q)

  -- a test of the whole, by what it says where it holds and where it fails: it refuses, or leaves the rest
  pub test_or_rest : {P Q : Type 0} (number : ℕ) (x : Bool) → (x ≡ true) ↔ P → (x ≡ false) ↔ Q → (rest : List Stage) (answer r : A)
      → (in_order refused (whole number x ∷ rest) answer ≡ r) ↔ ((Q × (refused number 0 0 ≡ r)) ⊎ (P × (in_order refused rest answer ≡ r)))
  unfolding in_order unless_at first_bad
  test_or_rest number true p q rest answer r = (λ e. inr (p.0 refl, e), ⊎_elim (λ f. both_ways refl (q.1 f.0)) (λ f. f.1))
  test_or_rest number false p q rest answer r = (λ e. inl (q.0 refl, e), ⊎_elim (λ f. f.1) (λ f. both_ways (p.1 f.0) refl))
