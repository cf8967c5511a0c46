-- The expectation, clause by clause.
-- Assumes nothing.
use Rattle.std.proofs.Common.{◌≡◌, ◌≢◌, refl, sym, ◌∙◌, subst, Bool, true, false, not, ◌&&◌, ◌||◌, ℕ, ◌+◌, ◌*◌, ◌<◌, List, [], ◌∷◌, ◌++◌, bit_and, bit_or}
use Rattle.std.proofs.lemmas.List.Folds.{list_any-append}
use borrow.Author.Tests.{eq-eqb}
use Rattle.meaning.specs.Values.{value, has, bit}
use Rattle.meaning.specs.Guards.{bit_of, truth}
use Rattle.meaning.specs.declared.Clause.{Clause}
use Rattle.meaning.specs.declared.Side.{Side}
use Rattle.meaning.specs.declared.Side.TheVariants.{Expectation, Stimulus}
use Rattle.meaning.specs.Jobs.{on, Job, speaks, asks}
use Rattle.meaning.specs.Cases.{missed}
use Rattle.words.specs.declared.Pair.{Pair}
use Rattle.words.specs.Places.{Differs}
use Rattle.words.proofs.Bits.{bit_zero, bit_or_lem, bit_and_lem}
use Rattle.groups.specs.Held.{pair_at, Expects}

pub not_stimulus : (s : Side) → s ≢ Stimulus → s ≡ Expectation
not_stimulus Expectation h = refl
not_stimulus Stimulus h = absurd (h refl)

module _ (j : Job) (g t : ℕ) {row : List Pair} where
  pub expects_none : Expects j g t [] row 0
  expects_none = record { missed = λ i l v h. bit_zero i }

  pub expects_more : {clauses : List Clause} {k : Clause} {d r : ℕ} → k.time ≡ t → Expects j g t clauses row d → Expects j g k.time (k ∷ []) row r → Expects j g t (clauses ++ k ∷ []) row (bit_or d r)
  expects_more {clauses} {k} {d} {r} e s u =
      let now = subst (λ t. Expects j g t (k ∷ []) row r) e u in
      record {
        missed = λ i l v h. bit_or_lem d r i ∙ rw (s.missed i l v h, now.missed i l v h) (sym (list_any-append (λ (k : Clause). missed j (64 * g + i) t k.node (value (v k.node)) k) clauses (k ∷ [])));
      }

  -- a stimulus is not missed
  pub expects_not : (k : Clause) → k.side ≡ Stimulus → Expects j g t (k ∷ []) row 0
  unfolding asks
  expects_not k e = record { missed = λ i l v h. bit_zero i ∙ rw e }

  -- an expectation is where its guard is true and its node differs from what it wants
  pub expects_one : (k : Clause) (word : ℕ) {r : ℕ} → k.side ≡ Expectation → on k t ≡ true → k.node < j.netlist.size
      → ((i : ℕ) → i < 64 → bit_of word i ≡ truth j.expressions (64 * g + i) k.guard) → Differs (pair_at row k.node) k.value r → Expects j g t (k ∷ []) row (bit_and r word)
  unfolding asks speaks
  expects_one k word {r} side timely inside guard d =
      record {
        missed = λ i l v h.
            bit_and_lem r word i
            ∙ rw (d.at i l (h.at k.node inside), guard i l, timely, eq-eqb k.node k.node refl, side) (go (not (has (value (v k.node)) (bit k.value))) (truth j.expressions (64 * g + i) k.guard));
      }
    where
      go : (a b : Bool) → a && b ≡ (((b && true) && a) || false)
      go true true = refl
      go true false = refl
      go false true = refl
      go false false = refl
