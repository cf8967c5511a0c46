-- The nodes of one kind of gate, gathered one by one and visited one by one.
-- Assumes nothing.
use Rattle.std.proofs.Common.{◌≡◌, ◌≢◌, sym, ◌∙◌, ap, subst, true, ◌||◌, ℕ, ◌+◌, ◌<◌, List, [], ◌∷◌, ◌++◌, length, slice_set, arith, All}
use Rattle.std.proofs.Math.Bool.{or-false, or-true}
use Rattle.std.proofs.lemmas.List.Elements.{All-push, All-weaker, Contains-append_left, Contains-push}
use Rattle.std.proofs.lemmas.List.Folds.{list_any-append}
use native.Mathlib.Decide.{ℕ_discrete}
use borrow.Author.Count.{below_more}
use borrow.Author.Tests.{eq-eqb, ne_eqb}
use lib.Dec.{eqb}
use lib.Seq.{get_or-set_same, get_or-set_other}
use Rattle.meaning.specs.declared.Gate.{Gate}
use Rattle.meaning.specs.Jobs.{Job}
use Rattle.words.specs.declared.Pair.{Pair}
use Rattle.groups.specs.declared.wires.Wire.{Wire}
use Rattle.groups.specs.Held.{pair_at}
use Rattle.groups.specs.Wired.{Stands, stands_for, Gathered, Visited, left, given, Visits}

-- one wire more
stands_more : (wires : List Wire) (w : Wire) (m : ℕ) → stands_for (wires ++ w ∷ []) m ≡ (stands_for wires m || eqb w.node m)
stands_more wires w m = list_any-append (λ (w : Wire). eqb w.node m) wires (w ∷ []) ∙ ap (λ b. stands_for wires m || b) (or-false (eqb w.node m))

-- a node more: a wire stands for it if it has the gate
module _ {j : Job} {m : ℕ} {gate : Gate} {wires : List Wire} (g : Gathered j m gate wires) where
  one_more : All (Stands j (m + 1) gate) wires
  one_more = All-weaker (Stands j m gate) (Stands j (m + 1) gate) (λ w s. record { below = omega (arith, s.below); is = s.is }) wires g.stands

  pub gathered_skip : (j.netlist.node m).gate ≢ gate → Gathered j (m + 1) gate wires
  gathered_skip other = record { stands = one_more; all = below_more (λ k. (j.netlist.node k).gate ≡ gate → stands_for wires k ≡ true) m g.all (λ e. absurd (other e)) }

  pub gathered_more : (w : Wire) → w.node ≡ m → j.netlist.node m ≡ record { gate = gate; p = w.p; q = w.q; r = w.r } → Gathered j (m + 1) gate (wires ++ w ∷ [])
  gathered_more w here is =
      record {
        stands = All-push (Stands j (m + 1) gate) wires w one_more (record { below = omega arith; is = ap j.netlist.node here ∙ is });
        all = below_more (λ k. (j.netlist.node k).gate ≡ gate → stands_for (wires ++ w ∷ []) k ≡ true) m
            (λ k l e. stands_more wires w k ∙ rw (g.all k l e))
            (λ e. stands_more wires w m ∙ rw (eq-eqb w.node m here) (or-true (stands_for wires m)));
      }

-- a pair is stored: there it is new, elsewhere as it was
pub stored_there : (row : List Pair) (at : ℕ) (new : Pair) → at < length row → pair_at (slice_set row at new) at ≡ new
stored_there row at new h = get_or-set_same row at new _ h

pub stored_elsewhere : (row : List Pair) (at : ℕ) (new : Pair) (m : ℕ) → m ≢ at → pair_at (slice_set row at new) m ≡ pair_at row m
stored_elsewhere row at new m h = get_or-set_other row at m new _ h

module _ {gives : Pair → Pair → Pair → Pair → Type 0} {row next : List Pair} where
  pub visits_more : {wires : List Wire} {next' : List Pair} (w : Wire) (new : Pair) → w.node < length next' → gives (pair_at row w.p) (pair_at row w.q) (pair_at row w.r) new
      → Visits gives wires row next next' → Visits gives (wires ++ w ∷ []) row next (slice_set next' w.node new)
  visits_more {wires} {next'} w new h f v = record { at = λ m. go m (ℕ_discrete m w.node) }
    where
      still : {m : ℕ} {old now new : Pair} → m ≢ w.node → new ≡ now → Visited gives wires row m old now → Visited gives (wires ++ w ∷ []) row m old new
      still {m} other q (left none same) = left (stands_more wires w m ∙ rw (none, ne_eqb w.node m (λ e. other (sym e)))) (q ∙ same)
      still other q (given u c e g) = given u (Contains-append_left wires (w ∷ []) u c) e (subst (gives _ _ _) (sym q) g)

      go : (m : ℕ) → Dec (m ≡ w.node) → Visited gives (wires ++ w ∷ []) row m (pair_at next m) (pair_at (slice_set next' w.node new) m)
      go m (yes q) = given w (Contains-push wires w) (sym q) (subst (gives _ _ _) (sym (ap (pair_at (slice_set next' w.node new)) q ∙ stored_there next' w.node new h)) f)
      go m (no q) = still q (stored_elsewhere next' w.node new m q) (v.at m)
