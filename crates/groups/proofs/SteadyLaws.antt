-- Nodes whose gate has no operand, and a step: kind by kind, what is written is what the gates force.
-- Assumes nothing.
use Rattle.std.proofs.Common.{◌≡◌, ◌≢◌, refl, sym, ◌∙◌, ap, subst, inl, inr, ◌⊎◌, Bool, true, false, ℕ, ◌-◌, ◌^◌, ◌<◌, List, [], ◌∷◌, ◌++◌, length, slice_set, arith, Contains}
use Rattle.std.proofs.Math.Bool.{or-false}
use Rattle.std.proofs.lemmas.List.Folds.{list_any-append}
use native.Mathlib.Decide.{ℕ_discrete}
use borrow.Author.Tests.{ne_eqb}
use lib.Dec.{eqb}
use Rattle.std.proofs.lemmas.List.Elements.{All-contains}
use Rattle.scans.proofs.Bools.{both_ways}
use Rattle.meaning.specs.Values.{v_x, value}
use Rattle.meaning.specs.declared.Gate.{Gate}
use Rattle.meaning.specs.declared.Gate.TheVariants.{Input, Zero, One, Buf, Not, And, Or, Xor, Mux}
use Rattle.meaning.specs.declared.Node.{Node}
use Rattle.meaning.specs.declared.Clause.{Clause}
use Rattle.meaning.specs.Gates.{arity}
use Rattle.meaning.specs.Jobs.{Job}
use Rattle.meaning.specs.Runs.{forces}
use Rattle.meaning.proofs.Cells.{gate_lacks}
use Rattle.words.specs.declared.Pair.{Pair}
use Rattle.words.specs.Places.{cell_at, Forces}
use Rattle.words.proofs.Bits.{bit_all}
use Rattle.decoded.specs.declared.Plan.{Plan}
use Rattle.decoded.specs.Plans.{node_of}
use Rattle.decoded.specs.Meant.{job_in}
use Rattle.groups.specs.declared.wires.Wire.{Wire}
use Rattle.groups.specs.Held.{pair_at, named_in, Stimulates}
use Rattle.groups.specs.Wired.{Stands, Gathered, Visited, left, given, Visits, Steps}
use Rattle.groups.specs.Steady.{SteadyAt, Steady, SteadyBut}
use Rattle.groups.proofs.WireLaws.{stored_there, stored_elsewhere}

-- it could be either, at every place
abbrev pub unknown : Pair
unknown = record { zeros = 2 ^ 64 - 1; ones = 2 ^ 64 - 1 }

pub unknown_at : (i : ℕ) → i < 64 → cell_at unknown i ≡ value v_x
unfolding cell_at
unknown_at i l = rw (bit_all i l)

-- what a gate without operands forces from such nodes it forces from any
pub steady_forces : {gate : Gate} {new : Pair} → Forces gate unknown unknown unknown new → arity gate ≡ 0 → (p q r : Pair) → Forces gate p q r new
steady_forces {gate} f none p q r =
    record { at = λ i {a} {b} {c} l ea eb ec. f.at i l (unknown_at i l) (unknown_at i l) (unknown_at i l) ∙ ap value (sym (gate_lacks gate a b c ∙ rw none)) }

module _ (j : Job) (row : List Pair) where
  -- each node whose gate is one of some has what that forces
  pub record ForcedFor (some : Gate → Type 0) (next : List Pair) : Type 0 where
    pub at : (m : ℕ) → m < j.netlist.size → some (j.netlist.node m).gate
        → (let d = j.netlist.node m in Forces d.gate (pair_at row d.p) (pair_at row d.q) (pair_at row d.r) (pair_at next m))

  -- nodes without operands do before any gate is visited
  forced_none : {next : List Pair} → Steady j next → ForcedFor (λ g. arity g ≡ 0) next
  forced_none s = record { at = λ m l h. (s.at m l).from h _ _ _ }

  -- the nodes of a gate are visited: they do as well, and the others as before
  module _ {gate : Gate} {gives : Pair → Pair → Pair → Pair → Type 0} {wires : List Wire} {next next' : List Pair} (means : (p q r new : Pair) → gives p q r new → Forces gate p q r new)
      (g : Gathered j j.netlist.size gate wires) (v : Visits gives wires row next next') where
    is_node : {m : ℕ} (w : Wire) → Contains wires w → w.node ≡ m → j.netlist.node m ≡ record { gate = gate; p = w.p; q = w.q; r = w.r }
    is_node w c e = ap j.netlist.node (sym e) ∙ (All-contains (Stands j j.netlist.size gate) wires w g.stands c).is

    forced_more : {some : Gate → Type 0} → ForcedFor some next → ForcedFor (λ g. some g ⊎ (g ≡ gate)) next'
    forced_more {some} b = record { at = λ m l h. go m l h (v.at m) }
      where
        go : (m : ℕ) → m < j.netlist.size → some (j.netlist.node m).gate ⊎ ((j.netlist.node m).gate ≡ gate) → Visited gives wires row m (pair_at next m) (pair_at next' m)
            → (let d = j.netlist.node m in Forces d.gate (pair_at row d.p) (pair_at row d.q) (pair_at row d.r) (pair_at next' m))
        go m l h (given w c e f) = subst (λ (d : Node). Forces d.gate (pair_at row d.p) (pair_at row d.q) (pair_at row d.r) (pair_at next' m)) (sym (is_node w c e)) (means _ _ _ _ f)
        go m l (inl h) (left none same) = let d = j.netlist.node m in subst (Forces d.gate (pair_at row d.p) (pair_at row d.q) (pair_at row d.r)) (sym same) (b.at m l h)
        go m l (inr e) (left none same) = both_ways (g.all m l e) none

    steady_more : (arity gate ≡ 0 → ⊥) → Steady j next → Steady j next'
    steady_more has s = record { at = λ m l. go m (s.at m l) (v.at m) }
      where
        go : (m : ℕ) → SteadyAt (j.netlist.node m).gate (pair_at next m) → Visited gives wires row m (pair_at next m) (pair_at next' m) → SteadyAt (j.netlist.node m).gate (pair_at next' m)
        go m b (left none same) = subst (SteadyAt (j.netlist.node m).gate) (sym same) b
        go m b (given w c e f) = record { from = λ none. absurd (has (sym (ap (λ (d : Node). arity d.gate) (is_node w c e)) ∙ none)) }

  -- a kind more is visited
  pub record Stepping (some : Gate → Type 0) (next : List Pair) : Type 0 where
    pub forced : ForcedFor some next
    pub steady : Steady j next

  pub step_none : {next : List Pair} → Steady j next → Stepping (λ g. arity g ≡ 0) next
  step_none s = record { forced = forced_none s; steady = s }

  pub step_more : {gate : Gate} {gives : Pair → Pair → Pair → Pair → Type 0} {wires : List Wire} {next next' : List Pair} {some : Gate → Type 0} → ((p q r new : Pair) → gives p q r new → Forces gate p q r new)
      → (arity gate ≡ 0 → ⊥) → Gathered j j.netlist.size gate wires → Visits gives wires row next next' → Stepping some next → Stepping (λ g. some g ⊎ (g ≡ gate)) next'
  step_more means has g v s = record { forced = forced_more means g v s.forced; steady = steady_more means g v has s.steady }

-- each node has what its gate forces: so does the row
pub steps_all : (p : Plan) (row : List Pair) {some : Gate → Type 0} {next : List Pair} → ((g : Gate) → some g) → Stepping (job_in p) row some next → Steps (job_in p) row next
unfolding forces
steps_all p row every s =
    record {
      at = λ i l v held. record {
        at = λ m g.
            let d : Node = node_of p.nodes m in
            let within = p.decoded.node m g in
            (s.forced.at m g (every d.gate)).at i l (held.at _ within.p) (held.at _ within.q) (held.at _ within.r) ∙ ap value (gate_lacks d.gate (v d.p) (v d.q) (v d.r));
      };
    }

-- after the stimulus the nodes are steady that no clause of it names
pub steady_spared : {j : Job} {g t r : ℕ} {clauses : List Clause} {row row' : List Pair} → Steady j row → Stimulates j g t clauses row row' r → SteadyBut j clauses row'
steady_spared {j} b s = record { at = λ m l none. subst (SteadyAt (j.netlist.node m).gate) (sym (s.spared m none)) (b.at m l) }

module _ (j : Job) (all : List Clause) where
  -- the nodes are steady that none of all these clauses names, or one of those that a walk has come to
  pub record Renewed (yielded : List Clause) (row : List Pair) : Type 0 where
    pub at : (m : ℕ) → m < j.netlist.size → (named_in yielded m ≡ true) ⊎ (named_in all m ≡ false) → SteadyAt (j.netlist.node m).gate (pair_at row m)

  pub renewed_none : {row : List Pair} → SteadyBut j all row → Renewed [] row
  renewed_none {row} b = record { at = λ m l h. go m l h }
    where
      go : (m : ℕ) → m < j.netlist.size → (false ≡ true) ⊎ (named_in all m ≡ false) → SteadyAt (j.netlist.node m).gate (pair_at row m)
      go m l (inl e) = both_ways e refl
      go m l (inr e) = b.at m l e

  -- and the node of one more, where it is one of the job's
  pub renewed_more : {yielded : List Clause} {row : List Pair} {new : Pair} (k : Clause) → k.node < length row → (k.node < j.netlist.size → SteadyAt (j.netlist.node k.node).gate new) → Renewed yielded row
      → Renewed (yielded ++ k ∷ []) (slice_set row k.node new)
  renewed_more {yielded} {row} {new} k room s b = record { at = λ m l h. go m l h (ℕ_discrete m k.node) }
    where
      fewer : (m : ℕ) → m ≢ k.node → (named_in (yielded ++ k ∷ []) m ≡ true) ⊎ (named_in all m ≡ false) → (named_in yielded m ≡ true) ⊎ (named_in all m ≡ false)
      fewer m other (inl e) = inl (sym (list_any-append (λ (k : Clause). eqb k.node m) yielded (k ∷ []) ∙ rw (ne_eqb k.node m (λ e. other (sym e))) (or-false (named_in yielded m))) ∙ e)
      fewer m other (inr e) = inr e

      go : (m : ℕ) → m < j.netlist.size → (named_in (yielded ++ k ∷ []) m ≡ true) ⊎ (named_in all m ≡ false) → Dec (m ≡ k.node) → SteadyAt (j.netlist.node m).gate (pair_at (slice_set row k.node new) m)
      go m l h (yes e) = rw e (rw (stored_there row k.node new room) (s (omega arith)))
      go m l h (no e) = rw (stored_elsewhere row k.node new m e) (b.at m l (fewer m e h))

  pub renewed_all : {row : List Pair} → Renewed all row → Steady j row
  renewed_all {row} b = record { at = λ m l. go m l (named_in all m) refl }
    where
      go : (m : ℕ) → m < j.netlist.size → (b : Bool) → named_in all m ≡ b → SteadyAt (j.netlist.node m).gate (pair_at row m)
      go m l true e = b.at m l (inl e)
      go m l false e = b.at m l (inr e)

-- a gate has no operand, or is one of the six kinds
pub every_gate : (g : Gate) → ((((((arity g ≡ 0) ⊎ (g ≡ Buf)) ⊎ (g ≡ Not)) ⊎ (g ≡ And)) ⊎ (g ≡ Or)) ⊎ (g ≡ Xor)) ⊎ (g ≡ Mux)
every_gate Input = inl (inl (inl (inl (inl (inl refl)))))
every_gate Zero = inl (inl (inl (inl (inl (inl refl)))))
every_gate One = inl (inl (inl (inl (inl (inl refl)))))
every_gate Buf = inl (inl (inl (inl (inl (inr refl)))))
every_gate Not = inl (inl (inl (inl (inr refl))))
every_gate And = inl (inl (inl (inr refl)))
every_gate Or = inl (inl (inr refl))
every_gate Xor = inl (inr refl)
every_gate Mux = inr refl
