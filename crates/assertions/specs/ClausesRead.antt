-- What reading the rest of a clause at a place comes to.
-- Assumes nothing.
use Rattle.std.specs.Prelude.{◌≡◌, Bool, true, false, List, [], ◌∷◌, ◌++◌, ℕ, ◌≤◌, ◌<◌, length, drop, Result, MatchResult}
use Rattle.assertions.specs.declared.parts.Counted.{Counted}
use Rattle.assertions.specs.declared.parts.Told.{Told}
use Rattle.phrases.specs.declared.items.Stopped.{Stopped}
use Rattle.grammar.specs.Items.{Keyword, letters as spelled_so}
use Rattle.grammar.specs.Guards.{Guard}
use Rattle.grammar.specs.Grammar.{Clause}
use Rattle.grammar.specs.Points.{Slot, saying, below, listing, telling, Point, added}
use Rattle.grammar.specs.Bytewise.{Within, ready, at, Outcome, stops, run}
use Rattle.phrases.specs.GuardsRead.{in_phase}

-- reading from place i, these slots still to fill
abbrev pub awaiting : ℕ → ℕ → List ℕ → ℕ → Within → Point → ℕ → Guard → List Slot → List ℕ → Outcome
awaiting k n text i w p used g ss ns = run k n i (at w (in_phase p used (telling g ss ns))) (drop i text)

-- these slots before another, and what they add
pub record Fills (text : List ℕ) (touching : Bool) (slots : List Slot) (i q v : ℕ) : Type 0 where
  pub past : i < q
  pub inside : q ≤ length text
  pub comes : (k n : ℕ) (p : Point) (used : ℕ) (g : Guard) (s : Slot) (ss : List Slot) (ns : List ℕ)
      → awaiting k n text i (ready touching) p used g (slots ++ s ∷ ss) ns ≡ awaiting k n text q (ready true) p used g (s ∷ ss) (ns ++ v ∷ [])

pub record Fails (text : List ℕ) (touching : Bool) (slots : List Slot) (i j : ℕ) : Type 0 where
  pub comes : (k n : ℕ) (p : Point) (used : ℕ) (g : Guard) (s : Slot) (ss : List Slot) (ns : List ℕ) → awaiting k n text i (ready touching) p used g (slots ++ s ∷ ss) ns ≡ stops j

-- a number in the slots, below the limit
pub record CountedAt (text : List ℕ) (touching : Bool) (slots : List Slot) (limit i : ℕ) (r : Result Counted Stopped) : Type 0 where
  pub says : MatchResult r (λ c. (c.value < limit) × Fills text touching slots i c.at c.value) (λ s. Fails text touching slots i s.at)

-- a word with these letters, and a number
pub record LabelledAt (text letters : List ℕ) (limit i : ℕ) (r : Result Counted Stopped) : Type 0 where
  pub counted : (w : Keyword) → spelled_so w ≡ letters → CountedAt text true (saying w ∷ below limit ∷ []) limit i r

-- the clause that has been read is added
abbrev pub clause_added : Point → ℕ → Clause → Point
clause_added p used c = added (in_phase p used listing) c

-- the rest of a clause stands from i to q: these slots, after these numbers
pub record ToldTo (text : List ℕ) (touching : Bool) (slots : List Slot) (ns : List ℕ) (i node value time q : ℕ) : Type 0 where
  pub past : i < q
  pub inside : q ≤ length text
  pub comes : (k n : ℕ) (p : Point) (used : ℕ) (g : Guard)
      → awaiting k n text i (ready touching) p used g slots ns ≡ run k n q (at (ready false) (clause_added p used (record { guard = g; node = node; value = value; time = time }))) (drop q text)

pub record ToldNone (text : List ℕ) (touching : Bool) (slots : List Slot) (ns : List ℕ) (i j : ℕ) : Type 0 where
  pub comes : (k n : ℕ) (p : Point) (used : ℕ) (g : Guard) → awaiting k n text i (ready touching) p used g slots ns ≡ stops j

pub record ToldAt (text : List ℕ) (touching : Bool) (slots : List Slot) (ns : List ℕ) (i : ℕ) (r : Result Told Stopped) : Type 0 where
  pub says : MatchResult r (λ t. ToldTo text touching slots ns i t.node t.value t.time t.at) (λ s. ToldNone text touching slots ns i s.at)
