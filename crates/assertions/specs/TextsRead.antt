-- What reading the lists of a text and the whole of it comes to.
-- Assumes nothing.
use Rattle.std.specs.Prelude.{◌≡◌, Bool, false, List, [], ◌++◌, ℕ, ◌≤◌, length, Result, MatchResult}
use Rattle.phrases.specs.declared.items.Stopped.{Stopped}
use Rattle.phrases.specs.GuardsRead.{records_in}
use Rattle.grammar.specs.Grammar.{Clause, Text}
use Rattle.grammar.specs.Records.{list_expressions, list_clauses, text_expressions, text_clauses}
use Rattle.grammar.specs.Points.{listing, Point, start}
use Rattle.grammar.specs.Bytewise.{ready, reads, stops, reading}
use Rattle.assertions.specs.ListsRead.{Kept}

-- before a clause, these having been read; after `expect` or not
abbrev pub listing_at : Bool → List Clause → ℕ → Point
listing_at second gs used = record { second = second; given = gs; expect = []; used = used; phase = listing }

-- whatever clauses were given, the rest of the text, from i on, is `expect` and the expected ones
pub record RestTo (k n i : ℕ) (text es es' cs cs' : List ℕ) : Type 0 where
  pub expect : List Clause
  pub few_e : records_in es' ≤ 504
  pub few_c : records_in cs' ≤ 504
  pub put_e : es' ≡ es ++ list_expressions (records_in es) expect
  pub put_c : cs' ≡ cs ++ list_clauses 1 (records_in es) expect
  pub comes : (gs : List Clause) → length gs ≡ records_in cs → reading k n text i (ready false) (listing_at false gs (records_in es)) ≡ reads (record { given = gs; expect = expect })

pub record RestNone (k n i : ℕ) (text es es' cs cs' : List ℕ) (j : ℕ) : Type 0 where
  pub kept_e : Kept es es'
  pub kept_c : Kept cs cs'
  pub comes : (gs : List Clause) → length gs ≡ records_in cs → reading k n text i (ready false) (listing_at false gs (records_in es)) ≡ stops j

pub record RestAt (k n i : ℕ) (text es es' cs cs' : List ℕ) (r : Result (Unit {0}) Stopped) : Type 0 where
  pub says : MatchResult r (λ _. RestTo k n i text es es' cs cs') (λ s. RestNone k n i text es es' cs cs' s.at)

-- the text is t, and its records are these
pub record TextTo (k n : ℕ) (text es cs : List ℕ) : Type 0 where
  pub t : Text
  pub few_e : records_in es ≤ 504
  pub few_c : records_in cs ≤ 504
  pub es_are : es ≡ text_expressions t
  pub cs_are : cs ≡ text_clauses t
  pub comes : reading k n text 0 (ready false) start ≡ reads t

-- the records that were read stay few
pub record TextNone (k n : ℕ) (text es cs : List ℕ) (j : ℕ) : Type 0 where
  pub few_e : records_in es ≤ 504
  pub few_c : records_in cs ≤ 504
  pub comes : reading k n text 0 (ready false) start ≡ stops j

pub record TextAt (k n : ℕ) (text es cs : List ℕ) (r : Result (Unit {0}) Stopped) : Type 0 where
  pub says : MatchResult r (λ _. TextTo k n text es cs) (λ s. TextNone k n text es cs s.at)
