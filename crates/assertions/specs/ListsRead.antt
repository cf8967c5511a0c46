-- What reading a clause, a list of clauses and a whole text comes to.
-- Assumes nothing.
use Rattle.std.specs.Prelude.{◌≡◌, Bool, false, cond, List, ◌++◌, ℕ, ◌+◌, ◌≤◌, ◌<◌, length, take, Result, MatchResult}
use Rattle.phrases.specs.declared.items.Stopped.{Stopped}
use Rattle.grammar.specs.Guards.{size}
use Rattle.grammar.specs.Grammar.{Clause, sizes}
use Rattle.grammar.specs.Records.{guard_records, clause_record, list_expressions, list_clauses}
use Rattle.grammar.specs.Points.{Phase, listing, Point}
use Rattle.grammar.specs.Bytewise.{ready, stops, reading}
use Rattle.phrases.specs.Places.{Stands, NoGap}
use Rattle.phrases.specs.GuardsRead.{in_phase, records_in}
use Rattle.assertions.specs.ClausesRead.{clause_added}

-- so many clauses have been read
abbrev pub count_of : Point → ℕ
count_of p = length p.given + length p.expect

-- what a clause is read with
pub record ClauseAsked (i : ℕ) (text es cs : List ℕ) : Type 0 where
  pub inside : i ≤ length text
  pub room_e : records_in es < 504
  pub room_c : records_in cs < 504

-- a clause stands from i to q, where reading has come to this phase; its records are put after those that were there
pub record ClauseTo (phase : Phase) (touching : Bool) (k n side i : ℕ) (text es es' cs cs' : List ℕ) (q : ℕ) : Type 0 where
  pub clause : Clause
  pub past : i < q
  pub inside : q ≤ length text
  pub count : records_in es' ≡ records_in es + size clause.guard
  pub few_e : records_in es' ≤ 504
  pub few_c : records_in cs' ≤ 504
  pub put_guard : es' ≡ es ++ guard_records (records_in es) clause.guard
  pub put_clause : cs' ≡ cs ++ clause_record side (records_in es) clause
  pub comes : (p : Point) → count_of p ≡ records_in cs → reading k n text i (ready touching) (in_phase p (records_in es) phase) ≡ reading k n text q (ready false) (clause_added p (records_in es') clause)

-- the records that were there stay in front, and there are no more than a job holds
pub record Kept (es es' : List ℕ) : Type 0 where
  pub front : take (length es) es' ≡ es
  pub few : records_in es' ≤ 504

pub record ClauseNone (phase : Phase) (touching : Bool) (k n i : ℕ) (text es es' cs cs' : List ℕ) (j : ℕ) : Type 0 where
  pub kept_e : Kept es es'
  pub kept_c : Kept cs cs'
  pub comes : (p : Point) → count_of p ≡ records_in cs → reading k n text i (ready touching) (in_phase p (records_in es) phase) ≡ stops j

pub record ClauseAt (k n side i : ℕ) (text es es' cs cs' : List ℕ) (r : Result ℕ Stopped) : Type 0 where
  pub says : MatchResult r (ClauseTo listing false k n side i text es es' cs cs') (λ s. ClauseNone listing false k n i text es es' cs cs' s.at)

-- these clauses are added
abbrev pub list_added : Point → ℕ → List Clause → Point
list_added p used cs =
    record {
      second = p.second;
      given = cond p.second p.given (p.given ++ cs);
      expect = cond p.second (p.expect ++ cs) p.expect;
      used = used;
      phase = listing;
    }

-- clauses stand from i to q, where none begins
pub record ListTo (k n side i : ℕ) (text es es' cs cs' : List ℕ) (q : ℕ) : Type 0 where
  pub clauses : List Clause
  pub inside : q ≤ length text
  pub no_gap : NoGap text q
  pub count_e : records_in es' ≡ records_in es + sizes clauses
  pub count_c : records_in cs' ≡ records_in cs + length clauses
  pub few_e : records_in es' ≤ 504
  pub few_c : records_in cs' ≤ 504
  pub put_e : es' ≡ es ++ list_expressions (records_in es) clauses
  pub put_c : cs' ≡ cs ++ list_clauses side (records_in es) clauses
  pub comes : (p : Point) → count_of p ≡ records_in cs → reading k n text i (ready false) (in_phase p (records_in es) listing) ≡ reading k n text q (ready false) (list_added p (records_in es') clauses)

pub record ListNone (k n i : ℕ) (text es es' cs cs' : List ℕ) (j : ℕ) : Type 0 where
  pub kept_e : Kept es es'
  pub kept_c : Kept cs cs'
  pub comes : (p : Point) → count_of p ≡ records_in cs → reading k n text i (ready false) (in_phase p (records_in es) listing) ≡ stops j

-- and no clause begins at q
pub record ListOver (k n side i : ℕ) (text es es' cs cs' : List ℕ) (q : ℕ) : Type 0 where
  pub to : ListTo k n side i text es es' cs cs' q
  pub no_when : ¬ Stands text q 119

pub record ListAt (k n side i : ℕ) (text es es' cs cs' : List ℕ) (r : Result ℕ Stopped) : Type 0 where
  pub says : MatchResult r (ListOver k n side i text es es' cs cs') (λ s. ListNone k n i text es es' cs cs' s.at)
