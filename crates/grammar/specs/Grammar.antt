-- The grammar: a text of clauses under `given` and `expect`, within the limits.
-- Assumes nothing.
use Rattle.std.specs.Prelude.{Bool, false, List, [], ◌∷◌, ◌++◌, ℕ, ◌+◌, ◌≤◌, ◌<◌, length}
use Rattle.stored.specs.Rules.{limits_ok}
use Rattle.grammar.specs.Items.{GIVEN, EXPECT, WHEN, IS, AT, COLON, SEMICOLON, Item, word, number, mark}
use Rattle.grammar.specs.Spelling.{Spells}
use Rattle.grammar.specs.Guards.{Guard, guard_items, Stands, OperandsIn, depth, size}

-- k and n within 01's limits
abbrev pub limits : ℕ → ℕ → Bool
limits k n = limits_ok (record { k = k; n = n; e = 0; c = 0 })

-- `when GUARD : NODE is VALUE at TIME ;`
pub record Clause : Type 0 where
  pub guard : Guard
  pub node : ℕ
  pub value : ℕ
  pub time : ℕ

unfoldable pub clause_items : Clause → List Item
clause_items c = word WHEN ∷ guard_items c.guard ++ mark COLON ∷ number c.node ∷ word IS ∷ number c.value ∷ word AT ∷ number c.time ∷ mark SEMICOLON ∷ []

unfoldable pub list_items : List Clause → List Item
list_items [] = []
list_items (c ∷ cs) = clause_items c ++ list_items cs

pub record Text : Type 0 where
  pub given : List Clause
  pub expect : List Clause

unfoldable pub text_items : Text → List Item
text_items t = word GIVEN ∷ list_items t.given ++ word EXPECT ∷ list_items t.expect

-- brackets to depth 32; node, value and time as in a clause's record
pub record ClauseFits (k n : ℕ) (c : Clause) : Type 0 where
  pub stands : Stands 1 c.guard
  pub operands : OperandsIn k c.guard
  pub brackets : depth c.guard ≤ 32
  pub in_row : c.node < n
  pub binary : c.value < 2
  pub in_time : c.time < 256

unfoldable pub EachFits : ℕ → ℕ → List Clause → Type 0
EachFits k n [] = Unit {0}
EachFits k n (c ∷ cs) = ClauseFits k n c × EachFits k n cs

-- the operands and operators of all guards
unfoldable pub sizes : List Clause → ℕ
sizes [] = 0
sizes (c ∷ cs) = size c.guard + sizes cs

-- text s reads as t: the number of variables and of nodes, and the limits of a job's lists, are kept
pub record Reads (k n : ℕ) (t : Text) (s : List ℕ) : Type 0 where
  pub given_fits : EachFits k n t.given
  pub expect_fits : EachFits k n t.expect
  pub few_clauses : length t.given + length t.expect ≤ 504
  pub few_expressions : sizes t.given + sizes t.expect ≤ 504
  pub spelled : Spells false (text_items t) s
