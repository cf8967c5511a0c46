-- The records of a text: for each operand and operator an expression, operands first, left before right; for each clause a clause.
-- Assumes nothing.
use Rattle.std.specs.Prelude.{List, [], ◌∷◌, ◌++◌, ℕ, ◌+◌, ◌-◌}
use Rattle.stored.specs.Bytes.{digit}
use Rattle.grammar.specs.Items.{Operator, AND, XOR, OR}
use Rattle.grammar.specs.Guards.{Guard, letter, constant, complement, bracketed, joined, size}
use Rattle.grammar.specs.Grammar.{Clause, Text, sizes}

-- an expression's eight bytes
abbrev pub expression_record : ℕ → ℕ → ℕ → List ℕ
expression_record op a b = op ∷ 0 ∷ digit a 0 ∷ digit a 1 ∷ digit b 0 ∷ digit b 1 ∷ 0 ∷ 0 ∷ []

-- 4 AND, 5 OR, 6 XOR
abbrev pub op_of : Operator → ℕ
op_of AND = 4
op_of OR = 5
op_of XOR = 6

-- the place of a guard's own record, the last, where its first stands at e
abbrev pub guard_place : ℕ → Guard → ℕ
guard_place e g = e + size g - 1

-- the records of a guard, from place e on; 0 is FALSE, 1 TRUE, 2 a variable, 3 NOT
unfoldable pub guard_records : ℕ → Guard → List ℕ
guard_records e (letter i) = expression_record 2 i 0
guard_records e (constant v) = expression_record v 0 0
guard_records e (complement g) = guard_records e g ++ expression_record 3 (guard_place e g) 0
guard_records e (bracketed g) = guard_records e g
guard_records e (joined o g h) = guard_records e g ++ guard_records (e + size g) h ++ expression_record (op_of o) (guard_place e g) (guard_place (e + size g) h)

-- those of all guards of a list, one after the other
unfoldable pub list_expressions : ℕ → List Clause → List ℕ
list_expressions e [] = []
list_expressions e (c ∷ cs) = guard_records e c.guard ++ list_expressions (e + size c.guard) cs

-- a clause's eight bytes
abbrev pub clause_bytes : ℕ → ℕ → ℕ → ℕ → ℕ → List ℕ
clause_bytes side value node time guard = side ∷ value ∷ digit node 0 ∷ digit node 1 ∷ digit time 0 ∷ digit time 1 ∷ digit guard 0 ∷ digit guard 1 ∷ []

-- its guard's first record stands at e
abbrev pub clause_record : ℕ → ℕ → Clause → List ℕ
clause_record side e c = clause_bytes side c.value c.node c.time (guard_place e c.guard)

unfoldable pub list_clauses : ℕ → ℕ → List Clause → List ℕ
list_clauses side e [] = []
list_clauses side e (c ∷ cs) = clause_record side e c ++ list_clauses side (e + size c.guard) cs

-- stimulus is side 0, expectation side 1
unfoldable pub text_expressions : Text → List ℕ
text_expressions t = list_expressions 0 t.given ++ list_expressions (sizes t.given) t.expect

unfoldable pub text_clauses : Text → List ℕ
text_clauses t = list_clauses 0 0 t.given ++ list_clauses 1 (sizes t.given) t.expect
