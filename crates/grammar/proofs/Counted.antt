-- How many records a text has: one for each operand and operator, and one for each clause.
-- Assumes nothing.
use mathlib.Core.Path.{◌≡◌, refl}
use mathlib.Core.List.{List, [], ◌∷◌}
use native.Mathlib.Omega.{arith}
use Prim.Native.Nat.{ℕ, ◌+◌, ◌*◌}
use lib.ListN.{length, length-append}
use Rattle.grammar.specs.Guards.{Guard, letter, constant, complement, bracketed, joined, size}
use Rattle.grammar.specs.Grammar.{Clause, Text, sizes}
use Rattle.grammar.specs.Records.{guard_records, list_expressions, list_clauses, text_expressions, text_clauses}

guard_records_lem : (e : ℕ) (g : Guard) → length (guard_records e g) ≡ 8 * size g
unfolding guard_records size
guard_records_lem e (letter i) = refl
guard_records_lem e (constant v) = refl
guard_records_lem e (complement g) = rw (length-append, guard_records_lem e g) (omega arith)
guard_records_lem e (bracketed g) = guard_records_lem e g
guard_records_lem e (joined o g h) = rw (length-append, length-append, guard_records_lem e g, guard_records_lem (e + size g) h) (omega arith)

list_expressions_lem : (e : ℕ) (cs : List Clause) → length (list_expressions e cs) ≡ 8 * sizes cs
unfolding list_expressions sizes
list_expressions_lem e [] = refl
list_expressions_lem e (c ∷ cs) = rw (length-append, guard_records_lem e c.guard, list_expressions_lem (e + size c.guard) cs) (omega arith)

list_clauses_lem : (side e : ℕ) (cs : List Clause) → length (list_clauses side e cs) ≡ 8 * length cs
unfolding list_clauses
list_clauses_lem side e [] = refl
list_clauses_lem side e (c ∷ cs) = rw (length-append, list_clauses_lem side (e + size c.guard) cs) (omega arith)

pub expressions_count : (t : Text) → length (text_expressions t) ≡ 8 * (sizes t.given + sizes t.expect)
unfolding text_expressions
expressions_count t = rw (length-append, list_expressions_lem 0 t.given, list_expressions_lem (sizes t.given) t.expect) (omega arith)

pub clauses_count : (t : Text) → length (text_clauses t) ≡ 8 * (length t.given + length t.expect)
unfolding text_clauses
clauses_count t = rw (length-append, list_clauses_lem 0 0 t.given, list_clauses_lem 1 (sizes t.given) t.expect) (omega arith)
