-- The operators of the program are those of the grammar; each operation has a number in the records.
-- Assumes nothing.
use Rattle.std.specs.Prelude.{ℕ}
use Rattle.phrases.specs.declared.guards.Operator.{Operator as Sign}
use Rattle.phrases.specs.declared.guards.Operator.TheVariants.{Or as OrSign, Xor as XorSign, And as AndSign}
use Rattle.phrases.specs.declared.guards.Operation.{Operation}
use Rattle.phrases.specs.declared.guards.Operation.TheVariants.{False, True, Variable, Not, And, Or, Xor}
use Rattle.grammar.specs.Items.{Operator, AND, XOR, OR}

abbrev pub operator_of : Sign → Operator
operator_of OrSign = OR
operator_of XorSign = XOR
operator_of AndSign = AND

abbrev pub number_of : Operation → ℕ
number_of False = 0
number_of True = 1
number_of Variable = 2
number_of Not = 3
number_of And = 4
number_of Or = 5
number_of Xor = 6
