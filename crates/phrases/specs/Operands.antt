-- The variable or constant that stands at a place, or that none does.
-- Assumes nothing.
use Rattle.std.specs.Prelude.{◌≡◌, false, List, ℕ, ◌+◌, ◌<◌}
use Rattle.phrases.specs.declared.guards.Operand.{Operand}
use Rattle.phrases.specs.declared.guards.Operand.TheVariants.{False, True, Variable}
use Rattle.grammar.specs.Records.{expression_record}
use Rattle.phrases.specs.Places.{is_letter, Stands}

-- 0 is FALSE, 1 TRUE, 2 a variable
abbrev pub operand_record : Operand → List ℕ
operand_record False = expression_record 0 0 0
operand_record True = expression_record 1 0 0
operand_record (Variable v) = expression_record 2 v 0

abbrev pub OperandHere : ℕ → List ℕ → ℕ → Operand → Type 0
OperandHere k text i False = Stands text i 48
OperandHere k text i True = Stands text i 49
OperandHere k text i (Variable v) = (v < k) × Stands text i (97 + v)

pub record NoOperand (k : ℕ) (text : List ℕ) (i : ℕ) : Type 0 where
  pub no-0 : ¬ Stands text i 48
  pub no-1 : ¬ Stands text i 49
  pub no_letter : is_letter k text i ≡ false
