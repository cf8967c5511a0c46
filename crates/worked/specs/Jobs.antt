-- The jobs of the examples: the flag job byte for byte, the others as their records are stored.
-- Assumes nothing.
use Rattle.std.specs.Prelude.{List, [], ◌∷◌, ◌++◌, ℕ, ◌-◌, length, replicate}
use Rattle.stored.specs.Layout.{Records, stored}

-- a block: its used bytes, zeros up to the check, and the check
abbrev pub block : List ℕ → List ℕ → List ℕ
block used check = used ++ replicate (508 - length used) 0 ++ check

-- the flag job: node 0 is INPUT (reading missed), node 1 is OR of 0 and 1 (the flag)
unfoldable pub flag_bytes : List ℕ
flag_bytes =
    block (0x00 ∷ 0x00 ∷ 0x01 ∷ 0x01 ∷ 0x01 ∷ 0x01 ∷ 0x02 ∷ 0x00 ∷ 0x02 ∷ 0x00 ∷ 0x04 ∷ 0x00 ∷ []) (0xFC ∷ 0xFE ∷ 0xF8 ∷ 0xFE ∷ [])
    ++ block (0x01 ∷ 0x00 ∷ 0x02 ∷ 0x02 ∷ 0x00 ∷ 0x00 ∷ 0x00 ∷ 0x00 ∷ 0x00 ∷ 0x00 ∷ 0x00 ∷ 0x00 ∷ 0x06 ∷ 0x00 ∷ 0x00 ∷ 0x00 ∷ 0x01 ∷ 0x00 ∷ 0x00 ∷ 0x00 ∷ []) (0xF7 ∷ 0xFF ∷ 0xFD ∷ 0xFD ∷ [])
    ++ block (0x02 ∷ 0x00 ∷ 0x03 ∷ 0x02 ∷ 0x02 ∷ 0x00 ∷ 0x00 ∷ 0x00 ∷ 0x00 ∷ 0x00 ∷ 0x00 ∷ 0x00 ∷ 0x03 ∷ 0x00 ∷ 0x00 ∷ 0x00 ∷ 0x00 ∷ 0x00 ∷ 0x00 ∷ 0x00 ∷ []) (0xF8 ∷ 0xFF ∷ 0xFC ∷ 0xFD ∷ [])
    ++ block
    (0x03 ∷ 0x00 ∷ 0x04 ∷ 0x04
    ∷ 0x00 ∷ 0x01 ∷ 0x00 ∷ 0x00 ∷ 0x00 ∷ 0x00 ∷ 0x00 ∷ 0x00
    ∷ 0x00 ∷ 0x00 ∷ 0x00 ∷ 0x00 ∷ 0x00 ∷ 0x00 ∷ 0x01 ∷ 0x00
    ∷ 0x01 ∷ 0x01 ∷ 0x01 ∷ 0x00 ∷ 0x01 ∷ 0x00 ∷ 0x00 ∷ 0x00
    ∷ 0x01 ∷ 0x00 ∷ 0x01 ∷ 0x00 ∷ 0x01 ∷ 0x00 ∷ 0x01 ∷ 0x00 ∷ []) (0xF8 ∷ 0xFD ∷ 0xF7 ∷ 0xFB ∷ [])

-- a node, an expression and a clause of small numbers
abbrev pub node : ℕ → ℕ → ℕ → ℕ → List ℕ
node code p q r = code ∷ 0 ∷ p ∷ 0 ∷ q ∷ 0 ∷ r ∷ 0 ∷ []

abbrev pub expression : ℕ → ℕ → ℕ → List ℕ
expression op a b = op ∷ 0 ∷ a ∷ 0 ∷ b ∷ 0 ∷ 0 ∷ 0 ∷ []

abbrev pub clause : ℕ → ℕ → ℕ → ℕ → ℕ → List ℕ
clause side value node time guard = side ∷ value ∷ node ∷ 0 ∷ time ∷ 0 ∷ guard ∷ 0 ∷ []

abbrev pub flag_nodes : List ℕ
flag_nodes = node 0 0 0 0 ++ node 6 0 1 0

-- the variable, and its complement
abbrev pub flag_guards : List ℕ
flag_guards = expression 2 0 0 ++ expression 3 0 0

-- the reading is missed where the variable is 1, and the flag is expected to say so one step later
abbrev pub flag_clauses : List ℕ
flag_clauses = clause 0 1 0 0 0 ++ clause 0 0 0 0 1 ++ clause 1 1 1 1 0 ++ clause 1 0 1 1 1

unfoldable pub flag_records : Records
flag_records = record { k = 1; nodes = flag_nodes; expressions = flag_guards; clauses = flag_clauses }

-- P8: the flag is 0 at time 0, always
unfoldable pub known_records : Records
known_records = record { k = 1; nodes = flag_nodes; expressions = flag_guards ++ expression 1 0 0; clauses = flag_clauses ++ clause 0 0 1 0 2 }

-- P9: and it is 0 at time 1 where the variable is 1
unfoldable pub forced_records : Records
forced_records = record { k = 1; nodes = flag_nodes; expressions = flag_guards ++ expression 1 0 0; clauses = flag_clauses ++ clause 0 0 1 0 2 ++ clause 0 0 1 1 0 }

-- P10: one ONE node
unfoldable pub one_records : Records
one_records = record { k = 0; nodes = node 2 0 0 0; expressions = []; clauses = [] }

-- P11: no clauses
unfoldable pub quiet_records : Records
quiet_records = record { k = 1; nodes = flag_nodes; expressions = []; clauses = [] }

-- P12: one ZERO node that is to be 1 at time 1, and is expected to be 0 at time 0
unfoldable pub zero_records : Records
zero_records = record { k = 0; nodes = node 1 0 0 0; expressions = expression 1 0 0; clauses = clause 0 1 0 1 0 ++ clause 1 0 0 0 0 }

-- a job by its bytes, with the records that it is to hold
pub record Sample : Type 0 where
  pub bytes : List ℕ
  pub records : Records

abbrev pub packed : Records → Sample
packed r = record { bytes = stored r; records = r }

abbrev pub flag : Sample
flag = record { bytes = flag_bytes; records = flag_records }
