-- 01's table of refusals once more, with no tests and no order: what is wrong with a job, number by number, and where.
-- Assumes nothing.
use Rattle.std.specs.Prelude.{◌≡◌, ◌≢◌, ◌⊎◌, List, ℕ, ◌+◌, ◌*◌, ◌/◌, ◌%◌, ◌^◌, ◌≤◌, ◌<◌, length}
use Rattle.scans.specs.Refusals.{Lower}
use Rattle.meaning.specs.Gates.{arity, gate_of_code}
use Rattle.stored.specs.declared.Size.{Size}
use Rattle.stored.specs.Bytes.{byte_at, u16_at, word_sum}
use Rattle.stored.specs.Layout.{first_expressions, first_clauses, blocks_of, kind_of, used_of, header_sizes, records_of}

abbrev pub blocks_in : List ℕ → ℕ
blocks_in s = length s / 512

-- the limits of the sizes
pub record Limits (z : Size) : Type 0 where
  pub k_most : z.k ≤ 12
  pub n_least : 1 ≤ z.n
  pub n_most : z.n ≤ 1008
  pub e_most : z.e ≤ 504
  pub c_most : z.c ≤ 504

-- the node at this place: operands that its gate has are below n, those that it lacks are 0
pub record NodeRule (n : ℕ) (s : List ℕ) (at : ℕ) : Type 0 where
  pub code : byte_at s at ≤ 8
  pub zero : byte_at s (at + 1) ≡ 0
  pub has : (i : ℕ) → i < 3 → i < arity (gate_of_code (byte_at s at)) → u16_at s (at + 2 + 2 * i) < n
  pub lacks : (i : ℕ) → i < 3 → arity (gate_of_code (byte_at s at)) ≤ i → u16_at s (at + 2 + 2 * i) ≡ 0

-- expression i at this place: a variable below k, or earlier expressions; unused operands are 0
pub record ExpressionRule (k i : ℕ) (s : List ℕ) (at : ℕ) : Type 0 where
  pub op : byte_at s at ≤ 6
  pub zero : byte_at s (at + 1) ≡ 0
  pub no_first : byte_at s at < 2 → u16_at s (at + 2) ≡ 0
  pub variable : byte_at s at ≡ 2 → u16_at s (at + 2) < k
  pub first : 3 ≤ byte_at s at → u16_at s (at + 2) < i
  pub no_second : byte_at s at < 4 → u16_at s (at + 4) ≡ 0
  pub second : 4 ≤ byte_at s at → u16_at s (at + 4) < i
  pub last : u16_at s (at + 6) ≡ 0

-- the clause at this place
pub record ClauseRule (n e : ℕ) (s : List ℕ) (at : ℕ) : Type 0 where
  pub side : byte_at s at ≤ 1
  pub value : byte_at s (at + 1) ≤ 1
  pub node : u16_at s (at + 2) < n
  pub time : u16_at s (at + 4) ≤ 255
  pub guard : u16_at s (at + 6) < e

-- this number's condition holds of the job, in this block and record
pub data Broken (s : List ℕ) : ℕ → ℕ → ℕ → Type 0 where
  LENGTH : (length s ≡ 0) ⊎ ((16896 < length s) ⊎ (length s % 512 ≢ 0)) → Broken s 1 0 0
  CHECK : (b : ℕ) → b < blocks_in s → word_sum (λ o. byte_at s (512 * b + o)) 128 % 2 ^ 32 ≢ 4294967295 → Broken s 2 b 0
  NUMBER : (b : ℕ) → b < blocks_in s → u16_at s (512 * b) ≢ b → Broken s 3 b 0
  HEADER : (byte_at s 2 ≢ 1) ⊎ ((byte_at s 3 ≢ 1) ⊎ ((byte_at s 4 ≢ 1) ⊎ (¬ (Limits (header_sizes s))))) → Broken s 4 0 0
  COUNT : blocks_in s ≢ blocks_of (header_sizes s) → Broken s 5 0 0
  BLOCK : (b : ℕ) → b < blocks_in s → (byte_at s (512 * b + 2) ≢ kind_of (header_sizes s) b) ⊎ (byte_at s (512 * b + 3) ≢ used_of (header_sizes s) b) → Broken s 6 b 0
  REST : (b o : ℕ) → b < blocks_in s → 8 * byte_at s (512 * b + 3) ≤ o → o < 504 → byte_at s (512 * b + 4 + o) ≢ 0 → Broken s 7 b 0
  GATE : (i : ℕ) → i < (header_sizes s).n → ¬ (NodeRule (header_sizes s).n (records_of s).nodes (8 * i)) → Broken s 8 (1 + i / 63) (i % 63)
  EXPRESSION : (i : ℕ) → i < (header_sizes s).e → ¬ (ExpressionRule (header_sizes s).k i (records_of s).expressions (8 * i)) → Broken s 9 (first_expressions (header_sizes s) + i / 63) (i % 63)
  CLAUSE : (i : ℕ) → i < (header_sizes s).c → ¬ (ClauseRule (header_sizes s).n (header_sizes s).e (records_of s).clauses (8 * i)) → Broken s 10 (first_clauses (header_sizes s) + i / 63) (i % 63)

-- refused with this number and place: its condition holds there, at no lower place, and no lower number's holds anywhere
pub record RefusedAs (s : List ℕ) (number block slot : ℕ) : Type 0 where
  pub broken : Broken s number block slot
  pub lowest : (b l : ℕ) → Lower b l block slot → ¬ (Broken s number b l)
  pub first : (m b l : ℕ) → m < number → ¬ (Broken s m b l)
