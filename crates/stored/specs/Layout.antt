-- The layout of a stored job: blocks of 512 bytes, 63 records of 8 bytes in each; the records it holds, and the bytes that records are stored as.
-- Assumes nothing.
use Rattle.std.specs.Prelude.{cond, List, [], ◌∷◌, ℕ, zero, suc, ◌+◌, ◌*◌, ◌-◌, ◌/◌, ◌%◌, min, ltb, length}
use Rattle.stored.specs.declared.Size.{Size}
use Rattle.scans.specs.Lists.{list_of}
use Rattle.stored.specs.Bytes.{byte_at, u16_at, digit, word_sum}

-- what is stored: k, and the bytes of the three record lists
pub record Records : Type 0 where
  pub k : ℕ
  pub nodes : List ℕ
  pub expressions : List ℕ
  pub clauses : List ℕ

abbrev pub sizes_of : Records → Size
sizes_of r = record { k = r.k; n = length r.nodes / 8; e = length r.expressions / 8; c = length r.clauses / 8 }

-- the blocks that m records take, 63 at a time
abbrev pub span : ℕ → ℕ
span m = (m + 62) / 63

-- the blocks of a job: the header, then nodes, expressions and clauses from these blocks on
abbrev pub first_expressions : Size → ℕ
first_expressions z = 1 + span z.n

abbrev pub first_clauses : Size → ℕ
first_clauses z = first_expressions z + span z.e

abbrev pub blocks_of : Size → ℕ
blocks_of z = first_clauses z + span z.c

-- by the kind of block b: 1 header, 2 nodes, 3 expressions, 4 clauses
abbrev pub by_kind : {A : Type 0} → Size → ℕ → A → A → A → A → A
by_kind z b header node expression clause =
    cond (ltb b 1) header (cond (ltb b (first_expressions z)) node (cond (ltb b (first_clauses z)) expression clause))

unfoldable pub kind_of : Size → ℕ → ℕ
kind_of z b = by_kind z b 1 2 3 4

-- how many of m records stand in block b, where the first of them stands in block first
abbrev pub used_from : ℕ → ℕ → ℕ → ℕ
used_from m first b = min 63 (m - 63 * (b - first))

unfoldable pub used_of : Size → ℕ → ℕ
used_of z b = by_kind z b 1 (used_from z.n 1 b) (used_from z.e (first_expressions z) b) (used_from z.c (first_clauses z) b)

-- the header's record: edition 1, k, n, e, c
abbrev pub header_record : Size → List ℕ
header_record z = 1 ∷ z.k ∷ digit z.n 0 ∷ digit z.n 1 ∷ digit z.e 0 ∷ digit z.e 1 ∷ digit z.c 0 ∷ digit z.c 1 ∷ []

-- byte o of the room for records in block b: the list's next byte, 0 past its end
abbrev pub room_byte : List ℕ → ℕ → ℕ → ℕ → ℕ
room_byte records first b o = byte_at records (504 * (b - first) + o)

-- byte o of block b, the check left out
unfoldable pub plain_byte : Records → ℕ → ℕ → ℕ
plain_byte r b zero = digit b 0
plain_byte r b (suc zero) = digit b 1
plain_byte r b (suc (suc zero)) = kind_of (sizes_of r) b
plain_byte r b (suc (suc (suc zero))) = used_of (sizes_of r) b
plain_byte r b (suc (suc (suc (suc o)))) =
    let z = sizes_of r in
    by_kind z b (room_byte (header_record z) 0 b o) (room_byte r.nodes 1 b o) (room_byte r.expressions (first_expressions z) b o) (room_byte r.clauses (first_clauses z) b o)

-- the check: with it the 128 words add up to 4,294,967,295, modulo 2^32
unfoldable pub check_word : (ℕ → ℕ) → ℕ
check_word plain = 4294967295 - word_sum plain 127 % 4294967296

unfoldable pub block_byte : Records → ℕ → ℕ → ℕ
block_byte r b o = cond (ltb o 508) (plain_byte r b o) (digit (check_word (plain_byte r b)) (o - 508))

-- the bytes that records are stored as
unfoldable pub stored : Records → List ℕ
stored r = list_of (λ j. block_byte r (j / 512) (j % 512)) (512 * blocks_of (sizes_of r))

-- what the header says
unfoldable pub header_sizes : List ℕ → Size
header_sizes s = record { k = byte_at s 5; n = u16_at s 6; e = u16_at s 8; c = u16_at s 10 }

-- byte q of the records that start in block first
unfoldable pub record_byte : List ℕ → ℕ → ℕ → ℕ
record_byte s first q = byte_at s (512 * (first + q / 504) + 4 + q % 504)

-- the records that a job holds
unfoldable pub records_of : List ℕ → Records
records_of s =
    let z = header_sizes s in
    record {
      k = z.k;
      nodes = list_of (record_byte s 1) (8 * z.n);
      expressions = list_of (record_byte s (first_expressions z)) (8 * z.e);
      clauses = list_of (record_byte s (first_clauses z)) (8 * z.c);
    }
