-- Reading a stored job: the table of refusals 1 to 10, and what is answered.
-- Assumes nothing.
use Rattle.std.specs.Prelude.{Result, Ok, Err}
use Rattle.stored.specs.declared.Refusal.{Refusal}
use Rattle.std.specs.Prelude.{Bool, ◌&&◌, ◌||◌, cond, List, [], ◌∷◌, ◌++◌, ℕ, ◌+◌, ◌*◌, ◌/◌, ◌%◌, ◌^◌, eqb, ltb, leb, length, drop}
use Rattle.scans.specs.First.{each}
use Rattle.scans.specs.Refusals.{Stage, whole, in_order}
use Rattle.meaning.specs.Stated.{Stated, REFUSED, DONE, state, is_done}
use Rattle.stored.specs.declared.Size.{Size}
use Rattle.stored.specs.Bytes.{byte_at, u16_at, word_sum}
use Rattle.stored.specs.Layout.{Records, sizes_of, first_expressions, first_clauses, blocks_of, kind_of, used_of, header_sizes, records_of}
use Rattle.stored.specs.Rules.{limits_ok, node_ok, expression_ok, clause_ok}

-- 1 LENGTH: length 0, not a multiple of 512, or above 16,896
unfoldable pub length_ok : ℕ → Bool
length_ok n = leb 1 n && (leb n 16896 && eqb (n % 512) 0)

-- 2 CHECK: a block's words don't add up
unfoldable pub sum_ok : List ℕ → ℕ → Bool
sum_ok s b = eqb (word_sum (λ o. byte_at s (512 * b + o)) 128 % 2 ^ 32) 4294967295

-- 3 NUMBER: a block's number isn't its position
unfoldable pub number_ok : List ℕ → ℕ → Bool
number_ok s b = eqb (u16_at s (512 * b)) b

-- 4 HEADER: block 0's kind, used count, edition or a limit is wrong
unfoldable pub header_ok : List ℕ → Bool
header_ok s = eqb (byte_at s 2) 1 && (eqb (byte_at s 3) 1 && (eqb (byte_at s 4) 1 && limits_ok (header_sizes s)))

-- 5 COUNT: blocks present differ from the header's
unfoldable pub count_ok : List ℕ → ℕ → Bool
count_ok s n = eqb n (blocks_of (header_sizes s))

-- 6 BLOCK: another block's kind or used count is wrong
unfoldable pub block_ok : List ℕ → ℕ → Bool
block_ok s b = eqb (byte_at s (512 * b + 2)) (kind_of (header_sizes s) b) && eqb (byte_at s (512 * b + 3)) (used_of (header_sizes s) b)

-- 7 REST: an unused record byte isn't 0
unfoldable pub rest_byte_ok : List ℕ → ℕ → ℕ → Bool
rest_byte_ok s b o = ltb o (8 * byte_at s (512 * b + 3)) || eqb (byte_at s (512 * b + 4 + o)) 0

unfoldable pub rest_ok : List ℕ → ℕ → Bool
rest_ok s b = each (rest_byte_ok s b) 504

-- a test of each block; a test of each record, 63 to a block from block first on
abbrev pub per_block : ℕ → ℕ → (ℕ → Bool) → Stage
per_block number blocks ok = record { number = number; count = blocks; ok = ok; block = λ b. b; slot = λ _. 0 }

abbrev pub per_record : ℕ → ℕ → ℕ → (ℕ → Bool) → Stage
per_record number first records ok = record { number = number; count = records; ok = ok; block = λ i. first + i / 63; slot = λ i. i % 63 }

-- 8 GATE, 9 EXPRESSION, 10 CLAUSE: a record breaks its line
abbrev pub record_stages : Records → List Stage
record_stages r =
    let z = sizes_of r in
    per_record 8 1 z.n (λ i. node_ok z.n r.nodes (8 * i))
    ∷ per_record 9 (first_expressions z) z.e (λ i. expression_ok z.k i r.expressions (8 * i))
    ∷ per_record 10 (first_clauses z) z.c (λ i. clause_ok z.n z.e r.clauses (8 * i))
    ∷ []

-- the table of reading, for a job of this many blocks
abbrev pub read_stages : List ℕ → ℕ → List Stage
read_stages s blocks =
    whole 1 (length_ok (length s))
    ∷ per_block 2 blocks (sum_ok s)
    ∷ per_block 3 blocks (number_ok s)
    ∷ whole 4 (header_ok s)
    ∷ whole 5 (count_ok s blocks)
    ∷ per_block 6 blocks (block_ok s)
    ∷ per_block 7 blocks (rest_ok s)
    ∷ record_stages (records_of s)

abbrev pub refused : ℕ → ℕ → ℕ → Stated
refused number block slot = state REFUSED (number ∷ block ∷ slot ∷ [])

abbrev pub accepted_as : Size → Stated
accepted_as z = state DONE (z.k ∷ z.n ∷ z.e ∷ z.c ∷ [])

-- what sizes answers
unfoldable pub read_answer : List ℕ → Stated
read_answer s = in_order refused (read_stages s (length s / 512)) (accepted_as (header_sizes s))

-- what unpack answers, the lent lists having this much room: 13 ROOM if one is too short
abbrev pub room_ok : Size → ℕ → ℕ → ℕ → Bool
room_ok z nodes expressions clauses = leb (8 * z.n) nodes && (leb (8 * z.e) expressions && leb (8 * z.c) clauses)

unfoldable pub unpack_answer : List ℕ → ℕ → ℕ → ℕ → Stated
unpack_answer s nodes expressions clauses =
    in_order refused (read_stages s (length s / 512) ++ whole 13 (room_ok (header_sizes s) nodes expressions clauses) ∷ []) (accepted_as (header_sizes s))

-- a lent list after an answer: what was written, then the bytes past it as they were; a refusal changes nothing
unfoldable pub lent : Stated → List ℕ → List ℕ → List ℕ
lent answer written before = cond (is_done answer.word) (written ++ drop (length written) before) before

-- the word and numbers of an answer or a refusal
abbrev pub stated_by : {A : Type 0} → (A → Stated) → Result A Refusal → Stated
stated_by stated (Ok x) = stated x
stated_by stated (Err r) = refused r.number r.block r.«record»

abbrev pub stated_read : Result Size Refusal → Stated
stated_read = stated_by accepted_as
