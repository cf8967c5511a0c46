-- What is accepted: just the bytes that records which keep every rule are stored as.
-- Each byte of an accepted job is fixed: by its block's number, kind and used count, by the records it holds, by the zeros past them, and by the check.
-- Assumes nothing.
use borrow.Author.Tests.{le-ltb, eqb-true}
use mathlib.Core.Path.{◌≡◌, refl, sym, ◌∙◌, ap, subst}
use mathlib.Core.Logic.{◌↔◌}
use mathlib.Core.Bool.{true, ◌&&◌}
use mathlib.Core.List.{List}
use native.Mathlib.Decide.{dec_lt}
use native.Mathlib.Nat.{add-zero}
use native.Mathlib.Omega.{arith}
use Prim.Native.Nat.{ℕ, zero, suc, ◌+◌, ◌*◌, ◌-◌, ◌/◌, ◌%◌, ◌≤◌, ◌<◌}
use lib.Dec.{eqb, leb}
use lib.ListN.{length}
use Rattle.scans.proofs.Bools.{both_ways, of_true, left_true, right_true}
use Rattle.scans.proofs.Search.{clear_each, each_e}
use Rattle.scans.proofs.Exactly.{past, past_whole}
use Rattle.meaning.specs.Stated.{DONE, state, is_done}
use Rattle.stored.specs.declared.Size.{Size}
use Rattle.scans.specs.Lists.{list_of}
use Rattle.stored.specs.Bytes.{byte_at, u16_at, Bytes, digit}
use Rattle.stored.specs.Layout.{Records, sizes_of, span, first_expressions, first_clauses, blocks_of, kind_of, used_of, used_from, header_record, room_byte, plain_byte, block_byte, stored, header_sizes, record_byte, records_of}
use Rattle.stored.specs.Rules.{limits_ok, node_ok, expression_ok, clause_ok}
use Rattle.stored.specs.Reading.{length_ok, sum_ok, number_ok, header_ok, count_ok, block_ok, rest_byte_ok, rest_ok, refused, accepted_as, read_answer}
use Rattle.stored.specs.Packing.{lists_ok, Keeps, ByteLists}
use Rattle.scans.proofs.Lists.{length_list_of, list_of_at, list_of_is}
use Rattle.stored.proofs.ByteLaws.{bytes_list_of, Digits₂, digits_2}
use Rattle.stored.proofs.Sums.{sums_check, check_word_same}
use Rattle.stored.proofs.Parts.{in_stretch, Lengths, lengths_of, lengths_sizes, lengths_pass, Part, header_part, nodes_part, expressions_part, clauses_part, room_rest}
use Rattle.stored.proofs.Stored.{block_plain, block_check, none_left, stored_accepted}

-- no refusal is an answer that gives what was asked for
pub refused_done : {numbers : List ℕ} (m b l : ℕ) → refused m b l ≡ state DONE numbers → ⊥
refused_done m b l e = both_ways refl (ap (λ a. is_done a.word) (sym e))

-- every test of the table, passed
pub record Passes (s : List ℕ) : Type 0 where
  pub length_ok_lem : length_ok (length s) ≡ true
  pub sum : (b : ℕ) → b < length s / 512 → sum_ok s b ≡ true
  pub number : (b : ℕ) → b < length s / 512 → number_ok s b ≡ true
  pub header : header_ok s ≡ true
  pub count : count_ok s (length s / 512) ≡ true
  pub block : (b : ℕ) → b < length s / 512 → block_ok s b ≡ true
  pub rest : (b : ℕ) → b < length s / 512 → rest_ok s b ≡ true
  pub node : (i : ℕ) → i < (sizes_of (records_of s)).n → node_ok (sizes_of (records_of s)).n (records_of s).nodes (8 * i) ≡ true
  pub expression : (i : ℕ) → i < (sizes_of (records_of s)).e → expression_ok (records_of s).k i (records_of s).expressions (8 * i) ≡ true
  pub clause : (i : ℕ) → i < (sizes_of (records_of s)).c → clause_ok (sizes_of (records_of s)).n (sizes_of (records_of s)).e (records_of s).clauses (8 * i) ≡ true

-- the way through the table, to its end
through : (s : List ℕ) (z : Size) → read_answer s ≡ accepted_as z → Passes s × (accepted_as (header_sizes s) ≡ accepted_as z)
unfolding read_answer
through s z e =
    let p₁ = past_whole refused 1 _ _ _ (refused_done 1) e in
    let p₂ = past refused _ _ _ (refused_done 2) p₁.1 in
    let p₃ = past refused _ _ _ (refused_done 3) p₂.1 in
    let p₄ = past_whole refused 4 _ _ _ (refused_done 4) p₃.1 in
    let p₅ = past_whole refused 5 _ _ _ (refused_done 5) p₄.1 in
    let p₆ = past refused _ _ _ (refused_done 6) p₅.1 in
    let p₇ = past refused _ _ _ (refused_done 7) p₆.1 in
    let p₈ = past refused _ _ _ (refused_done 8) p₇.1 in
    let p₉ = past refused _ _ _ (refused_done 9) p₈.1 in
    let p₁₀ = past refused _ _ _ (refused_done 10) p₉.1 in (
      record {
        length_ok_lem = p₁.0;
        sum = clear_each _ _ p₂.0;
        number = clear_each _ _ p₃.0;
        header = p₄.0;
        count = p₅.0;
        block = clear_each _ _ p₆.0;
        rest = clear_each _ _ p₇.0;
        node = clear_each _ _ p₈.0;
        expression = clear_each _ _ p₉.0;
        clause = clear_each _ _ p₁₀.0;
      },
      none_left _ ∙ p₁₀.1,
    )

-- an accepted job has passed every test
pub accepted_passes : (s : List ℕ) (z : Size) → read_answer s ≡ accepted_as z → Passes s
accepted_passes s z e = (through s z e).0

-- the answer has the header's sizes
pub accepted_sizes : (s : List ℕ) (z : Size) → read_answer s ≡ accepted_as z → z ≡ header_sizes s
accepted_sizes s z e = same (header_sizes s) (through s z e).1
  where
    same : (y : Size) → accepted_as y ≡ accepted_as z → z ≡ y
    same y q =
        let l = ap (λ x. x.numbers) q in
        let k : z.k ≡ y.k = cc in
        let n : z.n ≡ y.n = cc in
        let m : z.e ≡ y.e = cc in
        let c : z.c ≡ y.c = cc in
        λ i. record { k = k i; n = n i; e = m i; c = c i }

-- the records that are read: their lists are as long as the header says
read_lengths : (s : List ℕ) → Lengths (records_of s) (header_sizes s)
unfolding records_of
read_lengths s = record { nodes = length_list_of _ _; expressions = length_list_of _ _; clauses = length_list_of _ _ }

-- so they have the sizes that it says
pub read_sizes : (s : List ℕ) → sizes_of (records_of s) ≡ header_sizes s
unfolding records_of
read_sizes s = lengths_sizes (records_of s) (header_sizes s) (read_lengths s) refl

read_lists : (s : List ℕ) → lists_ok (records_of s) ≡ true
read_lists s = lengths_pass (records_of s) (header_sizes s) (read_lengths s)

-- and they are bytes, where all is
pub read_bytes : (s : List ℕ) → Bytes s → ByteLists (records_of s)
unfolding records_of record_byte
read_bytes s bytes =
    record { nodes = bytes_list_of _ _ (λ q. bytes _); expressions = bytes_list_of _ _ (λ q. bytes _); clauses = bytes_list_of _ _ (λ q. bytes _) }

-- 4 HEADER, its last two tests: the edition and the limits
header_says : (s : List ℕ) → header_ok s ≡ true → eqb (byte_at s 4) 1 && limits_ok (header_sizes s) ≡ true
unfolding header_ok
header_says s e = right_true (eqb (byte_at s 3) 1) _ (right_true (eqb (byte_at s 2) 1) _ e)

module _ (s : List ℕ) (passes : Passes s) where
  read_limits : limits_ok (sizes_of (records_of s)) ≡ true
  read_limits = rw read_sizes (right_true (eqb (byte_at s 4) 1) _ (header_says s passes.header))

  -- they keep every rule
  pub read_keeps : Keeps (records_of s)
  read_keeps =
      record { lists = read_lists s; limits = read_limits; node = passes.node; expression = passes.expression; clause = passes.clause }

  -- and they take the blocks that there are
  pub read_blocks : length s / 512 ≡ blocks_of (sizes_of (records_of s))
  unfolding count_ok
  read_blocks = eqb-true _ _ passes.count ∙ ap blocks_of (sym (read_sizes s))

  pub read_length : length s ≡ 512 * blocks_of (sizes_of (records_of s))
  unfolding length_ok
  read_length =
      let e = right_true (leb 1 (length s)) _ passes.length_ok_lem in
      let m : length s % 512 ≡ 0 = eqb-true _ _ (right_true (leb (length s) 16896) _ e) in
      omega (arith, read_blocks)

-- a part of what is read, whose list has what stands in its blocks
record ReadPart (s list : List ℕ) (m first : ℕ) : Type 0 where
  part : Part (records_of s) list m first
  same : (q : ℕ) → q < 8 * m → byte_at list q ≡ record_byte s first q

module _ (s : List ℕ) where
  lengths : Lengths (records_of s) (sizes_of (records_of s))
  lengths = lengths_of (records_of s) (read_lists s)

  -- the list of m records from first on, by the sizes that are read and by those that the header says
  list_read : (m first : Size → ℕ) (q : ℕ) → q < 8 * m (sizes_of (records_of s)) → byte_at (list_of (record_byte s (first (header_sizes s))) (8 * m (header_sizes s))) q ≡ record_byte s (first (sizes_of (records_of s))) q
  list_read m first q h =
      let z = header_sizes s in
      let l : q < 8 * m z = subst (λ y. q < 8 * m y) (read_sizes s) h in
      list_of_at (record_byte s (first z)) (8 * m z) q l ∙ ap (λ y. record_byte s (first y) q) (sym (read_sizes s))

  nodes_read : ReadPart s (records_of s).nodes (sizes_of (records_of s)).n 1
  unfolding records_of
  nodes_read = record { part = nodes_part (records_of s) lengths; same = list_read (λ z. z.n) (λ z. 1) }

  expressions_read : ReadPart s (records_of s).expressions (sizes_of (records_of s)).e (first_expressions (sizes_of (records_of s)))
  unfolding records_of
  expressions_read = record { part = expressions_part (records_of s) lengths; same = list_read (λ z. z.e) first_expressions }

  clauses_read : ReadPart s (records_of s).clauses (sizes_of (records_of s)).c (first_clauses (sizes_of (records_of s)))
  unfolding records_of
  clauses_read = record { part = clauses_part (records_of s) lengths; same = list_read (λ z. z.c) first_clauses }

module _ (s : List ℕ) (bytes : Bytes s) (passes : Passes s) where
  header_byte : (q : ℕ) → q < 8 → byte_at (header_record (header_sizes s)) q ≡ record_byte s 0 q
  unfolding header_sizes record_byte
  header_byte zero h = sym (eqb-true _ _ (left_true _ _ (header_says s passes.header)))
  header_byte (suc zero) h = refl
  header_byte (suc (suc zero)) h = (digits_2 _ _ (bytes 6) (bytes 7)).first
  header_byte (suc (suc (suc zero))) h = (digits_2 _ _ (bytes 6) (bytes 7)).second
  header_byte (suc (suc (suc (suc zero)))) h = (digits_2 _ _ (bytes 8) (bytes 9)).first
  header_byte (suc (suc (suc (suc (suc zero))))) h = (digits_2 _ _ (bytes 8) (bytes 9)).second
  header_byte (suc (suc (suc (suc (suc (suc zero)))))) h = (digits_2 _ _ (bytes 10) (bytes 11)).first
  header_byte (suc (suc (suc (suc (suc (suc (suc zero))))))) h = (digits_2 _ _ (bytes 10) (bytes 11)).second
  header_byte (suc (suc (suc (suc (suc (suc (suc (suc q)))))))) h = absurd (omega arith)

  header_read : ReadPart s (header_record (sizes_of (records_of s))) 1 0
  header_read =
      record { part = header_part (records_of s) (lengths s); same = λ q h. ap (λ z. byte_at (header_record z) q) (read_sizes s) ∙ header_byte q h }

  -- block b, byte by byte
  module _ (b : ℕ) (within : b < length s / 512) where
    number_bytes : Digits₂ b (byte_at s (512 * b)) (byte_at s (512 * b + 1))
    unfolding number_ok
    number_bytes =
        let e : u16_at s (512 * b) ≡ b = eqb-true _ _ (passes.number b within) in
        rw e at (digits_2 _ _ (bytes (512 * b)) (bytes (512 * b + 1)))

    kind_byte : byte_at s (512 * b + 2) ≡ kind_of (sizes_of (records_of s)) b
    unfolding block_ok
    kind_byte = eqb-true _ _ (left_true _ _ (passes.block b within)) ∙ ap (λ z. kind_of z b) (sym (read_sizes s))

    used_byte : byte_at s (512 * b + 3) ≡ used_of (sizes_of (records_of s)) b
    unfolding block_ok
    used_byte =
        let e = right_true (eqb (byte_at s (512 * b + 2)) (kind_of (header_sizes s) b)) _ (passes.block b within) in
        eqb-true _ _ e ∙ ap (λ z. used_of z b) (sym (read_sizes s))

    -- past the records in use there are zeros
    rest_byte : (o : ℕ) → o < 504 → 8 * byte_at s (512 * b + 3) ≤ o → byte_at s (512 * b + 4 + o) ≡ 0
    unfolding rest_ok rest_byte_ok
    rest_byte o h l =
        let e : rest_byte_ok s b o ≡ true = each_e (rest_byte_ok s b) 504 (of_true _ (passes.rest b within)) o h in
        eqb-true _ _ (rw (le-ltb o (8 * byte_at s (512 * b + 3)) l) at e)

    -- the room for records has the bytes of the list in whose blocks it is, or those zeros
    room_byte_lem : (o : ℕ) → o < 504 → byte_at s (512 * b + 4 + o) ≡ plain_byte (records_of s) b (suc (suc (suc (suc o))))
    unfolding record_byte
    room_byte_lem o h =
        let e = read_blocks s passes in
        in_stretch (sizes_of (records_of s)) b (λ k. of_part header_read (omega arith) k) (of_part (nodes_read s)) (of_part (expressions_read s)) (λ l. of_part (clauses_read s) l (omega arith))
      where
        in_list : {list : List ℕ} {m first : ℕ} → ReadPart s list m first → first ≤ b → b < first + span m → Dec (o < 8 * used_from m first b) → byte_at s (512 * b + 4 + o) ≡ room_byte list first b o
        in_list {list} {m} {first} p l k (yes i) =
            let q = 504 * (b - first) + o in
            let e : 512 * b + 4 + o ≡ 512 * (first + q / 504) + 4 + q % 504 = omega arith in
            ap (byte_at s) e ∙ sym (p.same q (omega arith))
        in_list {list} {m} {first} p l k (no i) =
            rest_byte o h (omega (arith, used_byte, p.part.used b l k)) ∙ sym (room_rest list m first b o p.part.size h (omega arith))

        of_part : {list : List ℕ} {m first : ℕ} → ReadPart s list m first → first ≤ b → b < first + span m → byte_at s (512 * b + 4 + o) ≡ plain_byte (records_of s) b (suc (suc (suc (suc o))))
        of_part {list} {m} {first} p l k = in_list p l k (dec_lt o (8 * used_from m first b)) ∙ sym (p.part.room b o l k)

    plain_byte_lem : (o : ℕ) → o < 508 → byte_at s (512 * b + o) ≡ plain_byte (records_of s) b o
    unfolding plain_byte
    plain_byte_lem zero h = rw add-zero (sym number_bytes.first)
    plain_byte_lem (suc zero) h = sym number_bytes.second
    plain_byte_lem (suc (suc zero)) h = kind_byte
    plain_byte_lem (suc (suc (suc zero))) h = used_byte
    plain_byte_lem (suc (suc (suc (suc o)))) h =
        let e : 512 * b + suc (suc (suc (suc o))) ≡ 512 * b + 4 + o = omega arith in
        ap (byte_at s) e ∙ room_byte_lem o (omega arith)

    -- the check is that of the bytes before it
    check_byte : (o : ℕ) → 508 ≤ o → o < 512 → byte_at s (512 * b + o) ≡ block_byte (records_of s) b o
    unfolding sum_ok
    check_byte o l h =
        let f : ℕ → ℕ = λ i. byte_at s (512 * b + i) in
        let plain = plain_byte (records_of s) b in
        sums_check f (λ i. bytes (512 * b + i)) (eqb-true _ _ (passes.sum b within)) o l h ∙ ap (λ v. digit v (o - 508)) (check_word_same f plain plain_byte_lem) ∙ sym (block_check (records_of s) b o l)

    block_byte_lem : (o : ℕ) → o < 512 → byte_at s (512 * b + o) ≡ block_byte (records_of s) b o
    block_byte_lem o h = go (dec_lt o 508)
      where
        go : Dec (o < 508) → byte_at s (512 * b + o) ≡ block_byte (records_of s) b o
        go (yes l) = plain_byte_lem o l ∙ sym (block_plain (records_of s) b o l)
        go (no l) = check_byte o (omega arith) h

  -- so an accepted job is what its records are stored as
  pub read_stored : s ≡ stored (records_of s)
  unfolding stored
  read_stored = list_of_is byte s same ∙ ap (list_of byte) (read_length s passes)
    where
      byte : ℕ → ℕ
      byte j = block_byte (records_of s) (j / 512) (j % 512)

      same : (j : ℕ) → j < length s → byte_at s j ≡ byte j
      same j h =
          let e : j ≡ 512 * (j / 512) + j % 512 = omega arith in
          let l = read_length s passes in
          ap (byte_at s) e ∙ block_byte_lem (j / 512) (omega arith) (j % 512) (omega arith)

-- what is accepted is just what records that keep every rule are stored as
pub accepted_iff : (s : List ℕ) → Bytes s → (z : Size) → (read_answer s ≡ accepted_as z) ↔ ((r : Records) × Keeps r × ByteLists r × (s ≡ stored r) × (z ≡ sizes_of r))
accepted_iff s bytes z = (there, back)
  where
    there : read_answer s ≡ accepted_as z → (r : Records) × Keeps r × ByteLists r × (s ≡ stored r) × (z ≡ sizes_of r)
    there e =
        let p = accepted_passes s z e in
        (records_of s, read_keeps s p, read_bytes s bytes, read_stored s bytes p, accepted_sizes s z e ∙ sym (read_sizes s))

    back : (r : Records) × Keeps r × ByteLists r × (s ≡ stored r) × (z ≡ sizes_of r) → read_answer s ≡ accepted_as z
    back x = ap read_answer x.3 ∙ stored_accepted x.0 x.1 x.2 ∙ ap accepted_as (sym x.4)
