-- The bytes that records are stored as: each passes the tests of reading up to the records' own, and the records are read back from them.
-- Assumes nothing.
use borrow.Author.Tests.{lt-ltb, le-ltb, le-leb, eq-eqb}
use mathlib.Core.Path.{◌≡◌, refl, sym, ◌∙◌, ap}
use mathlib.Core.Bool.{true}
use mathlib.Core.List.{List, []}
use native.Mathlib.Decide.{dec_lt}
use native.Mathlib.Nat.{zero-add}
use native.Mathlib.Omega.{arith}
use Prim.Native.Nat.{ℕ, zero, suc, ◌+◌, ◌*◌, ◌-◌, ◌/◌, ◌%◌, ◌≤◌, ◌<◌}
use lib.Dec.{ltb}
use lib.ListN.{length}
use Rattle.scans.specs.Refusals.{in_order}
use Rattle.scans.proofs.Bools.{is_true}
use Rattle.scans.proofs.Search.{each_clear, each_i}
use Rattle.scans.proofs.Order.{on_clear, on_passed}
use Rattle.meaning.specs.Stated.{Stated}
use Rattle.scans.specs.Lists.{list_of}
use Rattle.stored.specs.Bytes.{byte_at, u16_at, Bytes, digit, word_of}
use Rattle.stored.specs.Layout.{Records, sizes_of, span, first_expressions, first_clauses, blocks_of, kind_of, used_of, header_record, plain_byte, check_word, block_byte, stored, header_sizes, record_byte, records_of}
use Rattle.stored.specs.Rules.{limits_ok}
use Rattle.stored.specs.Reading.{length_ok, sum_ok, number_ok, header_ok, count_ok, block_ok, rest_byte_ok, rest_ok, record_stages, read_stages, refused, accepted_as, read_answer}
use Rattle.stored.specs.Packing.{lists_ok, Keeps, ByteLists}
use Rattle.scans.proofs.Lists.{length_list_of, list_of_at, list_of_is}
use Rattle.stored.proofs.ByteLaws.{bytes_list_of, digit_below, of_digits_2, of_digits_4}
use Rattle.stored.proofs.RuleTests.{limits_rule}
use Rattle.stored.proofs.Sums.{word_sum_same, check_sums, check_word_same, check_word_below}
use Rattle.stored.specs.Broken.{Limits}
use Rattle.stored.proofs.Parts.{cond_each, by_kind_each, in_stretch, Lengths, lengths_of, Part, header_part, nodes_part, expressions_part, clauses_part, room_rest}

-- records that may be stored: what the layout needs of them, their own rules left out
pub record Sized (r : Records) : Type 0 where
  pub lists : lists_ok r ≡ true
  pub limits : limits_ok (sizes_of r) ≡ true
  pub bytes : ByteLists r

module _ (r : Records) where
  -- whole blocks
  pub stored_length : length (stored r) ≡ 512 * blocks_of (sizes_of r)
  unfolding stored
  stored_length = length_list_of _ _

  pub stored_blocks : length (stored r) / 512 ≡ blocks_of (sizes_of r)
  stored_blocks = omega (arith, stored_length)

  -- byte o of block b, at its place
  pub stored_byte : (j b o : ℕ) → j ≡ 512 * b + o → b < blocks_of (sizes_of r) → o < 512 → byte_at (stored r) j ≡ block_byte r b o
  unfolding stored
  stored_byte j b o e h l =
      let d : j / 512 ≡ b = omega arith in
      let m : j % 512 ≡ o = omega arith in
      list_of_at (λ i. block_byte r (i / 512) (i % 512)) (512 * blocks_of (sizes_of r)) j (omega arith) ∙ rw (d, m)

  pub stored_at : (b o : ℕ) → b < blocks_of (sizes_of r) → o < 512 → byte_at (stored r) (512 * b + o) ≡ block_byte r b o
  stored_at b o h l = stored_byte (512 * b + o) b o refl h l

  -- a block's bytes: those before the check, and the check's
  pub block_plain : (b o : ℕ) → o < 508 → block_byte r b o ≡ plain_byte r b o
  unfolding block_byte
  block_plain b o h = rw (lt-ltb o 508 h)

  pub block_check : (b o : ℕ) → 508 ≤ o → block_byte r b o ≡ digit (check_word (plain_byte r b)) (o - 508)
  unfolding block_byte
  block_check b o h = rw (le-ltb o 508 h)

  -- where they stand
  pub stored_plain : (j b o : ℕ) → j ≡ 512 * b + o → b < blocks_of (sizes_of r) → o < 508 → byte_at (stored r) j ≡ plain_byte r b o
  stored_plain j b o e h l = stored_byte j b o e h (omega arith) ∙ block_plain b o l

  stored_kind : (b : ℕ) → b < blocks_of (sizes_of r) → byte_at (stored r) (512 * b + 2) ≡ kind_of (sizes_of r) b
  unfolding plain_byte
  stored_kind b h = stored_plain (512 * b + 2) b 2 refl h (omega arith)

  stored_used : (b : ℕ) → b < blocks_of (sizes_of r) → byte_at (stored r) (512 * b + 3) ≡ used_of (sizes_of r) b
  unfolding plain_byte
  stored_used b h = stored_plain (512 * b + 3) b 3 refl h (omega arith)

  check_word_lem : (b : ℕ) → word_of (block_byte r b) 127 ≡ check_word (block_byte r b)
  check_word_lem b = last ∙ check_word_same (plain_byte r b) (block_byte r b) (λ o h. sym (block_plain b o h))
    where
      last : word_of (block_byte r b) 127 ≡ check_word (plain_byte r b)
      last = unfold block_byte in of_digits_4 (check_word (plain_byte r b)) (check_word_below (plain_byte r b))

  -- each block's words add up
  pub stored_sum : (b : ℕ) → b < blocks_of (sizes_of r) → sum_ok (stored r) b ≡ true
  unfolding sum_ok
  stored_sum b h =
      eq-eqb _ _
      (ap (λ w. w % 4294967296) (word_sum_same (λ o. byte_at (stored r) (512 * b + o)) (block_byte r b) 128 (λ o l. stored_at b o h l)) ∙ check_sums (block_byte r b) (check_word_lem b))

module _ (r : Records) (sized : Sized r) where
  limits : Limits (sizes_of r)
  limits = (limits_rule (sizes_of r)).0 sized.limits

  lengths : Lengths r (sizes_of r)
  lengths = lengths_of r sized.lists

  header_bytes : Bytes (header_record (sizes_of r))
  header_bytes zero = omega arith
  header_bytes (suc zero) = omega (arith, limits.k_most)
  header_bytes (suc (suc zero)) = digit_below (sizes_of r).n 0
  header_bytes (suc (suc (suc zero))) = digit_below (sizes_of r).n 1
  header_bytes (suc (suc (suc (suc zero)))) = digit_below (sizes_of r).e 0
  header_bytes (suc (suc (suc (suc (suc zero))))) = digit_below (sizes_of r).e 1
  header_bytes (suc (suc (suc (suc (suc (suc zero)))))) = digit_below (sizes_of r).c 0
  header_bytes (suc (suc (suc (suc (suc (suc (suc zero))))))) = digit_below (sizes_of r).c 1
  header_bytes (suc (suc (suc (suc (suc (suc (suc (suc i)))))))) = omega arith

  plain_byte_lem : (b o : ℕ) → plain_byte r b o < 256
  unfolding plain_byte kind_of used_of
  plain_byte_lem b zero = digit_below b 0
  plain_byte_lem b (suc zero) = digit_below b 1
  plain_byte_lem b (suc (suc zero)) = by_kind_each (λ x. x < 256) (sizes_of r) b 1 2 3 4 (omega arith) (omega arith) (omega arith) (omega arith)
  plain_byte_lem b (suc (suc (suc zero))) = by_kind_each (λ x. x < 256) (sizes_of r) b _ _ _ _ (omega arith) (omega arith) (omega arith) (omega arith)
  plain_byte_lem b (suc (suc (suc (suc o)))) =
      let z = sizes_of r in
      by_kind_each (λ x. x < 256) z b _ _ _ _ (header_bytes (504 * (b - 0) + o)) (sized.bytes.nodes (504 * (b - 1) + o))
      (sized.bytes.expressions (504 * (b - first_expressions z) + o))
      (sized.bytes.clauses (504 * (b - first_clauses z) + o))

  -- all are bytes
  pub block_byte_lem : (b o : ℕ) → block_byte r b o < 256
  unfolding block_byte
  block_byte_lem b o = cond_each (λ x. x < 256) (ltb o 508) _ _ (plain_byte_lem b o) (digit_below _ (o - 508))

  pub stored_bytes : Bytes (stored r)
  unfolding stored
  stored_bytes = bytes_list_of _ _ (λ j. block_byte_lem (j / 512) (j % 512))

  few_blocks : blocks_of (sizes_of r) ≤ 33
  few_blocks = omega (arith, limits.n_most, limits.e_most, limits.c_most)

  -- the tests of reading, in their order
  pub stored_length_ok : length_ok (length (stored r)) ≡ true
  unfolding length_ok
  stored_length_ok =
      let e = stored_length r in
      let l : 1 ≤ length (stored r) = omega arith in
      let h : length (stored r) ≤ 16896 = omega (arith, few_blocks) in
      let m : length (stored r) % 512 ≡ 0 = omega arith in
      rw (le-leb _ _ l, le-leb _ _ h, eq-eqb _ _ m)

  pub stored_number : (b : ℕ) → b < blocks_of (sizes_of r) → number_ok (stored r) b ≡ true
  unfolding number_ok plain_byte
  stored_number b h =
      let p : byte_at (stored r) (512 * b) ≡ digit b 0 = stored_plain r (512 * b) b 0 (omega arith) h (omega arith) in
      let q : byte_at (stored r) (512 * b + 1) ≡ digit b 1 = stored_plain r (512 * b + 1) b 1 refl h (omega arith) in
      let e = of_digits_2 b (omega (arith, few_blocks)) in
      let number : u16_at (stored r) (512 * b) ≡ b = omega arith in
      eq-eqb _ _ number

  -- byte o of the header's record
  header_byte : (o : ℕ) → o < 504 → byte_at (stored r) (4 + o) ≡ byte_at (header_record (sizes_of r)) o
  unfolding plain_byte
  header_byte o h = stored_plain r (4 + o) 0 (suc (suc (suc (suc o)))) (omega arith) (omega arith) (omega arith) ∙ rw zero-add

  -- the header says the sizes
  pub stored_sizes : header_sizes (stored r) ≡ sizes_of r
  unfolding header_sizes
  stored_sizes =
      let k : byte_at (stored r) 5 ≡ r.k = header_byte 1 (omega arith) in
      let n : u16_at (stored r) 6 ≡ (sizes_of r).n = omega (arith, header_byte 2 (omega arith), header_byte 3 (omega arith), limits.n_most) in
      let e : u16_at (stored r) 8 ≡ (sizes_of r).e = omega (arith, header_byte 4 (omega arith), header_byte 5 (omega arith), limits.e_most) in
      let c : u16_at (stored r) 10 ≡ (sizes_of r).c = omega (arith, header_byte 6 (omega arith), header_byte 7 (omega arith), limits.c_most) in
      λ i. record { k = k i; n = n i; e = e i; c = c i }

  pub stored_header : header_ok (stored r) ≡ true
  unfolding header_ok kind_of used_of
  stored_header =
      let kind : byte_at (stored r) 2 ≡ 1 = stored_kind r 0 (omega arith) in
      let used : byte_at (stored r) 3 ≡ 1 = stored_used r 0 (omega arith) in
      let edition : byte_at (stored r) 4 ≡ 1 = header_byte 0 (omega arith) in
      rw (kind, used, edition, stored_sizes) sized.limits

  pub stored_count : count_ok (stored r) (blocks_of (sizes_of r)) ≡ true
  unfolding count_ok
  stored_count = rw stored_sizes (eq-eqb (blocks_of (sizes_of r)) (blocks_of (sizes_of r)) refl)

  pub stored_block : (b : ℕ) → b < blocks_of (sizes_of r) → block_ok (stored r) b ≡ true
  unfolding block_ok
  stored_block b h = rw (stored_sizes, eq-eqb _ _ (stored_kind r b h), eq-eqb _ _ (stored_used r b h))

  -- past the records in use a block has zeros
  rest_zero : (b o : ℕ) → b < blocks_of (sizes_of r) → o < 504 → 8 * used_of (sizes_of r) b ≤ o → plain_byte r b (suc (suc (suc (suc o)))) ≡ 0
  rest_zero b o h k l =
      in_stretch (sizes_of r) b (λ j. of_part (header_part r lengths) (omega arith) j) (λ i j. of_part (nodes_part r lengths) i j)
      (λ i j. of_part (expressions_part r lengths) i j)
      (λ i. of_part (clauses_part r lengths) i h)
    where
      of_part : {list : List ℕ} {m first : ℕ} → Part r list m first → first ≤ b → b < first + span m → plain_byte r b (suc (suc (suc (suc o)))) ≡ 0
      of_part {list} {m} {first} p i j = p.room b o i j ∙ room_rest list m first b o p.size k (omega (arith, p.used b i j))

  rest_byte : (b o : ℕ) → b < blocks_of (sizes_of r) → o < 504 → rest_byte_ok (stored r) b o ≡ true
  unfolding rest_byte_ok
  rest_byte b o h k = go (dec_lt o (8 * byte_at (stored r) (512 * b + 3)))
    where
      go : Dec (o < 8 * byte_at (stored r) (512 * b + 3)) → rest_byte_ok (stored r) b o ≡ true
      go (yes l) = rw (lt-ltb _ _ l)
      go (no l) =
          let used = stored_used r b h in
          let past : 8 * byte_at (stored r) (512 * b + 3) ≤ o = omega arith in
          let zeros = stored_plain r (512 * b + 4 + o) b (suc (suc (suc (suc o)))) (omega arith) h (omega arith) ∙ rest_zero b o h k (omega arith) in
          rw (le-ltb _ _ past, eq-eqb _ _ zeros)

  pub stored_rest : (b : ℕ) → b < blocks_of (sizes_of r) → rest_ok (stored r) b ≡ true
  unfolding rest_ok
  stored_rest b h = is_true _ (each_i (rest_byte_ok (stored r) b) 504 (λ o l. rest_byte b o h l))

  -- each list is read back from its blocks
  list_back : (list : List ℕ) (m first : ℕ) → Part r list m first → list_of (record_byte (stored r) first) (8 * m) ≡ list
  unfolding record_byte
  list_back list m first p = sym (rw p.size at (list_of_is (record_byte (stored r) first) list same))
    where
      same : (q : ℕ) → q < length list → byte_at list q ≡ record_byte (stored r) first q
      same q h =
          let b = first + q / 504 in
          let o = q % 504 in
          let l = p.size in
          let w = p.within in
          let i : b < first + span m = omega arith in
          let e : 504 * (b - first) + o ≡ q = omega arith in
          sym (stored_plain r (512 * b + 4 + o) b (suc (suc (suc (suc o)))) (omega arith) (omega arith) (omega arith) ∙ p.room b o (omega arith) i ∙ ap (byte_at list) e)

  -- what was stored is read back
  pub reads_back : records_of (stored r) ≡ r
  unfolding records_of
  reads_back =
      let z = sizes_of r in
      let n = list_back r.nodes z.n 1 (nodes_part r lengths) in
      let e = list_back r.expressions z.e (first_expressions z) (expressions_part r lengths) in
      let c = list_back r.clauses z.c (first_clauses z) (clauses_part r lengths) in
      rw stored_sizes (λ i. record { k = r.k; nodes = n i; expressions = e i; clauses = c i })

  -- what is stored passes all that comes before the records' own tests
  pub stored_answer : (a : Stated) → in_order refused (read_stages (stored r) (length (stored r) / 512)) a ≡ in_order refused (record_stages r) a
  stored_answer a =
      let s = stored r in
      rw (stored_blocks r)
      (sym
      (on_passed refused _ a 1 (sym stored_length_ok) refl
      (on_clear refused _ a _ (sym (each_clear (sum_ok s) _ (stored_sum r))) refl
      (on_clear refused _ a _ (sym (each_clear (number_ok s) _ stored_number)) refl
      (on_passed refused _ a 4 (sym stored_header) refl
      (on_passed refused _ a 5 (sym stored_count) refl
      (on_clear refused _ a _ (sym (each_clear (block_ok s) _ stored_block)) refl
      (on_clear refused _ a _ (sym (each_clear (rest_ok s) _ stored_rest)) refl
      (ap (λ x. in_order refused (record_stages x) a) (sym reads_back))))))))))

-- a table that has come to its end gives the answer
pub none_left : (a : Stated) → a ≡ in_order refused [] a
unfolding in_order
none_left a = refl

-- records that keep every rule pass their own tests
pub keeps_answer : (r : Records) → Keeps r → (a : Stated) → in_order refused (record_stages r) a ≡ a
keeps_answer r keeps a =
    sym
    (on_clear refused _ a _ (sym (each_clear _ _ keeps.node)) refl
    (on_clear refused _ a _ (sym (each_clear _ _ keeps.expression)) refl (on_clear refused _ a _ (sym (each_clear _ _ keeps.clause)) refl (none_left a))))

-- so they are accepted as they are stored
pub stored_accepted : (r : Records) → Keeps r → ByteLists r → read_answer (stored r) ≡ accepted_as (sizes_of r)
unfolding read_answer
stored_accepted r keeps bytes =
    let sized : Sized r = record { lists = keeps.lists; limits = keeps.limits; bytes = bytes } in
    stored_answer r sized _ ∙ keeps_answer r keeps _ ∙ ap accepted_as (stored_sizes r sized)
