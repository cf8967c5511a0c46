-- The parts of a stored job: what is chosen by the kind of a block, and each list in the blocks that are its own.
-- The header's one record counts as a list too, so that each law of a part is stated once.
-- Assumes nothing.
use borrow.Author.Tests.{lt-ltb, le-ltb}
use mathlib.Core.Path.{◌≡◌, refl, ◌∙◌}
use mathlib.Core.Bool.{Bool, true, false, cond}
use mathlib.Core.List.{List}
use native.Mathlib.Decide.{dec_lt}
use native.Mathlib.Omega.{arith}
use Prim.Native.Nat.{ℕ, suc, ◌+◌, ◌*◌, ◌≤◌, ◌<◌}
use lib.Dec.{ltb}
use lib.ListN.{length, get_or-eq_default}
use Rattle.stored.specs.declared.Size.{Size}
use Rattle.stored.specs.Layout.{Records, sizes_of, span, first_expressions, first_clauses, blocks_of, by_kind, used_from, used_of, header_record, room_byte, plain_byte}
use Rattle.stored.specs.Packing.{lists_ok}
use Rattle.scans.proofs.Bools.{says}

-- what is chosen, by where the block stands
module _ {A : Type 0} (z : Size) (b : ℕ) (header node expression clause : A) where
  pub at_header : b < 1 → by_kind z b header node expression clause ≡ header
  at_header h = rw (lt-ltb b 1 h)

  pub at_nodes : 1 ≤ b → b < first_expressions z → by_kind z b header node expression clause ≡ node
  at_nodes l h = rw (le-ltb b 1 l, lt-ltb b (first_expressions z) h)

  pub at_expressions : first_expressions z ≤ b → b < first_clauses z → by_kind z b header node expression clause ≡ expression
  at_expressions l h = rw (le-ltb b 1 (omega arith), le-ltb b (first_expressions z) l, lt-ltb b (first_clauses z) h)

  pub at_clauses : first_clauses z ≤ b → by_kind z b header node expression clause ≡ clause
  at_clauses l = rw (le-ltb b 1 (omega arith), le-ltb b (first_expressions z) (omega arith), le-ltb b (first_clauses z) l)

-- what holds of both holds of the one that is chosen, and so of four by the kind of a block
pub cond_each : {A : Type 0} (P : A → Type 0) (t : Bool) (x y : A) → P x → P y → P (cond t x y)
cond_each P true x y p q = p
cond_each P false x y p q = q

pub by_kind_each : {A : Type 0} (P : A → Type 0) (z : Size) (b : ℕ) (header node expression clause : A) → P header → P node → P expression → P clause → P (by_kind z b header node expression clause)
by_kind_each P z b header node expression clause p q r s =
    cond_each P (ltb b 1) header _ p
    (cond_each P (ltb b (first_expressions z)) node _ q (cond_each P (ltb b (first_clauses z)) expression clause r s))

-- every block is in one of four stretches
pub in_stretch : {P : Type 0} (z : Size) (b : ℕ) → (b < 1 → P) → (1 ≤ b → b < first_expressions z → P) → (first_expressions z ≤ b → b < first_clauses z → P) → (first_clauses z ≤ b → P) → P
in_stretch {P} z b header node expression clause = go (dec_lt b 1) (dec_lt b (first_expressions z)) (dec_lt b (first_clauses z))
  where
    go : Dec (b < 1) → Dec (b < first_expressions z) → Dec (b < first_clauses z) → P
    go (yes i) d f = header i
    go (no i) (yes k) f = node (omega arith) k
    go (no i) (no k) (yes m) = expression (omega arith) m
    go (no i) (no k) (no m) = clause (omega arith)

-- the lists of r are of as many whole records as z says
pub record Lengths (r : Records) (z : Size) : Type 0 where
  pub nodes : length r.nodes ≡ 8 * z.n
  pub expressions : length r.expressions ≡ 8 * z.e
  pub clauses : length r.clauses ≡ 8 * z.c

-- lists that pass 1 LENGTH are of as many as they count
pub lengths_of : (r : Records) → lists_ok r ≡ true → Lengths r (sizes_of r)
unfolding lists_ok
lengths_of r e = let p = simp says at e in omega arith

-- and the other way: what z says is what they count, and they pass
module _ (r : Records) (z : Size) (lengths : Lengths r z) where
  pub lengths_sizes : r.k ≡ z.k → sizes_of r ≡ z
  lengths_sizes k =
      let n : (sizes_of r).n ≡ z.n = omega (arith, lengths.nodes) in
      let e : (sizes_of r).e ≡ z.e = omega (arith, lengths.expressions) in
      let c : (sizes_of r).c ≡ z.c = omega (arith, lengths.clauses) in
      λ i. record { k = k i; n = n i; e = e i; c = c i }

  pub lengths_pass : lists_ok r ≡ true
  unfolding lists_ok
  lengths_pass = simp says (omega (arith, lengths.nodes, lengths.expressions, lengths.clauses))

-- a list of m records stands in the blocks from first on: how many are in use in each, and what bytes stand in their room
pub record Part (r : Records) (list : List ℕ) (m first : ℕ) : Type 0 where
  pub size : length list ≡ 8 * m
  pub within : first + span m ≤ blocks_of (sizes_of r)
  pub used : (b : ℕ) → first ≤ b → b < first + span m → used_of (sizes_of r) b ≡ used_from m first b
  pub room : (b o : ℕ) → first ≤ b → b < first + span m → plain_byte r b (suc (suc (suc (suc o)))) ≡ room_byte list first b o

-- the header's record is such a list, and so is each of the three
module _ (r : Records) (lengths : Lengths r (sizes_of r)) where
  pub header_part : Part r (header_record (sizes_of r)) 1 0
  unfolding used_of plain_byte
  header_part =
      record {
        size = refl;
        within = omega arith;
        used = λ b l h. at_header (sizes_of r) b _ _ _ _ h ∙ omega arith;
        room = λ b o l h. at_header (sizes_of r) b _ _ _ _ h;
      }

  pub nodes_part : Part r r.nodes (sizes_of r).n 1
  unfolding used_of plain_byte
  nodes_part =
      record {
        size = lengths.nodes;
        within = omega arith;
        used = λ b l h. at_nodes (sizes_of r) b _ _ _ _ l h;
        room = λ b o l h. at_nodes (sizes_of r) b _ _ _ _ l h;
      }

  pub expressions_part : Part r r.expressions (sizes_of r).e (first_expressions (sizes_of r))
  unfolding used_of plain_byte
  expressions_part =
      record {
        size = lengths.expressions;
        within = omega arith;
        used = λ b l h. at_expressions (sizes_of r) b _ _ _ _ l h;
        room = λ b o l h. at_expressions (sizes_of r) b _ _ _ _ l h;
      }

  pub clauses_part : Part r r.clauses (sizes_of r).c (first_clauses (sizes_of r))
  unfolding used_of plain_byte
  clauses_part =
      record {
        size = lengths.clauses;
        within = omega arith;
        used = λ b l h. at_clauses (sizes_of r) b _ _ _ _ l;
        room = λ b o l h. at_clauses (sizes_of r) b _ _ _ _ l;
      }

-- past the records in use the list has ended
pub room_rest : (list : List ℕ) (m first b o : ℕ) → length list ≡ 8 * m → o < 504 → 8 * used_from m first b ≤ o → room_byte list first b o ≡ 0
room_rest list m first b o e h l = get_or-eq_default list 0 (omega arith)
