-- Packing: the table of its refusals, and what is answered.
-- Assumes nothing.
use Rattle.std.specs.Prelude.{Result}
use Rattle.stored.specs.declared.Refusal.{Refusal}
use Rattle.std.specs.Prelude.{◌≡◌, Bool, true, ◌&&◌, List, [], ◌∷◌, ◌++◌, ℕ, ◌*◌, ◌%◌, ◌<◌, eqb, leb, length}
use Rattle.scans.specs.Refusals.{Stage, whole, in_order}
use Rattle.meaning.specs.Stated.{Stated, DONE, state}
use Rattle.stored.specs.Bytes.{Bytes}
use Rattle.stored.specs.Layout.{Records, sizes_of, blocks_of}
use Rattle.stored.specs.Rules.{limits_ok, node_ok, expression_ok, clause_ok}
use Rattle.stored.specs.Reading.{record_stages, refused, stated_by}

-- 1 LENGTH: a list not a multiple of 8
unfoldable pub lists_ok : Records → Bool
lists_ok r = eqb (length r.nodes % 8) 0 && (eqb (length r.expressions % 8) 0 && eqb (length r.clauses % 8) 0)

-- 4 HEADER: a limit. Then the records' own lines, with the places that they would have
abbrev pub pack_stages : Records → List Stage
pack_stages r = whole 1 (lists_ok r) ∷ whole 4 (limits_ok (sizes_of r)) ∷ record_stages r

abbrev pub written : ℕ → Stated
written bytes = state DONE (bytes ∷ [])

-- what pack answers, the lent output having this much room
unfoldable pub pack_answer : Records → ℕ → Stated
pack_answer r room =
    let size = 512 * blocks_of (sizes_of r) in
    in_order refused (pack_stages r ++ whole 13 (leb size room) ∷ []) (written size)

abbrev pub stated_packed : Result ℕ Refusal → Stated
stated_packed = stated_by written

-- records that keep every rule: what pack accepts, given room
pub record Keeps (r : Records) : Type 0 where
  pub lists : lists_ok r ≡ true
  pub limits : limits_ok (sizes_of r) ≡ true
  pub node : (i : ℕ) → i < (sizes_of r).n → node_ok (sizes_of r).n r.nodes (8 * i) ≡ true
  pub expression : (i : ℕ) → i < (sizes_of r).e → expression_ok r.k i r.expressions (8 * i) ≡ true
  pub clause : (i : ℕ) → i < (sizes_of r).c → clause_ok (sizes_of r).n (sizes_of r).e r.clauses (8 * i) ≡ true

-- their lists are lists of bytes
pub record ByteLists (r : Records) : Type 0 where
  pub nodes : Bytes r.nodes
  pub expressions : Bytes r.expressions
  pub clauses : Bytes r.clauses
