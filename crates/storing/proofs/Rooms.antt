-- A byte of a block, taken by its place: the definitions go by the place's shape, the code by comparisons.
-- Assumes nothing.
use Rattle.std.proofs.Common.{◌≡◌, ℕ, suc, ◌+◌, ◌*◌, ◌<◌, refl, arith}
use Rattle.stored.specs.Bytes.{byte_at}
use Rattle.stored.specs.Layout.{Records, sizes_of, first_expressions, first_clauses, by_kind, header_record, room_byte, plain_byte}

-- the room's bytes come after the first four
pub plain_room : (r : Records) (b o : ℕ) → plain_byte r b (o + 4)
    ≡ (let z = sizes_of r in
    by_kind z b (room_byte (header_record z) 0 b o) (room_byte r.nodes 1 b o) (room_byte r.expressions (first_expressions z) b o) (room_byte r.clauses (first_clauses z) b o))
unfolding plain_byte
plain_room r b o = let e : o + 4 ≡ suc (suc (suc (suc o))) = omega arith in rw e refl

-- block 0 holds the header's record
pub plain_header : (r : Records) (b o : ℕ) → b < 1 → plain_byte r b (o + 4) ≡ byte_at (header_record (sizes_of r)) o
plain_header r b o h = let e : b ≡ 0 = omega arith in let z : 504 * 0 + o ≡ o = omega arith in rw (plain_room r b o, e, z) refl

pub ruleset rooms = (plain_room, plain_header)
