-- Each job of the examples is what records that keep every rule are stored as.
-- Assumes nothing.
use mathlib.Core.Path.{◌≡◌, refl}
use mathlib.Core.Bool.{Bool, true, ◌&&◌}
use mathlib.Core.List.{List, [], ◌∷◌}
use native.Mathlib.Omega.{arith}
use Prim.Native.Nat.{ℕ, zero, suc, ◌*◌}
use lib.Dec.{T, ltb, ltb→lt}
use Rattle.scans.specs.First.{first_bad}
use Rattle.scans.specs.Refusals.{unless_at, in_order}
use Rattle.scans.proofs.Bools.{and_left, and_right}
use Rattle.stored.specs.Bytes.{Bytes}
use Rattle.stored.specs.Layout.{Records, sizes_of, blocks_of, stored}
use Rattle.stored.specs.Rules.{limits_ok, operand_ok, node_ok, first_ok, second_ok, expression_ok, clause_ok}
use Rattle.stored.specs.Packing.{lists_ok, written, pack_answer, Keeps, ByteLists}
use Rattle.stored.proofs.PackRefusals.{pack_accepts}
use Rattle.worked.specs.Jobs.{Sample, packed, flag, flag_records, known_records, forced_records, one_records, quiet_records, zero_records}
use Rattle.worked.proofs.Flag.{flag_stored}

-- its bytes are what its records are stored as, and these keep every rule
pub record Sound (job : Sample) : Type 0 where
  pub is : job.bytes ≡ stored job.records
  pub keeps : Keeps job.records
  pub byte_lists : ByteLists job.records

-- a list of bytes, by a test
all_bytes : List ℕ → Bool
all_bytes [] = true
all_bytes (b ∷ s) = ltb b 256 && all_bytes s

all_bytes_lem : (s : List ℕ) → T (all_bytes s) → Bytes s
unfolding all_bytes
all_bytes_lem [] t i = omega arith
all_bytes_lem (b ∷ s) t zero = ltb→lt b 256 (and_left (ltb b 256) _ t)
all_bytes_lem (b ∷ s) t (suc i) = all_bytes_lem s (and_right (ltb b 256) _ t) i

-- what is computed of each: pack accepts its records, and their lists are lists of bytes
abbrev Fine : Records → Type 0
Fine r = (pack_answer r 16896 ≡ written (512 * blocks_of (sizes_of r))) × T (all_bytes r.nodes) × T (all_bytes r.expressions) × T (all_bytes r.clauses)

all_fine : Fine flag_records × Fine known_records × Fine forced_records × Fine one_records × Fine quiet_records × Fine zero_records
unfolding
    flag_records known_records forced_records one_records quiet_records zero_records all_bytes pack_answer lists_ok limits_ok operand_ok node_ok first_ok second_ok expression_ok clause_ok
    first_bad unless_at in_order
all_fine = ((refl, tt, tt, tt), (refl, tt, tt, tt), (refl, tt, tt, tt), (refl, tt, tt, tt), (refl, tt, tt, tt), (refl, tt, tt, tt))

sound : (job : Sample) → job.bytes ≡ stored job.records → Fine job.records → Sound job
sound job e f =
    let r = job.records in
    record {
      is = e;
      keeps = ((pack_accepts r 16896).0 f.0).0;
      byte_lists = record { nodes = all_bytes_lem r.nodes f.1; expressions = all_bytes_lem r.expressions f.2; clauses = all_bytes_lem r.clauses f.3 };
    }

pub flag_sound : Sound flag
flag_sound = sound flag flag_stored all_fine.0

pub known_sound : Sound (packed known_records)
known_sound = sound (packed known_records) refl all_fine.1

pub forced_sound : Sound (packed forced_records)
forced_sound = sound (packed forced_records) refl all_fine.2

pub one_sound : Sound (packed one_records)
one_sound = sound (packed one_records) refl all_fine.3

pub quiet_sound : Sound (packed quiet_records)
quiet_sound = sound (packed quiet_records) refl all_fine.4

pub zero_sound : Sound (packed zero_records)
zero_sound = sound (packed zero_records) refl all_fine.5
