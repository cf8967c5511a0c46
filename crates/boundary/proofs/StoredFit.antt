-- What sizes, unpack and pack answer fits the forty bytes: within the limits sizes, blocks and records are small.
-- Assumes nothing.
use mathlib.Core.Path.{◌≡◌, refl, sym, subst}
use mathlib.Core.Bool.{true}
use mathlib.Core.List.{List}
use Prim.Native.Nat.{ℕ, ◌*◌, ◌/◌, ◌<◌}
use native.Mathlib.Omega.{arith}
use lib.Dec.{eqb}
use lib.ListN.{length}
use Rattle.scans.specs.Refusals.{in_order}
use Rattle.scans.proofs.Bools.{right_true, says}
use Rattle.scans.proofs.Exactly.{in_order_append, past_whole}
use Rattle.meaning.specs.Stated.{Stated}
use Rattle.stored.specs.declared.Size.{Size}
use Rattle.stored.specs.Bytes.{byte_at}
use Rattle.stored.specs.Layout.{Records, sizes_of, blocks_of, header_sizes, records_of}
use Rattle.stored.specs.Reading.{length_ok, header_ok, read_stages, record_stages, refused, accepted_as, read_answer, unpack_answer}
use Rattle.stored.specs.Packing.{pack_stages, written, pack_answer}
use Rattle.stored.specs.Broken.{Limits}
use Rattle.stored.proofs.RuleTests.{limits_rule}
use Rattle.stored.proofs.Accepted.{refused_done, read_sizes}
use Rattle.stored.proofs.Promise.{accepted_promise}
use Rattle.verdicts.specs.Said.{Accepted}
use Rattle.boundary.proofs.Fits.{Fits, Within, within_none, within_stage, within_whole, end_fits, test_fits}

-- the limits of an accepted job
pub accepted_limits : (s : List ℕ) → Accepted s → Limits (header_sizes s)
accepted_limits s a = let p = accepted_promise s (header_sizes s) a in subst Limits p.2 p.0.limits

-- 1 LENGTH leaves few blocks, 4 HEADER the limits
blocks_few : (s : List ℕ) → length_ok (length s) ≡ true → length s / 512 < 34
unfolding length_ok
blocks_few s e = let l = simp says at e in omega arith

header_limits : (s : List ℕ) → header_ok s ≡ true → Limits (sizes_of (records_of s))
unfolding header_ok
header_limits s e = subst Limits (sym (read_sizes s)) ((limits_rule (header_sizes s)).0 (right_true (eqb (byte_at s 4) 1) _ (right_true (eqb (byte_at s 3) 1) _ (right_true (eqb (byte_at s 2) 1) _ e))))

module _ (done fails : ℕ) (last : Stated) where
  records_within : (r : Records) → Limits (sizes_of r) → Within done fails (record_stages r) last
  records_within r l =
      within_stage done fails _ (omega arith) (λ i h. (omega arith, omega arith))
      (within_stage done fails _ (omega arith) (λ i h. (omega arith, omega arith))
      (within_stage done fails _ (omega arith) (λ i h. (omega arith, omega arith)) (within_none done fails last)))

  pub reading_within : (s : List ℕ) → Within done fails (read_stages s (length s / 512)) last
  reading_within s =
      within_whole done fails 1 _ (omega arith) (λ few.
      let l = blocks_few s few in
      within_stage done fails _ (omega arith) (λ b h. (omega arith, omega arith))
      (within_stage done fails _ (omega arith) (λ b h. (omega arith, omega arith))
      (within_whole done fails 4 _ (omega arith) (λ h.
      within_whole done fails 5 _ (omega arith) (λ _.
      within_stage done fails _ (omega arith) (λ b h. (omega arith, omega arith))
      (within_stage done fails _ (omega arith) (λ b h. (omega arith, omega arith)) (records_within (records_of s) (header_limits s h))))))))

-- what comes after reading is to fit where reading accepts
pub after_reading : (done fails : ℕ) (s : List ℕ) (next : Stated) → (Accepted s → Fits done fails next) → Fits done fails (in_order refused (read_stages s (length s / 512)) next)
unfolding read_answer
after_reading done fails s next h = (reading_within done fails (accepted_as (header_sizes s)) s).fits next h

sizes_small : (z : Size) → Limits z → Fits 4 0 (accepted_as z)
sizes_small z l = record { counted = refl; small = omega arith }

pub sizes_fit : (s : List ℕ) → Fits 4 0 (read_answer s)
unfolding read_answer
sizes_fit s = after_reading 4 0 s _ (λ a. sizes_small (header_sizes s) (accepted_limits s a))

pub unpack_fit : (s : List ℕ) (n e c : ℕ) → Fits 4 0 (unpack_answer s n e c)
unfolding unpack_answer
unpack_fit s n e c = rw in_order_append (after_reading 4 0 s _ (λ a. test_fits 4 0 13 _ _ _ (omega arith) (end_fits 4 0 (sizes_small (header_sizes s) (accepted_limits s a)))))

-- bytes written
pub bytes_small : (bytes : ℕ) → bytes < 4294967296 → Fits 1 0 (written bytes)
bytes_small bytes h = record { counted = refl; small = omega arith }

packing_within : (r : Records) (last : Stated) → Within 1 0 (pack_stages r) last
packing_within r last = within_whole 1 0 1 _ (omega arith) (λ _. within_whole 1 0 4 _ (omega arith) (λ h. records_within 1 0 last r ((limits_rule (sizes_of r)).0 h)))

-- a table that lets pass has tested the limits
packing_limits : (r : Records) (bytes : ℕ) → in_order refused (pack_stages r) (written bytes) ≡ written bytes → Limits (sizes_of r)
packing_limits r bytes e = (limits_rule (sizes_of r)).0 (past_whole refused 4 _ _ _ (refused_done 4) (past_whole refused 1 _ _ _ (refused_done 1) e).1).0

pub pack_fit : (r : Records) (room : ℕ) → Fits 1 0 (pack_answer r room)
unfolding pack_answer
pack_fit r room =
    let size = 512 * blocks_of (sizes_of r) in
    rw in_order_append ((packing_within r (written size)).fits _ (λ e. let l = packing_limits r size e in test_fits 1 0 13 _ _ _ (omega arith) (end_fits 1 0 (bytes_small size (omega arith)))))
