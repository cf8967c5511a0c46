-- Round trips, over what the operations promise: what pack writes, unpack gives back as the same records; what unpack gave, pack writes as the same bytes.
-- Assumes nothing.
use Rattle.std.specs.Prelude.{Result}
use Rattle.stored.specs.declared.Refusal.{Refusal}
use mathlib.Core.Path.{◌≡◌, sym, ◌∙◌, ap}
use mathlib.Core.List.{List, ◌++◌}
use Prim.Native.Nat.{ℕ, ◌*◌, ◌≤◌}
use native.Mathlib.Omega.{arith}
use lib.ListN.{length, take, drop}
use lib.Seq.{take_at}
use Rattle.stored.specs.declared.Size.{Size}
use Rattle.stored.specs.Bytes.{Bytes}
use Rattle.stored.specs.Layout.{Records, sizes_of, blocks_of, stored, records_of}
use Rattle.stored.specs.Reading.{accepted_as, read_answer, lent}
use Rattle.stored.specs.Packing.{written, pack_answer, stated_packed, Keeps, ByteLists}
use Rattle.stored.specs.Operations.{Packs}
use Rattle.stored.proofs.Stored.{stored_length, stored_accepted, reads_back}
use Rattle.stored.proofs.Accepted.{accepted_passes, read_keeps, read_stored, read_length}
use Rattle.stored.proofs.PackRefusals.{pack_accepts, pack_size}

-- the job that pack wrote: reading accepts it, and its records are those that were packed
pub record ReadsBack (r : Records) (job : List ℕ) : Type 0 where
  pub accepted : read_answer job ≡ accepted_as (sizes_of r)
  pub records : records_of job ≡ r

pub pack_unpack : (r : Records) → ByteLists r → (out out' : List ℕ) (p : Result ℕ Refusal) (bytes : ℕ) → Packs r out out' p → stated_packed p ≡ written bytes → ReadsBack r (take bytes out')
unfolding lent
pack_unpack r b out out' p bytes packs e =
    let a : pack_answer r (length out) ≡ written bytes = sym packs.answer ∙ e in
    let n : bytes ≡ 512 * blocks_of (sizes_of r) = pack_size r (length out) bytes a in
    let k : Keeps r = ((pack_accepts r (length out)).0 (a ∙ ap written n)).0 in
    let o : out' ≡ stored r ++ drop (length (stored r)) out = packs.out_is ∙ ap (λ x. lent x (stored r) out) a in
    let t : take bytes out' ≡ stored r = ap (take bytes) o ∙ take_at (stored r) (drop (length (stored r)) out) bytes (stored_length r ∙ sym n) in
    rw t (record { accepted = stored_accepted r k b; records = reads_back r (record { lists = k.lists; limits = k.limits; bytes = b }) })

-- the records of a job that reading accepts: pack, given room, writes the very bytes
pub record WritesBack (job out out' : List ℕ) (p : Result ℕ Refusal) : Type 0 where
  pub answer : stated_packed p ≡ written (length job)
  pub bytes : out' ≡ job ++ drop (length job) out

pub unpack_pack : (job : List ℕ) (z : Size) → Bytes job → read_answer job ≡ accepted_as z → (out out' : List ℕ) (p : Result ℕ Refusal) → length job ≤ length out → Packs (records_of job) out out' p → WritesBack job out out' p
unfolding lent
unpack_pack job z b e out out' p room packs =
    let passes = accepted_passes job z e in
    let n : length job ≡ 512 * blocks_of (sizes_of (records_of job)) = read_length job passes in
    let a : pack_answer (records_of job) (length out) ≡ written (length job) = (pack_accepts (records_of job) (length out)).1 (read_keeps job passes, omega arith) ∙ ap written (sym n) in
    let s : stored (records_of job) ≡ job = sym (read_stored job b passes) in
    record {
      answer = packs.answer ∙ a;
      bytes = packs.out_is ∙ ap (λ x. lent x (stored (records_of job)) out) a ∙ ap (λ x. x ++ drop (length x) out) s;
    }
