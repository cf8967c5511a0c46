-- What packing accepts: exactly the records that keep every rule, given room for their blocks. Each stage of its table is one of these rules.
-- Assumes nothing.
use borrow.Author.Tests.{leb-true, le-leb}
use mathlib.Core.Path.{◌≡◌, ◌∙◌, sym}
use mathlib.Core.Logic.{◌↔◌}
use mathlib.Core.List.{[], ◌∷◌, ◌++◌}
use Prim.Native.Nat.{ℕ, ◌*◌, ◌≤◌}
use lib.Dec.{leb}
use Rattle.scans.specs.Refusals.{whole}
use Rattle.scans.proofs.Search.{clear_each}
use Rattle.scans.proofs.Exactly.{in_order_append, past, past_whole, skip_whole, answer_is}
use Rattle.stored.specs.Layout.{Records, sizes_of, blocks_of}
use Rattle.stored.specs.Reading.{record_stages, refused}
use Rattle.stored.specs.Packing.{pack_stages, written, pack_answer, Keeps}
use Rattle.stored.proofs.Stored.{none_left, keeps_answer}
use Rattle.stored.proofs.Accepted.{refused_done}

-- bytes are written exactly for records that keep every rule, where they fit
pub pack_accepts : (r : Records) (room : ℕ) → (pack_answer r room ≡ written (512 * blocks_of (sizes_of r))) ↔ (Keeps r × (512 * blocks_of (sizes_of r) ≤ room))
unfolding pack_answer
pack_accepts r room = (there, back)
  where
    there : pack_answer r room ≡ written (512 * blocks_of (sizes_of r)) → Keeps r × (512 * blocks_of (sizes_of r) ≤ room)
    there e =
        let p₁ = past_whole refused 1 _ _ _ (refused_done 1) e in
        let p₂ = past_whole refused 4 _ _ _ (refused_done 4) p₁.1 in
        let p₃ = past refused _ _ _ (refused_done 8) p₂.1 in
        let p₄ = past refused _ _ _ (refused_done 9) p₃.1 in
        let p₅ = past refused _ _ _ (refused_done 10) p₄.1 in
        let p₆ = past_whole refused 13 _ _ _ (refused_done 13) p₅.1 in
        (record { lists = p₁.0; limits = p₂.0; node = clear_each _ _ p₃.0; expression = clear_each _ _ p₄.0; clause = clear_each _ _ p₅.0 }, leb-true _ _ p₆.0)

    back : Keeps r × (512 * blocks_of (sizes_of r) ≤ room) → pack_answer r room ≡ written (512 * blocks_of (sizes_of r))
    back (keeps, fits) =
        skip_whole refused 1 _ _ _ keeps.lists
        ∙ skip_whole refused 4 _ _ _ keeps.limits
        ∙ in_order_append refused (record_stages r) (whole 13 (leb (512 * blocks_of (sizes_of r)) room) ∷ []) _
        ∙ keeps_answer r keeps _
        ∙ skip_whole refused 13 _ _ _ (le-leb _ _ fits)
        ∙ sym (none_left _)

-- and they are as many as the blocks take
pub pack_size : (r : Records) (room bytes : ℕ) → pack_answer r room ≡ written bytes → bytes ≡ 512 * blocks_of (sizes_of r)
unfolding pack_answer
pack_size r room bytes e =
    let a = answer_is refused (pack_stages r ++ whole 13 (leb (512 * blocks_of (sizes_of r)) room) ∷ []) refused_done e in
    let ns : 512 * blocks_of (sizes_of r) ∷ [] ≡ bytes ∷ [] = λ i. (a i).numbers in
    cc
