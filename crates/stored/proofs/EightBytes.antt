-- What each of the three kinds of records says depends on its eight bytes alone.
-- Assumes nothing.
use Rattle.std.proofs.Common.{◌≡◌, refl, ◌∙◌, ap, List, ℕ, ◌+◌, ◌<◌, arith}
use Rattle.stored.specs.Bytes.{byte_at, u16_at}
use Rattle.stored.specs.Decoding.{node_at, expression_at, clause_at}
use Rattle.stored.specs.EightBytes.{ByEightBytes}

module _ (s t : List ℕ) (a b : ℕ) (same : (f : ℕ) → f < 8 → byte_at s (a + f) ≡ byte_at t (b + f)) where
  code_same : byte_at s a ≡ byte_at t b
  code_same = let p : a ≡ a + 0 = omega arith in let q : b + 0 ≡ b = omega arith in ap (byte_at s) p ∙ same 0 (omega arith) ∙ ap (byte_at t) q

  u16_same : (f g : ℕ) → g ≡ f + 1 → g < 8 → u16_at s (a + f) ≡ u16_at t (b + f)
  u16_same f g e h =
      let p : a + f + 1 ≡ a + g = omega arith in
      let q : b + g ≡ b + f + 1 = omega arith in
      let next : byte_at s (a + f + 1) ≡ byte_at t (b + f + 1) = ap (byte_at s) p ∙ same g h ∙ ap (byte_at t) q in
      omega (arith, same f (omega arith), next)

pub node_by_eight : ByEightBytes node_at
unfolding node_at
node_by_eight s t a b same =
    rw (code_same s t a b same, u16_same s t a b same 2 3 refl (omega arith), u16_same s t a b same 4 5 refl (omega arith), u16_same s t a b same 6 7 refl (omega arith))

pub expression_by_eight : ByEightBytes expression_at
unfolding expression_at
expression_by_eight s t a b same = rw (code_same s t a b same, u16_same s t a b same 2 3 refl (omega arith), u16_same s t a b same 4 5 refl (omega arith))

pub clause_by_eight : ByEightBytes clause_at
unfolding clause_at
clause_by_eight s t a b same =
    rw (code_same s t a b same, same 1 (omega arith), u16_same s t a b same 2 3 refl (omega arith), u16_same s t a b same 4 5 refl (omega arith), u16_same s t a b same 6 7 refl (omega arith))
