-- Operands joined by one operator, left to right: stated once over the operator.
-- Assumes nothing.
use mathlib.Core.Path.{◌≡◌, refl, ◌∙◌}
use mathlib.Core.List.{List, ◌∷◌, ◌++◌, append_assoc}
use native.Mathlib.Omega.{arith}
use Prim.Native.Nat.{ℕ, suc, ◌+◌, ◌*◌, ◌≤◌, ◌<◌}
use lib.ListN.{length}
use Rattle.grammar.specs.Items.{Operator, SIGN, mark_byte}
use Rattle.grammar.specs.Guards.{Guard, joined, strength, size}
use Rattle.grammar.specs.Records.{expression_record, op_of, guard_place, guard_records}
use Rattle.grammar.specs.Points.{Frame, joining, groups, Point, Fresh}
use Rattle.phrases.specs.Places.{Stands, Skips}
use Rattle.phrases.specs.GuardsRead.{wanting, GuardTo, GuardNone, records_in}
use Rattle.grammar.proofs.Frames.{fresh_joining}
use Rattle.phrases.proofs.FrameLaws.{sign_goes, sign_stops, joined_up}
use Rattle.phrases.proofs.LevelLaws.{wanted, had, one_record}

joined_put : (o : Operator) (g h : Guard) (e : ℕ) (es : List ℕ) {es₁ es₂ es₃ : List ℕ} → es₁ ≡ es ++ guard_records e g → es₂ ≡ es₁ ++ guard_records (e + size g) h
    → es₃ ≡ es₂ ++ expression_record (op_of o) (guard_place e g) (guard_place (e + size g) h) → es₃ ≡ es ++ guard_records e (joined o g h)
unfolding guard_records
joined_put o g h e es p q r = rw (r, q, p) (simp append_assoc)

module _ (o : Operator) {k depth pending i : ℕ} {text es : List ℕ} where
  module _ {es₁ : List ℕ} {q : ℕ} (g : GuardTo (strength o) (suc (strength o)) k depth pending i text es es₁ q) where
    -- no room for it
    pub chain_full : Stands text q (mark_byte (SIGN o)) → 504 < records_in es₁ + (pending + 2) → GuardNone (strength o) k depth pending i text es q
    chain_full s full = record { comes = λ n p fs d fr. g.comes n p fs d fr ∙ sign_stops k n text p (records_in es₁ + pending) fs o g.guard s (omega arith) }

    -- one operand more
    module _ {j : ℕ} (s : Stands text q (mark_byte (SIGN o))) (room : records_in es₁ + (pending + 2) ≤ 504) (sk : Skips text (q + 1) j) where
      on_right : (n : ℕ) (p : Point) (fs : List Frame) → groups fs ≡ depth → Fresh (strength o) fs → wanting k n text i p (records_in es + pending) fs ≡ wanting k n text j p (records_in es₁ + (pending + 1)) (joining o g.guard ∷ fs)
      on_right n p fs d fr = g.comes n p fs d fr ∙ sign_goes k n text p (records_in es₁ + pending) fs o g.guard s sk fr (omega arith) ∙ wanted k n text j p (joining o g.guard ∷ fs) (omega arith)

      pub chain_none : {r : ℕ} → GuardNone (suc (strength o)) k depth (pending + 1) j text es₁ r → GuardNone (strength o) k depth pending i text es r
      unfolding groups
      chain_none h = record { comes = λ n p fs d fr. on_right n p fs d fr ∙ h.comes n p (joining o g.guard ∷ fs) d (fresh_joining o g.guard fs) }

      pub chain_more : (left right : ℕ) {es₂ es₃ : List ℕ} {r : ℕ} → GuardTo (suc (strength o)) (suc (strength o)) k depth (pending + 1) j text es₁ es₂ r
          → 8 * (left + 1) ≡ length es₁ → 8 * (right + 1) ≡ length es₂ → es₃ ≡ es₂ ++ expression_record (op_of o) left right → GuardTo (strength o) (suc (strength o)) k depth pending i text es es₃ r
      unfolding size guard_records groups
      chain_more left right {es₂} {es₃} {r} h left_counted right_counted put =
          let e = records_in es in
          let place : records_in es₁ ≡ e + size g.guard = g.count in
          let left_is : left ≡ guard_place e g.guard = omega (arith, g.count) in
          let right_is : right ≡ guard_place (e + size g.guard) h.guard = omega (arith, g.count, h.count) in
          let more = one_record es₂ (expression_record (op_of o) left right) put refl in
          record {
            guard = joined o g.guard h.guard;
            past = omega (arith, g.past, sk.forward, h.past);
            over = h.over;
            count = omega (arith, g.count, h.count, more);
            few = omega (arith, h.few, more);
            put = joined_put o g.guard h.guard e es g.put (rw place at h.put) (rw (left_is, right_is) at put);
            comes = λ n p fs d fr.
                on_right n p fs d fr
                ∙ h.comes n p (joining o g.guard ∷ fs) d (fresh_joining o g.guard fs)
                ∙ joined_up k n text p (records_in es₂ + (pending + 1)) fs o g.guard h.guard h.over
                ∙ had k n text r p fs (omega (arith, more)) (joined o g.guard h.guard);
          }
