-- What was in a list stays in front of it, as records are put after it.
-- Assumes nothing.
use mathlib.Core.Path.{◌≡◌, sym, ◌∙◌, ap}
use mathlib.Core.List.{List, ◌++◌}
use native.Mathlib.Omega.{arith}
use Prim.Native.Nat.{ℕ, ◌≤◌}
use lib.ListN.{length, take, length-append}
use Rattle.std.proofs.Math.Seq.{take-append_seam, take-length}
use Rattle.std.proofs.lemmas.List.{take-take}
use Rattle.phrases.specs.GuardsRead.{records_in}
use Rattle.assertions.specs.ListsRead.{Kept}

pub kept_same : (es : List ℕ) → records_in es ≤ 504 → Kept es es
kept_same es few = record { front = take-length es; few = few }

pub kept_put : (es r : List ℕ) {es' : List ℕ} → es' ≡ es ++ r → records_in es' ≤ 504 → Kept es es'
kept_put es r put few = record { front = ap (take (length es)) put ∙ take-append_seam es r; few = few }

-- what stays in front of a list that was put after another
pub kept_on : (es r : List ℕ) {es₁ es₂ : List ℕ} → es₁ ≡ es ++ r → Kept es₁ es₂ → Kept es es₂
kept_on es r {es₁} {es₂} put k =
    let shorter : length es ≤ length es₁ = omega (arith, ap length put, length-append es r) in
    record {
      front = sym (take-take (length es) (length es₁) es₂ shorter) ∙ ap (take (length es)) (k.front ∙ put) ∙ take-append_seam es r;
      few = k.few;
    }
