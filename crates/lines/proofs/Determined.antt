-- The promise of either function determines its answer and the lent bytes: two outcomes that it allows are equal.
-- Assumes nothing.
use mathlib.Core.Path.{◌≡◌, sym, ◌∙◌}
use mathlib.Core.List.{List}
use Prim.Native.Nat.{ℕ}
use Rattle.lines.specs.Written.{Gives}

pub line_determined : {line out out₁ out₂ : List ℕ} {m n : ℕ} → Gives line out out₁ m → Gives line out out₂ n → (m ≡ n) × (out₁ ≡ out₂)
line_determined p q = (p.count ∙ sym q.count, p.out_is ∙ sym q.out_is)
