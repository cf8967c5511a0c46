-- The promise of `tell` determines the line and the lent bytes: two outcomes that it allows are equal.
-- Assumes nothing.
use mathlib.Core.Path.{◌≡◌, subst}
use mathlib.Core.List.{List}
use Prim.Native.Nat.{ℕ}
use Rattle.verdicts.proofs.Determined.{check_determined}
use Rattle.lines.specs.Lines.{checked_line}
use Rattle.lines.specs.Written.{Gives}
use Rattle.lines.proofs.Determined.{line_determined}
use Rattle.kelpanvil.specs.Told.{Tells}

pub tell_determined : {job out out₁ out₂ : List ℕ} {m n : ℕ} → Tells job out out₁ m → Tells job out out₂ n → (m ≡ n) × (out₁ ≡ out₂)
tell_determined {job} {out} {out₂ = out₂} {n = n} p q =
    let same = check_determined job q.answer p.answer q.answers p.answers in
    line_determined p.given (subst (λ a. Gives (checked_line a) out out₂ n) same q.given)
