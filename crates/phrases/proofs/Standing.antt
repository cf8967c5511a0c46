-- A byte stands at a place, or does not.
-- Assumes nothing.
use mathlib.Core.Path.{◌≡◌, sym, ◌∙◌}
use mathlib.Core.Bool.{Bool, true, false}
use mathlib.Core.List.{List}
use Prim.Native.Nat.{ℕ}
use Rattle.scans.proofs.Bools.{both_ways, says}
use Rattle.phrases.specs.Places.{is_at, Stands}

pub stands : {text : List ℕ} {i b : ℕ} {t : Bool} → t ≡ is_at text i b → t ≡ true → Stands text i b
stands {text = text} {i = i} {b = b} e h = let x = simp says at (sym e ∙ h) in record { inside = x.0; is = x.1 }

pub stands_not : {text : List ℕ} {i b : ℕ} {t : Bool} → t ≡ is_at text i b → t ≡ false → ¬ Stands text i b
stands_not {text = text} {i = i} {b = b} e h s = let x : is_at text i b ≡ true = simp says (s.inside, s.is) in both_ways x (sym e ∙ h)

-- the same of a byte b that is m
pub stands_so : {text : List ℕ} {i b m : ℕ} {t : Bool} → b ≡ m → t ≡ is_at text i b → t ≡ true → Stands text i m
stands_so {text} {i} {b} same e h = rw same at (stands {text = text} {i = i} {b = b} e h)
