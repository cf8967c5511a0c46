-- What a record says depends on its eight bytes alone.
-- Assumes nothing.
use Rattle.std.specs.Prelude.{◌≡◌, List, ℕ, ◌+◌, ◌<◌}
use Rattle.stored.specs.Bytes.{byte_at}

abbrev pub ByEightBytes : {A : Type 0} → (List ℕ → ℕ → A) → Type 0
ByEightBytes value_at = (s t : List ℕ) (a b : ℕ) → ((f : ℕ) → f < 8 → byte_at s (a + f) ≡ byte_at t (b + f)) → value_at s a ≡ value_at t b
