-- Sizes that are those of record lists.
-- Assumes nothing.
use Rattle.std.specs.Prelude.{◌≡◌, ℕ, ◌<◌, List}
use Rattle.stored.specs.declared.Size.{Size}
use Rattle.stored.specs.Layout.{sizes_of}
use Rattle.stored.specs.Operations.{records_for}

-- z counts the records that are packed, and its k is a byte
pub record Counted (z : Size) (nodes expressions clauses : List ℕ) : Type 0 where
  pub small : z.k < 256
  pub is : z ≡ sizes_of (records_for z.k nodes expressions clauses)
