-- Items written as bytes: spaces and line ends may stand around them, and one must stand between two that are wordlike.
-- Assumes nothing.
use Rattle.std.specs.Prelude.{◌≡◌, Bool, true, false, ◌&&◌, ◌||◌, List, [], ◌∷◌, ◌++◌, ℕ, eqb}
use Rattle.grammar.specs.Items.{Item, spelled, wordlike}

-- bytes 32, 10 and 13
unfoldable pub is_gap : ℕ → Bool
is_gap b = eqb b 32 || (eqb b 10 || eqb b 13)

-- the bytes spell the items; `touching` says that a wordlike item ends just before them
pub data Spells : Bool → List Item → List ℕ → Type 0 where
  end : {touching : Bool} → Spells touching [] []
  gap : {touching : Bool} {b : ℕ} {items : List Item} {s : List ℕ} → is_gap b ≡ true → Spells false items s → Spells touching items (b ∷ s)
  item : {touching : Bool} {i : Item} {items : List Item} {s : List ℕ} → touching && wordlike i ≡ false → Spells (wordlike i) items s → Spells touching (i ∷ items) (spelled i ++ s)
