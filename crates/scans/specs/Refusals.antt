-- Refusals in their order: a table of tests, each with its number and the places at which it is asked.
-- Assumes nothing.
use Rattle.std.specs.Prelude.{Option, None, Some}
use Rattle.std.specs.Prelude.{◌≡◌, ◌⊎◌, Bool, false, List, [], ◌∷◌, ℕ, ◌<◌}
use Rattle.scans.specs.First.{first_bad}

-- a number's test, asked at the indexes below count; index i stands for this block, and this record in it
pub record Stage : Type 0 where
  pub number : ℕ
  pub count : ℕ
  pub ok : ℕ → Bool
  pub block : ℕ → ℕ
  pub slot : ℕ → ℕ

-- a test of the whole, which names no place
abbrev pub whole : ℕ → Bool → Stage
whole number ok = record { number = number; count = 1; ok = λ _. ok; block = λ _. 0; slot = λ _. 0 }

-- refused at the first index that fails, unless none does
unfoldable pub unless_at : {A : Type 0} → Option ℕ → (ℕ → A) → A → A
unless_at None at_place next = next
unless_at (Some i) at_place next = at_place i

-- the first stage that fails refuses, at the first place where it does; if none fails, this is the answer
unfoldable pub in_order : {A : Type 0} → (ℕ → ℕ → ℕ → A) → List Stage → A → A
in_order refused [] answer = answer
in_order refused (st ∷ rest) answer =
    unless_at (first_bad st.ok st.count) (λ i. refused st.number (st.block i) (st.slot i)) (in_order refused rest answer)

-- What the order means, said by itself.

-- a stage's condition holds at this place
pub record WrongAt (st : Stage) (block slot : ℕ) : Type 0 where
  pub at : ℕ
  pub below : at < st.count
  pub fails : st.ok at ≡ false
  pub block_is : st.block at ≡ block
  pub slot_is : st.slot at ≡ slot

-- the condition of this number holds at this place
abbrev pub Wrong : List Stage → ℕ → ℕ → ℕ → Type 0
Wrong [] number block slot = ⊥
Wrong (st ∷ rest) number block slot = ((st.number ≡ number) × WrongAt st block slot) ⊎ Wrong rest number block slot

-- one place is lower than another: by block, then by record
abbrev pub Lower : ℕ → ℕ → ℕ → ℕ → Type 0
Lower block slot block' slot' = (block < block') ⊎ ((block ≡ block') × (slot < slot'))

-- refused so: the number's condition holds there, at no lower place, and no lower number's holds anywhere
pub record Refuses (stages : List Stage) (number block slot : ℕ) : Type 0 where
  pub wrong : Wrong stages number block slot
  pub lowest : (b s : ℕ) → Lower b s block slot → ¬ (Wrong stages number b s)
  pub first : (m b s : ℕ) → m < number → ¬ (Wrong stages m b s)

-- a table in order: its numbers rise, and in each stage the places do not fall
abbrev pub Rising : ℕ → List Stage → Type 0
Rising number [] = Unit {0}
Rising number (st ∷ rest) =
    (number < st.number)
    × ((i k : ℕ) → i < k → k < st.count → ¬ (Lower (st.block k) (st.slot k) (st.block i) (st.slot i)))
    × Rising st.number rest
