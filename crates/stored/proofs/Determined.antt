-- Each operation's promise determines its answer and all lent memory: two outcomes that it allows are equal.
-- Assumes nothing.
use Rattle.std.specs.Prelude.{Result, Ok, Err}
use mathlib.Core.Path.{◌≡◌, sym, ◌∙◌}
use mathlib.Core.List.{List, [], ◌∷◌}
use Prim.Native.Nat.{ℕ}
use Rattle.meaning.specs.Stated.{Stated}
use Rattle.stored.specs.declared.Size.{Size}
use Rattle.stored.specs.declared.Refusal.{Refusal}
use Rattle.stored.specs.Layout.{Records}
use Rattle.stored.specs.Reading.{refused, accepted_as, read_answer, stated_by, stated_read}
use Rattle.stored.specs.Packing.{written, stated_packed}
use Rattle.stored.specs.Operations.{Unpacks, Packs}
use Rattle.stored.proofs.Accepted.{refused_done}

refusal_same : (x y : Refusal) → refused x.number x.block x.«record» ≡ refused y.number y.block y.«record» → x ≡ y
refusal_same x y e =
    let ns : x.number ∷ x.block ∷ x.«record» ∷ [] ≡ y.number ∷ y.block ∷ y.«record» ∷ [] = λ i. (e i).numbers in
    let n : x.number ≡ y.number = cc in
    let b : x.block ≡ y.block = cc in
    let r : x.«record» ≡ y.«record» = cc in
    λ i. record { number = n i; block = b i; «record» = r i }

size_same : (x y : Size) → accepted_as x ≡ accepted_as y → x ≡ y
size_same x y e =
    let ns : x.k ∷ x.n ∷ x.e ∷ x.c ∷ [] ≡ y.k ∷ y.n ∷ y.e ∷ y.c ∷ [] = λ i. (e i).numbers in
    let k : x.k ≡ y.k = cc in
    let n : x.n ≡ y.n = cc in
    let f : x.e ≡ y.e = cc in
    let c : x.c ≡ y.c = cc in
    λ i. record { k = k i; n = n i; e = f i; c = c i }

-- two answers that are stated alike are one, where each value's statement is its own and no refusal's
module _ {A : Type 0} (stated : A → Stated) (apart : (x y : A) → stated x ≡ stated y → x ≡ y) (never : (x : A) (m b l : ℕ) → refused m b l ≡ stated x → ⊥) where
  pub stated_injective : (a b : Result A Refusal) → stated_by stated a ≡ stated_by stated b → a ≡ b
  stated_injective (Ok x) (Ok y) e = cc (apart x y e)
  stated_injective (Ok x) (Err y) e = absurd (never x _ _ _ (sym e))
  stated_injective (Err x) (Ok y) e = absurd (never y _ _ _ e)
  stated_injective (Err x) (Err y) e = cc (refusal_same x y e)

pub read_injective : (a b : Result Size Refusal) → stated_read a ≡ stated_read b → a ≡ b
read_injective = stated_injective accepted_as size_same (λ x m b l. refused_done m b l)

pub written_same : (x y : ℕ) → written x ≡ written y → x ≡ y
written_same x y e = let ns : x ∷ [] ≡ y ∷ [] = λ i. (e i).numbers in cc

pub packed_injective : (a b : Result ℕ Refusal) → stated_packed a ≡ stated_packed b → a ≡ b
packed_injective = stated_injective written written_same (λ x m b l. refused_done m b l)

pub sizes_determined : (job : List ℕ) (a b : Result Size Refusal) → stated_read a ≡ read_answer job → stated_read b ≡ read_answer job → a ≡ b
sizes_determined job a b p q = read_injective a b (p ∙ sym q)

pub unpack_determined : {job nodes expressions clauses nodes₁ expressions₁ clauses₁ nodes₂ expressions₂ clauses₂ : List ℕ} {a b : Result Size Refusal}
    → Unpacks job nodes expressions clauses nodes₁ expressions₁ clauses₁ a → Unpacks job nodes expressions clauses nodes₂ expressions₂ clauses₂ b
    → (a ≡ b) × (nodes₁ ≡ nodes₂) × (expressions₁ ≡ expressions₂) × (clauses₁ ≡ clauses₂)
unpack_determined {a = a} {b} p q =
    (read_injective a b (p.answer ∙ sym q.answer), p.nodes_are ∙ sym q.nodes_are, p.expressions_are ∙ sym q.expressions_are, p.clauses_are ∙ sym q.clauses_are)

pub pack_determined : {r : Records} {out out₁ out₂ : List ℕ} {a b : Result ℕ Refusal} → Packs r out out₁ a → Packs r out out₂ b → (a ≡ b) × (out₁ ≡ out₂)
pack_determined {a = a} {b} p q = (packed_injective a b (p.answer ∙ sym q.answer), p.out_is ∙ sym q.out_is)
