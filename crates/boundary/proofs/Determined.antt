-- Each operation's promise determines its result and all lent memory: two outcomes that it allows are equal.
-- Assumes nothing.
use mathlib.Core.Path.{◌≡◌, sym, ◌∙◌}
use mathlib.Core.List.{List}
use Prim.Native.Nat.{ℕ}
use Rattle.meaning.specs.Stated.{Stated}
use Rattle.stored.specs.Layout.{Records}
use Rattle.stored.specs.Reading.{read_answer}
use Rattle.verdicts.specs.Running.{check_answer, one_case_answer}
use Rattle.boundary.specs.Told.{Told, UnpackTold, PackTold, RowTold}

told_determined : {a : Stated} {answer answer₁ answer₂ : List ℕ} {r₁ r₂ : ℕ} → Told a answer answer₁ r₁ → Told a answer answer₂ r₂ → (r₁ ≡ r₂) × (answer₁ ≡ answer₂)
told_determined p q = (p.result_is ∙ sym q.result_is, p.answer_is ∙ sym q.answer_is)

pub sizes_determined : (job : List ℕ) {answer answer₁ answer₂ : List ℕ} {r₁ r₂ : ℕ} → Told (read_answer job) answer answer₁ r₁ → Told (read_answer job) answer answer₂ r₂ → (r₁ ≡ r₂) × (answer₁ ≡ answer₂)
sizes_determined job p q = told_determined p q

pub unpack_determined : {job nodes expressions clauses answer nodes₁ expressions₁ clauses₁ answer₁ nodes₂ expressions₂ clauses₂ answer₂ : List ℕ} {r₁ r₂ : ℕ}
    → UnpackTold job nodes expressions clauses answer nodes₁ expressions₁ clauses₁ answer₁ r₁
    → UnpackTold job nodes expressions clauses answer nodes₂ expressions₂ clauses₂ answer₂ r₂
    → ((r₁ ≡ r₂) × (answer₁ ≡ answer₂)) × (nodes₁ ≡ nodes₂) × (expressions₁ ≡ expressions₂) × (clauses₁ ≡ clauses₂)
unpack_determined p q = (told_determined p.told q.told, p.nodes_are ∙ sym q.nodes_are, p.expressions_are ∙ sym q.expressions_are, p.clauses_are ∙ sym q.clauses_are)

pub pack_determined : {r : Records} {out answer out₁ answer₁ out₂ answer₂ : List ℕ} {r₁ r₂ : ℕ} → PackTold r out answer out₁ answer₁ r₁ → PackTold r out answer out₂ answer₂ r₂ → ((r₁ ≡ r₂) × (answer₁ ≡ answer₂)) × (out₁ ≡ out₂)
pack_determined p q = (told_determined p.told q.told, p.out_is ∙ sym q.out_is)

pub row_determined : {job : List ℕ} {x t : ℕ} {out answer out₁ answer₁ out₂ answer₂ : List ℕ} {r₁ r₂ : ℕ} → RowTold job x t out answer out₁ answer₁ r₁ → RowTold job x t out answer out₂ answer₂ r₂ → ((r₁ ≡ r₂) × (answer₁ ≡ answer₂)) × (out₁ ≡ out₂)
row_determined p q = (told_determined p.told q.told, p.out_is ∙ sym q.out_is)

pub one_case_determined : (job : List ℕ) (x : ℕ) {answer answer₁ answer₂ : List ℕ} {r₁ r₂ : ℕ} → Told (one_case_answer job x) answer answer₁ r₁ → Told (one_case_answer job x) answer answer₂ r₂ → (r₁ ≡ r₂) × (answer₁ ≡ answer₂)
one_case_determined job x p q = told_determined p q

pub check_determined : (job : List ℕ) {answer answer₁ answer₂ : List ℕ} {r₁ r₂ : ℕ} → Told (check_answer job) answer answer₁ r₁ → Told (check_answer job) answer answer₂ r₂ → (r₁ ≡ r₂) × (answer₁ ≡ answer₂)
check_determined job p q = told_determined p q
