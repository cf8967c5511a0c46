-- Each operation after reading: what reading refuses is refused, and otherwise the rest of its table decides.
-- Assumes nothing.
use Rattle.std.specs.Prelude.{Result, Ok, Err}
use Rattle.std.proofs.Common.{◌≡◌, refl, sym, ◌∙◌, ap, Bool, true, false, ℕ, zero, suc, ◌^◌, List, [], ◌∷◌, ◌++◌, length, drop, ltb, leb, arith}
use lib.ListN.{length-append}
use Rattle.scans.specs.First.{first_bad, each}
use Rattle.scans.specs.Refusals.{whole, unless_at, in_order}
use Rattle.scans.proofs.Exactly.{in_order_append, refused_still, passed_on}
use Rattle.meaning.specs.declared.JobAnswer.{JobAnswer}
use Rattle.meaning.specs.Jobs.{Job}
use Rattle.meaning.specs.Rows.{row_clear, row_numbers}
use Rattle.meaning.specs.Cases.{case_answer}
use Rattle.meaning.specs.Answers.{job_answer}
use Rattle.meaning.specs.Stated.{Stated, stated_case, stated_job}
use Rattle.stored.specs.declared.Size.{Size}
use Rattle.stored.specs.declared.Refusal.{Refusal}
use Rattle.stored.specs.Layout.{header_sizes}
use Rattle.stored.specs.Reading.{refused, accepted_as, read_answer, lent}
use Rattle.stored.specs.Packing.{written}
use Rattle.stored.specs.Checked.{checked, followed}
use Rattle.stored.proofs.Accepted.{refused_done, accepted_sizes}
use Rattle.stored.proofs.CheckedLaws.{checking}
use Rattle.decoded.specs.declared.Plan.{Plan}
use Rattle.decoded.specs.Meant.{job_in as plan_job}
use Rattle.verdicts.specs.Running.{job_in, check_stages, check_answer, case_stages, one_case_answer, row_answer, stated_checked, stated_case_checked, GivesRow}
use Rattle.ready.specs.Readied.{Ready}

module _ (job : List ℕ) where
  -- what reading refuses is refused by each table that begins as reading's does
  refused_by : {m b l : ℕ} → read_answer job ≡ refused m b l → (next : Stated) → in_order refused (check_stages job) next ≡ refused m b l
  unfolding read_answer
  refused_by {m} {b} {l} e next = refused_still refused (check_stages job) (λ f. refused_done m b l (sym f)) e next

  -- the tables of one case and row, cut after reading
  case_cut : (x : ℕ) → one_case_answer job x ≡ in_order refused (check_stages job) (in_order refused (whole 11 (ltb x (2 ^ (header_sizes job).k)) ∷ []) (stated_case (case_answer (job_in job) x)))
  unfolding one_case_answer
  case_cut x = in_order_append refused (check_stages job) _ _

  row_cut : (x t room : ℕ) → row_answer job x t room
      ≡ in_order refused (check_stages job) (in_order refused (whole 11 (ltb x (2 ^ (header_sizes job).k)) ∷ [])
      (in_order refused (whole 12 (leb t 255) ∷ whole 13 (leb (header_sizes job).n room) ∷ whole 14 (each (row_clear (job_in job) x) (suc t)) ∷ []) (written (header_sizes job).n)))
  unfolding row_answer
  row_cut x t room = in_order_append refused (case_stages job x) _ _ ∙ in_order_append refused (check_stages job) _ _

  -- a refusal leaves the output as it was
  pub row_kept : (x t : ℕ) (out : List ℕ) (y : Refusal) → row_answer job x t (length out) ≡ refused y.number y.block y.«record» → GivesRow job x t out out (Err y)
  unfolding lent
  row_kept x t out y e = record { answer = sym e; out_is = rw e }

  module _ {y : Refusal} (reads : read_answer job ≡ refused y.number y.block y.«record») where
    pub check_refused : stated_checked (Err y) ≡ check_answer job
    unfolding check_answer
    check_refused = sym (refused_by reads _)

    pub case_refused : (x : ℕ) → stated_case_checked (Err y) ≡ one_case_answer job x
    case_refused x = sym (case_cut x ∙ refused_by reads _)

    pub row_refused : (x t : ℕ) (out : List ℕ) → GivesRow job x t out out (Err y)
    row_refused x t out = row_kept x t out y (row_cut x t (length out) ∙ refused_by reads _)

-- a test that refuses, and one that is passed
module _ {r : Result Unit Refusal} (next : Stated) where
  pub failed : {y : Refusal} → r ≡ Err y → followed r next ≡ refused y.number y.block y.«record»
  failed e = ap (λ q. followed q next) e

  pub passed : {u : Unit {0}} → r ≡ Ok u → followed r next ≡ next
  passed e = ap (λ q. followed q next) e

-- the same of a test of the whole, by what it asks
module _ (number : ℕ) {t : Bool} (next : Stated) where
  pub whole_failed : t ≡ false → followed (checked (whole number t)) next ≡ refused number 0 0
  unfolding checked unless_at first_bad
  whole_failed e = rw e

  pub whole_passed : t ≡ true → followed (checked (whole number t)) next ≡ next
  unfolding checked unless_at first_bad
  whole_passed e = rw e

-- a row has a number for each node
pub row_length : (j : Job) (x t n : ℕ) → length (row_numbers j x t n) ≡ n
unfolding row_numbers
row_length j x t zero = refl
row_length j x t (suc n) = length-append (row_numbers j x t n) _ ∙ omega (arith, row_length j x t n)

-- a job that reading accepts
module _ (job : List ℕ) (p : Plan) (ready : Ready job p) where
  size_is : p.size ≡ header_sizes job
  size_is = accepted_sizes job p.size ready.read

  passed_by : (next : Stated) → in_order refused (check_stages job) next ≡ next
  unfolding read_answer
  passed_by next = passed_on refused (check_stages job) (λ m b l. refused_done m b l) (ready.read ∙ ap accepted_as size_is) next

  pub check_given : {a : JobAnswer} → a ≡ job_answer (plan_job p) → stated_checked (Ok a) ≡ check_answer job
  unfolding check_answer
  check_given e = ap stated_job (e ∙ ap job_answer ready.means) ∙ sym (passed_by _)

  -- the test of one case, and then its answer
  pub case_table : (x : ℕ) {r : Result Unit Refusal} → r ≡ checked (whole 11 (ltb x (2 ^ p.size.k))) → one_case_answer job x ≡ followed r (stated_case (case_answer (plan_job p) x))
  case_table x {r} e =
      let w = stated_case (case_answer (job_in job) x) in
      let first : in_order refused (whole 11 (ltb x (2 ^ (header_sizes job).k)) ∷ []) w ≡ followed (checked (whole 11 (ltb x (2 ^ (header_sizes job).k)))) w = simp checking in
      case_cut job x ∙ passed_by _ ∙ first
      ∙ ap (λ z. followed (checked (whole 11 (ltb x (2 ^ z.k)))) w) (sym size_is)
      ∙ ap (λ j. followed (checked (whole 11 (ltb x (2 ^ p.size.k)))) (stated_case (case_answer j x))) (sym ready.means)
      ∙ ap (λ q. followed q (stated_case (case_answer (plan_job p) x))) (sym e)

  -- the four tests of a row, and then the bytes written
  module _ (x t : ℕ) (out : List ℕ) where
    abbrev tests : Size → Job → Stated
    tests z j =
        followed (checked (whole 11 (ltb x (2 ^ z.k)))) (followed (checked (whole 12 (leb t 255)))
        (followed (checked (whole 13 (leb z.n (length out)))) (followed (checked (whole 14 (each (row_clear j x) (suc t)))) (written z.n))))

    listed : (z : Size) (j : Job)
        → in_order refused (whole 11 (ltb x (2 ^ z.k)) ∷ []) (in_order refused (whole 12 (leb t 255) ∷ whole 13 (leb z.n (length out)) ∷ whole 14 (each (row_clear j x) (suc t)) ∷ []) (written z.n)) ≡ tests z j
    listed z j = simp checking

    abbrev clear : Bool
    clear = each (row_clear (plan_job p) x) (suc t)

    pub row_table : {r₁ r₂ r₃ : Result Unit Refusal} → r₁ ≡ checked (whole 11 (ltb x (2 ^ p.size.k))) → r₂ ≡ checked (whole 12 (leb t 255)) → r₃ ≡ checked (whole 13 (leb p.size.n (length out)))
        → row_answer job x t (length out) ≡ followed r₁ (followed r₂ (followed r₃ (followed (checked (whole 14 clear)) (written p.size.n))))
    row_table {r₁} {r₂} {r₃} a b c =
        let last : tests p.size (plan_job p) ≡ followed r₁ (followed r₂ (followed r₃ (followed (checked (whole 14 clear)) (written p.size.n)))) = rw (a, b, c) in
        row_cut job x t (length out) ∙ passed_by _ ∙ listed (header_sizes job) (job_in job)
        ∙ ap (λ z. tests z (job_in job)) (sym size_is) ∙ ap (tests p.size) (sym ready.means) ∙ last

    pub row_given : {out' : List ℕ} → row_answer job x t (length out) ≡ written p.size.n → out' ≡ row_numbers (plan_job p) x t p.size.n ++ drop p.size.n out → GivesRow job x t out out' (Ok p.size.n)
    unfolding lent
    row_given e is = record { answer = sym e; out_is = is ∙ rw (e, ← size_is, ← ready.means, row_length (plan_job p) x t p.size.n) }
