-- What the operations answer for records that keep every rule, as they are stored: what their job is answered.
-- Assumes nothing.
use mathlib.Core.Path.{◌≡◌, sym, ◌∙◌, ap, subst}
use native.Mathlib.Omega.{arith}
use Prim.Native.Nat.{ℕ, ◌^◌, ◌≤◌, ◌<◌}
use Rattle.meaning.specs.Stated.{stated_case, stated_job}
use Rattle.meaning.specs.Cases.{case_answer}
use Rattle.meaning.specs.Answers.{job_answer}
use Rattle.meaning.proofs.Weakest.{FreeTo}
use Rattle.stored.specs.Layout.{Records, sizes_of, stored, header_sizes}
use Rattle.stored.specs.Packing.{written, Keeps, ByteLists}
use Rattle.stored.specs.Decoding.{job_of}
use Rattle.stored.proofs.Stored.{Sized, stored_sizes, reads_back, stored_accepted}
use Rattle.verdicts.specs.Running.{job_in, check_answer, one_case_answer, row_answer}
use Rattle.verdicts.specs.Said.{Accepted, InCase}
use Rattle.verdicts.proofs.Refusals.{accepted_some, check_gives, case_gives}
use Rattle.verdicts.proofs.RowRefusals.{row_gives}

module _ (r : Records) (keeps : Keeps r) (bytes : ByteLists r) where
  sized : Sized r
  sized = record { lists = keeps.lists; limits = keeps.limits; bytes = bytes }

  packed_accepted : Accepted (stored r)
  packed_accepted = (accepted_some (stored r)).0 (sizes_of r, stored_accepted r keeps bytes)

  pub packed_job : job_in (stored r) ≡ job_of r
  packed_job = ap job_of (reads_back r sized)

  pub packed_check : check_answer (stored r) ≡ stated_job (job_answer (job_of r))
  packed_check = (check_gives (stored r)).1 packed_accepted ∙ ap (λ j. stated_job (job_answer j)) packed_job

  in_case : (x : ℕ) → x < 2 ^ r.k → InCase (stored r) x
  in_case x h = record { accepted = packed_accepted; below = subst (λ z. x < 2 ^ z.k) (sym (stored_sizes r sized)) h }

  pub packed_case : (x : ℕ) → x < 2 ^ r.k → one_case_answer (stored r) x ≡ stated_case (case_answer (job_of r) x)
  packed_case x h = (case_gives (stored r) x).1 (in_case x h) ∙ ap (λ j. stated_case (case_answer j x)) packed_job

  pub packed_row : (x t room : ℕ) → x < 2 ^ r.k → t ≤ 255 → (sizes_of r).n ≤ room → FreeTo (job_of r) x t → row_answer (stored r) x t room ≡ written (sizes_of r).n
  packed_row x t room h l k f =
      let n : (header_sizes (stored r)).n ≡ (sizes_of r).n = ap (λ z. z.n) (stored_sizes r sized) in
      (row_gives (stored r) x t room).1 (record { in_case = in_case x h; in_time = l; fits = omega arith; free = subst (λ j. FreeTo j x t) (sym packed_job) f }) ∙ ap written n
