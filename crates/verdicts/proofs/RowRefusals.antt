-- What row refuses and gives, said without tests: what one case refuses, and 12 to 14, each where nothing before it is refused.
-- Assumes nothing.
use borrow.Author.Tests.{leb-false, lt-leb}
use mathlib.Core.Path.{◌≡◌, refl, sym, ap}
use mathlib.Core.Logic.{◌⊎◌, inl, inr, ⊎_elim, ◌↔◌}
use mathlib.Core.List.{List, [], ◌∷◌}
use Prim.Native.Nat.{ℕ, suc, ◌≤◌, ◌<◌}
use lib.Dec.{leb}
use Rattle.scans.specs.First.{each}
use Rattle.scans.specs.Refusals.{Stage, whole, in_order}
use Rattle.scans.proofs.Bools.{le_says}
use Rattle.scans.proofs.Exactly.{answer_is}
use Rattle.meaning.specs.Stated.{Stated}
use Rattle.meaning.specs.Rows.{row_clear}
use Rattle.meaning.proofs.Weakest.{FreeTo}
use Rattle.stored.specs.Layout.{header_sizes}
use Rattle.stored.specs.Reading.{refused}
use Rattle.stored.specs.Packing.{written}
use Rattle.stored.proofs.Accepted.{refused_done}
use Rattle.verdicts.specs.Running.{job_in, case_stages, one_case_answer, row_stages, row_answer}
use Rattle.verdicts.specs.Said.{InCase, CollidesBy, RowRefused, EARLIER, TIME, ROOM, EMPTY}
use Rattle.verdicts.proofs.Clear.{clear_iff, collides_iff}
use Rattle.verdicts.proofs.Tables.{either_part, both_parts, test_or_rest}
use Rattle.verdicts.proofs.Refusals.{placed, case_is, case_apart, case_refused, case_gives}

-- nothing of this: the row is there to be given
pub record RowIs (s : List ℕ) (x t room : ℕ) : Type 0 where
  pub in_case : InCase s x
  pub in_time : t ≤ 255
  pub fits : (header_sizes s).n ≤ room
  pub free : FreeTo (job_in s) x t

module _ (s : List ℕ) (x t room : ℕ) where
  -- the tests after those of one case, and what each gives
  abbrev row_is : Stated
  row_is = written (header_sizes s).n

  abbrev from14 : List Stage
  from14 = whole 14 (each (row_clear (job_in s) x) (suc t)) ∷ []

  abbrev from13 : List Stage
  from13 = whole 13 (leb (header_sizes s).n room) ∷ from14

  abbrev from12 : List Stage
  from12 = whole 12 (leb t 255) ∷ from13

  test_14 : (r : Stated) → (in_order refused from14 row_is ≡ r) ↔ ((CollidesBy (job_in s) x t × (refused 14 0 0 ≡ r)) ⊎ (FreeTo (job_in s) x t × (row_is ≡ r)))
  unfolding in_order
  test_14 = test_or_rest refused 14 _ (clear_iff (job_in s) x t) (collides_iff (job_in s) x t) [] row_is

  test_13 : (r : Stated) → (in_order refused from13 row_is ≡ r) ↔ (((room < (header_sizes s).n) × (refused 13 0 0 ≡ r)) ⊎ (((header_sizes s).n ≤ room) × (in_order refused from14 row_is ≡ r)))
  test_13 = test_or_rest refused 13 _ (le_says _ _) (leb-false _ _, lt-leb _ _) from14 row_is

  test_12 : (r : Stated) → (in_order refused from12 row_is ≡ r) ↔ (((255 < t) × (refused 12 0 0 ≡ r)) ⊎ ((t ≤ 255) × (in_order refused from13 row_is ≡ r)))
  test_12 = test_or_rest refused 12 _ (le_says _ _) (leb-false _ _, lt-leb _ _) from13 row_is

  row_parts : (n b l : ℕ) → (row_answer s x t room ≡ refused n b l) ↔ ((one_case_answer s x ≡ refused n b l) ⊎ ((one_case_answer s x ≡ case_is s x) × (in_order refused from12 row_is ≡ refused n b l)))
  unfolding row_answer one_case_answer
  row_parts n b l = either_part refused (case_stages s x) from12 row_is (case_apart s x) (λ f. case_apart s x n b l (sym f))

  row_there : (n b l : ℕ) → InCase s x → in_order refused from12 row_is ≡ refused n b l → RowRefused s x t room n b l
  row_there n b l c e = ⊎_elim (λ f. placed (RowRefused s x t room) f.1 (TIME c f.0)) (λ f. at_13 f.0 ((test_13 _).0 f.1)) ((test_12 _).0 e)
    where
      at_14 : t ≤ 255 → (header_sizes s).n ≤ room → (CollidesBy (job_in s) x t × (refused 14 0 0 ≡ refused n b l)) ⊎ (FreeTo (job_in s) x t × (row_is ≡ refused n b l)) → RowRefused s x t room n b l
      at_14 h k = ⊎_elim (λ f. placed (RowRefused s x t room) f.1 (EMPTY c h k f.0)) (λ f. absurd (refused_done n b l (sym f.1)))

      at_13 : t ≤ 255 → ((room < (header_sizes s).n) × (refused 13 0 0 ≡ refused n b l)) ⊎ (((header_sizes s).n ≤ room) × (in_order refused from14 row_is ≡ refused n b l)) → RowRefused s x t room n b l
      at_13 h = ⊎_elim (λ f. placed (RowRefused s x t room) f.1 (ROOM c h f.0)) (λ f. at_14 h f.0 ((test_14 _).0 f.1))

  row_back : {n b l : ℕ} → RowRefused s x t room n b l → row_answer s x t room ≡ refused n b l
  row_back (EARLIER c) = (row_parts _ _ _).1 (inl ((case_refused s x _ _ _).1 c))
  row_back (TIME c h) = (row_parts 12 0 0).1 (inr ((case_gives s x).1 c, (test_12 _).1 (inl (h, refl))))
  row_back (ROOM c h k) = (row_parts 13 0 0).1 (inr ((case_gives s x).1 c, (test_12 _).1 (inr (h, (test_13 _).1 (inl (k, refl))))))
  row_back (EMPTY c h k m) = (row_parts 14 0 0).1 (inr ((case_gives s x).1 c, (test_12 _).1 (inr (h, (test_13 _).1 (inr (k, (test_14 _).1 (inl (m, refl))))))))

  pub row_refused : (n b l : ℕ) → (row_answer s x t room ≡ refused n b l) ↔ RowRefused s x t room n b l
  row_refused n b l = (λ e. ⊎_elim (λ f. EARLIER ((case_refused s x n b l).0 f)) (λ f. row_there n b l ((case_gives s x).0 f.0) f.1) ((row_parts n b l).0 e), row_back)

  -- it gives n bytes exactly where nothing is refused
  pub row_gives : (row_answer s x t room ≡ written (header_sizes s).n) ↔ RowIs s x t room
  unfolding row_answer one_case_answer
  row_gives = (λ e. there (parts.0 e), λ r. parts.1 ((case_gives s x).1 r.in_case, (test_12 _).1 (inr (r.in_time, (test_13 _).1 (inr (r.fits, (test_14 _).1 (inr (r.free, refl))))))))
    where
      parts : (row_answer s x t room ≡ row_is) ↔ ((one_case_answer s x ≡ case_is s x) × (in_order refused from12 row_is ≡ row_is))
      parts = both_parts refused (case_stages s x) from12 row_is (case_apart s x) refused_done

      passed : {P Q R : Type 0} {m : ℕ} → (Q × (refused m 0 0 ≡ row_is)) ⊎ (P × R) → P × R
      passed (inl f) = absurd (refused_done _ _ _ f.1)
      passed (inr f) = f

      there : (one_case_answer s x ≡ case_is s x) × (in_order refused from12 row_is ≡ row_is) → RowIs s x t room
      there (c, e) =
          let p = passed ((test_12 _).0 e) in
          let q = passed ((test_13 _).0 p.1) in
          let f = passed ((test_14 _).0 q.1) in
          record { in_case = (case_gives s x).0 c; in_time = p.0; fits = q.0; free = f.0 }

  -- and no other number of bytes
  pub row_bytes_lem : (bytes : ℕ) → row_answer s x t room ≡ written bytes → bytes ≡ (header_sizes s).n
  unfolding row_answer
  row_bytes_lem bytes e = let ns = ap (λ a. a.numbers) (answer_is refused (row_stages s x t room) refused_done e) in cc
