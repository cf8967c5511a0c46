-- The test that row makes of a case: true where nothing collides up to the asked time, false where some node does.
-- Assumes nothing.
use borrow.Author.Tests.{not-false}
use mathlib.Core.Path.{◌≡◌}
use mathlib.Core.Logic.{◌↔◌}
use mathlib.Core.Bool.{true, false, not}
use native.Mathlib.Omega.{arith}
use Prim.Native.Nat.{ℕ, suc}
use Rattle.scans.specs.First.{each}
use Rattle.scans.proofs.Bools.{is_true, of_true, is_false}
use Rattle.scans.proofs.Search.{each_e, each_i, each_not}
use Rattle.meaning.specs.Values.{collides}
use Rattle.meaning.specs.Jobs.{Job}
use Rattle.meaning.specs.Rows.{cell, row_clear}
use Rattle.meaning.proofs.Values.{free_not}
use Rattle.meaning.proofs.Weakest.{FreeTo}
use Rattle.verdicts.specs.Said.{CollidesBy}

module _ (j : Job) (x t : ℕ) where
  pub clear_iff : (each (row_clear j x) (suc t) ≡ true) ↔ FreeTo j x t
  unfolding row_clear
  clear_iff = (
    (λ e t' n l h. of_true _ (each_e (λ n. not (collides (cell j x t' n))) _ (of_true _ (each_e (row_clear j x) (suc t) (of_true _ e) t' (omega arith))) n h)),
    (λ f. is_true _ (each_i (row_clear j x) (suc t) (λ t' l. is_true _ (each_i _ _ (λ n h. is_true _ (f t' n (omega arith) h)))))),
  )

  pub collides_iff : (each (row_clear j x) (suc t) ≡ false) ↔ CollidesBy j x t
  unfolding row_clear
  collides_iff = (there, λ c. is_false _ (λ u. free_not (cell j x c.time c.node) (clear_iff.0 (is_true _ u) c.time c.node c.in_time c.in_row) c.here))
    where
      there : each (row_clear j x) (suc t) ≡ false → CollidesBy j x t
      there e =
          let row = each_not (row_clear j x) (suc t) e in
          let at = each_not (λ n. not (collides (cell j x row.0 n))) j.netlist.size row.1.fails in
          let l = row.1.below in
          record { time = row.0; node = at.0; in_time = omega arith; in_row = at.1.below; here = of_true _ (not-false (collides (cell j x row.0 at.0)) at.1.fails) }
