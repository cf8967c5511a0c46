-- One changed byte of an accepted job is always seen: the check of its block refuses it, whatever the byte.
-- Assumes nothing.
use Rattle.std.specs.Prelude.{Some}
use borrow.Author.Tests.{eqb-true, ne_eqb}
use mathlib.Core.Path.{◌≡◌, refl, sym, ◌∙◌, ap}
use mathlib.Core.Logic.{◌≢◌}
use mathlib.Core.Bool.{true, false}
use mathlib.Core.List.{List}
use native.Mathlib.Omega.{arith}
use Prim.Native.Nat.{ℕ, ◌+◌, ◌*◌, ◌/◌, ◌%◌, ◌<◌}
use lib.Dec.{eqb}
use lib.ListN.{length}
use Rattle.scans.specs.First.{first_bad}
use Rattle.scans.proofs.Search.{at_stopped}
use Rattle.scans.proofs.Order.{on_stopped, on_passed}
use Rattle.stored.specs.declared.Size.{Size}
use Rattle.stored.specs.Bytes.{byte_at, Bytes, word_sum}
use Rattle.stored.specs.Reading.{length_ok, sum_ok, refused, accepted_as, read_answer}
use Rattle.stored.proofs.Sums.{word_sum_same, changed_sum}
use Rattle.stored.proofs.Accepted.{accepted_passes, read_length}

-- t is s with another byte at j
pub record OneChanged (s t : List ℕ) (j : ℕ) : Type 0 where
  pub size : length t ≡ length s
  pub within : j < length s
  pub here : byte_at t j ≢ byte_at s j
  pub elsewhere : (i : ℕ) → i ≢ j → byte_at t i ≡ byte_at s i

module _ (s t : List ℕ) (j : ℕ) (changed : OneChanged s t j) where
  -- another block adds up to what it did
  other_sum : (b : ℕ) → b < j / 512 → sum_ok t b ≡ sum_ok s b
  unfolding sum_ok
  other_sum b h =
      ap (λ w. eqb (w % 4294967296) 4294967295)
      (word_sum_same (λ o. byte_at t (512 * b + o)) (λ o. byte_at s (512 * b + o)) 128 (λ o l. changed.elsewhere (512 * b + o) (λ e. omega arith)))

  -- the block of the changed byte does not
  this_sum : Bytes s → Bytes t → sum_ok s (j / 512) ≡ true → sum_ok t (j / 512) ≡ false
  unfolding sum_ok
  this_sum p q e =
      let b = j / 512 in
      let at : 512 * b + j % 512 ≡ j = omega arith in
      let differ : byte_at t (512 * b + j % 512) ≢ byte_at s (512 * b + j % 512) = rw at changed.here in
      let was : word_sum (λ o. byte_at s (512 * b + o)) 128 % 4294967296 ≡ 4294967295 = eqb-true _ _ e in
      ne_eqb _ _
      (λ still.
      changed_sum (λ o. byte_at t (512 * b + o)) (λ o. byte_at s (512 * b + o)) (λ o. q (512 * b + o)) (λ o. p (512 * b + o)) (j % 512) differ (omega arith)
      (λ o l d. changed.elsewhere (512 * b + o) (λ i. d (omega arith)))
      (still ∙ sym was))

  -- so the job is refused, by number 2 and at that block
  pub changed_refused : Bytes s → Bytes t → (z : Size) → read_answer s ≡ accepted_as z → read_answer t ≡ refused 2 (j / 512) 0
  unfolding read_answer
  changed_refused p q z e =
      let was = accepted_passes s z e in
      let long = read_length s was in
      let size = changed.size in
      let h = changed.within in
      let stops : first_bad (sum_ok t) (length t / 512) ≡ Some (j / 512) =
      at_stopped (sum_ok t) (length t / 512)
      (record {
        below = omega arith;
        fails = this_sum p q (was.sum (j / 512) (omega arith));
        before = λ b l. other_sum b l ∙ was.sum b (omega arith);
      }) in
      sym (on_passed refused _ _ 1 (sym (ap length_ok size ∙ was.length_ok_lem)) refl (on_stopped refused _ _ _ (sym stops) refl refl))
