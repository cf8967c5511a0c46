-- From the bits of all times to the answers for the cases.
-- Assumes nothing.
use Rattle.std.specs.Prelude.{Option, None, Some}
use Rattle.std.proofs.Common.{◌≡◌, refl, sym, ◌∙◌, ap, Bool, true, false, not, ◌&&◌, ℕ, suc, ◌+◌, ◌-◌, ◌*◌, ◌^◌, ◌<◌, bit_and}
use mathlib.Core.Bool.{and-true, and-false}
use Rattle.scans.specs.First.{each, first_place}
use Rattle.scans.proofs.Bools.{is_true, of_true, is_false, both_ways}
use Rattle.scans.proofs.Search.{each_e, each_i}
use Rattle.scans.proofs.Places.{nowhere_each, found_at}
use Rattle.meaning.specs.Values.{collides}
use Rattle.meaning.specs.Guards.{bit_of}
use Rattle.meaning.specs.Jobs.{Job, last_time}
use Rattle.meaning.specs.Rows.{cell, row_clear}
use Rattle.meaning.specs.Cases.{met_at, answer_at, first_collision, first_miss, answer_of, case_answer, is_empty, is_fails}
use Rattle.meaning.specs.Answers.{empty, failing}
use Rattle.words.proofs.Bits.{bit_and_lem, bit_not}
use Rattle.groups.specs.declared.times.Told.{Told}
use Rattle.groups.specs.Turns.{row_met, Ran, GroupTells}

abbrev is_nowhere : Option (ℕ × ℕ) → Bool
is_nowhere None = true
is_nowhere (Some (t, n)) = false

-- nothing fails anywhere exactly when every row is clean
nowhere_test : (f : ℕ → ℕ → Bool) (times nodes : ℕ) → is_nowhere (first_place f times nodes) ≡ each (λ t. each (f t) nodes) times
nowhere_test f times nodes = go (first_place f times nodes) refl
  where
    go : (p : Option (ℕ × ℕ)) → first_place f times nodes ≡ p → is_nowhere p ≡ each (λ t. each (f t) nodes) times
    go None e = sym (is_true _ (each_i _ times (λ t h. is_true _ (each_i (f t) nodes (λ n. nowhere_each f times nodes e t n h)))))
    go (Some (t, n)) e =
        let r = found_at f times nodes e in
        sym (is_false _ (λ all. both_ways (each_e (f t) nodes (of_true _ (each_e _ times all t r.in_time)) n r.in_row) r.fails))

module _ (j : Job) (x : ℕ) where
  -- a case is empty where some row is not clear; it fails where all are, and some expectation is missed
  empty_test : empty j x ≡ not (each (row_clear j x) (suc (last_time j)))
  unfolding case_answer answer_of row_clear
  empty_test = go (first_collision j (cell j x)) (first_miss j x (cell j x)) ∙ ap not (nowhere_test _ _ _)
    where
      go : (p q : Option (ℕ × ℕ)) → is_empty (answer_at j x (cell j x) p q) ≡ not (is_nowhere p)
      go None None = refl
      go None (Some (t, n)) = refl
      go (Some (t, n)) q = refl

  fails_test : failing j x ≡ each (row_clear j x) (suc (last_time j)) && not (each (row_met j x) (suc (last_time j)))
  unfolding case_answer answer_of row_clear
  fails_test = go (first_collision j (cell j x)) (first_miss j x (cell j x)) ∙ rw (nowhere_test (λ t n. not (collides (cell j x t n))) (suc (last_time j)) j.netlist.size, nowhere_test (λ t n. met_at j x t n (cell j x t n)) (suc (last_time j)) j.netlist.size)
    where
      go : (p q : Option (ℕ × ℕ)) → is_fails (answer_at j x (cell j x) p q) ≡ is_nowhere p && not (is_nowhere q)
      go None None = refl
      go None (Some (t, n)) = refl
      go (Some (t, n)) q = refl

-- a case fails where it has missed an expectation and has not collided
fails_bits : (clear met : Bool) {c m : Bool} → c ≡ not clear → (clear ≡ true → m ≡ not met) → m && not c ≡ clear && not met
fails_bits true met {m = m} e f = rw (e, f refl) (and-true (not met))
fails_bits false met {m = m} e f = rw e (and-false m)

pub group_tells : (j : Job) (g : ℕ) {r : Told} → Ran j g (suc (last_time j)) r → r.collided < 2 ^ 64 → GroupTells j g (record { empty = r.collided; failing = bit_and r.missed (2 ^ 64 - 1 - r.collided) })
group_tells j g {r} ran fits =
    record {
      empties = λ i l. ran.collided i l ∙ sym (empty_test j (64 * g + i));
      failings = λ i l.
          bit_and_lem r.missed (2 ^ 64 - 1 - r.collided) i
          ∙ ap (λ b. bit_of r.missed i && b) (bit_not r.collided i fits l)
          ∙ fails_bits (each (row_clear j (64 * g + i)) (suc (last_time j))) (each (row_met j (64 * g + i)) (suc (last_time j))) (ran.collided i l) (ran.missed i l)
          ∙ sym (fails_test j (64 * g + i));
    }
