-- Bytes that pass a test, counted from a place on: gaps, and digits.
-- Assumes nothing.
use mathlib.Core.Path.{◌≡◌, ◌∙◌}
use mathlib.Core.Bool.{Bool}
use mathlib.Core.List.{List}
use native.Mathlib.Omega.{arith}
use Prim.Native.Nat.{ℕ, ◌+◌, ◌-◌, ◌≤◌, ◌<◌}
use lib.ListN.{length, drop, take}
use lib.Seq.{take_all}
use Rattle.std.specs.List.{take_while, prefix_len}
use Rattle.std.proofs.lemmas.List.{get_or-drop, length-drop}
use Rattle.std.proofs.lemmas.List.Folds.{length-prefix_len}
use Rattle.std.proofs.lemmas.List.Sums.{prefix_len-le-length, prefix_len_passes, prefix_len_stops}
use Rattle.scans.proofs.Bools.{says}
use Rattle.stored.specs.Bytes.{byte_at}
use Rattle.grammar.specs.Bytewise.{is_digit}
use Rattle.phrases.specs.Places.{Passes}

-- n is how many pass in what `&text[at..]` holds
module _ (p : ℕ → Bool) (text : List ℕ) (at : ℕ) {n : ℕ} (h : at ≤ length text) (e : n ≡ length (take_while p (take (length text - at) (drop at text)))) where
  pub passes : Passes p text at (at + n)
  passes =
      let whole : take (length text - at) (drop at text) ≡ drop at text = take_all (length text - at) (drop at text) (simp length-drop (omega arith)) in
      let here : n ≡ prefix_len p (drop at text) = rw whole at (e ∙ length-prefix_len p (take (length text - at) (drop at text))) in
      let few : n ≤ length text - at = rw (here, ← length-drop at text) (prefix_len-le-length p (drop at text)) in
      record {
        forward = omega arith;
        inside = omega arith;
        each = λ i l m. let same : at + (i - at) ≡ i = omega arith in rw same at (rw get_or-drop at (prefix_len_passes p (drop at text) (i - at) 0 (omega arith)));
        ends = λ m. rw (here, ← get_or-drop at text _ 0) (prefix_len_stops p (drop at text) 0 (simp length-drop (omega arith)));
      }

pub record Digit (text : List ℕ) (i : ℕ) : Type 0 where
  pub inside : i < length text
  pub low : 48 ≤ byte_at text i
  pub high : byte_at text i < 58

pub digit_in : {text : List ℕ} {at q : ℕ} → Passes is_digit text at q → (i : ℕ) → at ≤ i → i < q → Digit text i
digit_in p i l m = let x = simp says at (p.each i l m) in record { inside = omega (arith, p.inside); low = x.0; high = x.1 }
