-- Bytes that spell items are read item by item.
-- Assumes nothing.
use mathlib.Core.Path.{◌≡◌, sym, ◌∙◌, ap}
use mathlib.Core.Bool.{Bool, true, false, ◌&&◌, and-true, true≢false}
use mathlib.Core.List.{List, [], ◌∷◌, ◌++◌}
use mathlib.Core.Option.{some, none}
use native.Mathlib.Decide.{dec_lt}
use native.Mathlib.Omega.{arith}
use Prim.Native.Nat.{ℕ, zero, suc, ◌+◌, ◌-◌, ◌*◌, ◌/◌, ◌%◌, ◌≤◌, ◌<◌}
use lib.ListN.{length, length-append}
use Rattle.texts.specs.Decimals.{digit, decimal}
use Rattle.texts.proofs.DecimalLaws.{decimal_small, decimal_more}
use Rattle.grammar.specs.Items.{Keyword, GIVEN, EXPECT, WHEN, IS, AT, Mark, Item, word, variable, number, mark, letters, mark_byte, spelled, wordlike}
use Rattle.grammar.specs.Spelling.{Spells, end, gap, item}
use Rattle.grammar.specs.Points.{Point, step, finished}
use Rattle.grammar.specs.Bytewise.{ready, digits, at, is_digit, fed_ready, fed_digits, fed, or_stops, run}
use Rattle.grammar.proofs.Steps.{steps}
use Rattle.grammar.proofs.Options.{both_steps}
use Rattle.grammar.proofs.StepLaws.{variable_below, number_smaller}
use Rattle.grammar.proofs.Reached.{Sound, step_sound}
use Rattle.grammar.proofs.Numbers.{number_open}
use Rattle.grammar.proofs.After.{after, run_after, after_after}
use Rattle.grammar.proofs.Bytes.{apart, no_digit, gap_no_digit}
use Rattle.grammar.proofs.Fed.{fed_mark, fed_word, fed_variable, fed_digit, fed_more}

module _ (k n : ℕ) (p q : Point) where
  mark_read : (touching : Bool) (m : Mark) → step k n p (mark m) ≡ some q → after k n (at (ready touching) p) (mark_byte m ∷ []) ≡ some (at (ready false) q)
  unfolding after fed
  mark_read touching m e = rw (fed_mark k n p touching m, e)

  pub word_read : (w : Keyword) → step k n p (word w) ≡ some q → after k n (at (ready false) p) (letters w) ≡ some (at (ready true) q)
  unfolding after fed letters
  word_read GIVEN e = rw (fed_word k n p GIVEN e)
  word_read EXPECT e = rw (fed_word k n p EXPECT e)
  word_read WHEN e = rw (fed_word k n p WHEN e)
  word_read IS e = rw (fed_word k n p IS e)
  word_read AT e = rw (fed_word k n p AT e)

  variable_read : (i : ℕ) → i < 26 → step k n p (variable i) ≡ some q → after k n (at (ready false) p) ((97 + i) ∷ []) ≡ some (at (ready true) q)
  unfolding after fed
  variable_read i h e =
      let z : 97 + i - 97 ≡ i = omega arith in
      let f : step k n p (variable (97 + i - 97)) ≡ some q = rw z e in
      rw (fed_variable k n p (97 + i) (omega arith) (omega arith) f)

abbrev Digits : ℕ → ℕ → Point → ℕ → Type 0
Digits k n p x = after k n (at (ready false) p) (decimal x) ≡ some (at (digits x) p)

number_read : (k n : ℕ) (p : Point) (m x : ℕ) {q : Point} → x < m → step k n p (number x) ≡ some q → Digits k n p x
unfolding after fed
number_read k n p zero x h e = absurd (omega arith)
number_read k n p (suc m) x h e =
    let (r, f) = number_smaller k n p x (x / 10) (omega arith) e in
    go (dec_lt x 10) (λ l. number_read k n p m (x / 10) l f)
  where
    go : Dec (x < 10) → (x / 10 < m → Digits k n p (x / 10)) → Digits k n p x
    go (yes l) ih =
        let z : 48 + x - 48 ≡ x = omega arith in
        rw (decimal_small x l, fed_digit k n p (48 + x) (omega arith) (omega arith), z, e)
    go (no l) ih =
        let z : 10 * (x / 10) + (48 + x % 10 - 48) ≡ x = omega arith in
        rw (decimal_more x (omega arith), after_after k n (at (ready false) p) (decimal (x / 10)) (digit (x % 10) ∷ []) (ih (omega arith)))
        (rw (fed_more k n p (48 + x % 10) (omega arith) (omega arith) (x / 10) (omega arith), z, e))

abbrev pub NoDigit : List ℕ → Type 0
NoDigit [] = Unit {0}
NoDigit (b ∷ s) = is_digit b ≡ false

-- after a wordlike item no digit follows
next_no_digit : {is : List Item} {s : List ℕ} → Spells true is s → NoDigit s
unfolding spelled
next_no_digit end = tt
next_no_digit (gap {b = b} g r) = gap_no_digit b g
next_no_digit (item {i = word w} h r) = absurd (true≢false h)
next_no_digit (item {i = variable x} h r) = absurd (true≢false h)
next_no_digit (item {i = number x} h r) = absurd (true≢false h)
next_no_digit (item {i = mark m} h r) = no_digit (mark_byte m) (apart m).1

pub number_passed : (k n i x : ℕ) (p q : Point) (s : List ℕ) → NoDigit s → step k n p (number x) ≡ some q → finished q ≡ none
    → run k n i (at (digits x) p) s ≡ run k n i (at (ready true) q) s
unfolding run fed fed_digits
number_passed k n i x p q [] d e f = rw f
number_passed k n i x p q (b ∷ s) d e f = rw (d, e)

untouched : (b : Bool) → b && true ≡ false → b ≡ false
untouched b h = sym (and-true b) ∙ h

module _ (k n : ℕ) (few : k ≤ 26) where
  item_runs : (i : ℕ) (touching : Bool) (p q : Point) (a : Item) {said is : List Item} {s : List ℕ} → Sound k n p said → touching && wordlike a ≡ false → Spells (wordlike a) is s
      → step k n p a ≡ some q → run k n i (at (ready touching) p) (spelled a ++ s) ≡ run k n (i + length (spelled a)) (at (ready (wordlike a)) q) s
  unfolding spelled
  item_runs i touching p q (word w) {s = s} o h r e = rw (untouched touching h) (run_after k n i (at (ready false) p) (letters w) s (word_read k n p q w e))
  item_runs i touching p q (variable x) {s = s} o h r e =
      let l = variable_below k n p x e in
      rw (untouched touching h) (run_after k n i (at (ready false) p) ((97 + x) ∷ []) s (variable_read k n p q x (omega arith) e))
  item_runs i touching p q (number x) {said} {s = s} o h r e =
      rw (untouched touching h)
      (run_after k n i (at (ready false) p) (decimal x) s (number_read k n p (suc x) x (omega arith) e)
      ∙ number_passed k n (i + length (decimal x)) x p q s (next_no_digit r) e (number_open k n p said o x e))
  item_runs i touching p q (mark m) {s = s} o h r e = run_after k n i (at (ready touching) p) (mark_byte m ∷ []) s (mark_read k n p q touching m e)

  pub spelled_runs : (i : ℕ) {touching : Bool} {said is : List Item} {s : List ℕ} (p q : Point) → Sound k n p said → Spells touching is s → steps k n p is ≡ some q
      → run k n i (at (ready touching) p) s ≡ or_stops (i + length s) (finished q)
  unfolding run steps fed fed_ready
  spelled_runs i p q o end e =
      let z : i + 0 ≡ i = omega arith in
      let d : p ≡ q = cc in
      rw (z, d)
  spelled_runs i p q o (gap {s = s} g r) e =
      let z : suc i + length s ≡ i + suc (length s) = omega arith in
      rw g (spelled_runs (suc i) p q o r e ∙ ap (λ j. or_stops j (finished q)) z)
  spelled_runs i {said = said} p q o (item {touching = touching} {i = a} {items = is} {s = s} h r) e =
      let (m, d, f) = both_steps (step k n p a) (λ m. steps k n m is) e in
      let z : i + length (spelled a) + length s ≡ i + length (spelled a ++ s) = omega (arith, length-append (spelled a) s) in
      item_runs i touching p m a o h r d ∙ spelled_runs (i + length (spelled a)) m q (step_sound k n p said a o d).sound r f ∙ ap (λ j. or_stops j (finished q)) z
