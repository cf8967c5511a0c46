-- Where nothing goes on reading stops, between items and within a word.
-- Assumes nothing.
use borrow.Author.Tests.{eq-eqb, ne_eqb, leb-true}
use mathlib.Core.Path.{◌≡◌, refl, sym, ◌∙◌, ap}
use mathlib.Core.Bool.{Bool, true, false, cond}
use mathlib.Core.List.{List, [], ◌∷◌}
use mathlib.Core.Option.{Option, some, none}
use native.Mathlib.Decide.{dec_lt}
use native.Mathlib.Omega.{arith}
use Prim.Native.Nat.{ℕ, zero, suc, ◌+◌, ◌-◌, ◌≤◌, ◌<◌}
use lib.Dec.{leb}
use lib.ListN.{length, drop_of_length-le}
use Rattle.scans.proofs.Bools.{says}
use Rattle.stored.specs.Bytes.{byte_at}
use Rattle.grammar.specs.Items.{Keyword, Mark, word, variable, number, mark, mark_byte, letters}
use Rattle.grammar.specs.Points.{Point, step, finished}
use Rattle.grammar.specs.Bytewise.{ready, spelling, digits, mark_of, word_of, tail, is_digit, fed_ready, fed_spelling, fed, onward, staying, or_else, marks, begun, begun_word, stops, run, reading}
use Rattle.phrases.specs.Places.{Stands, NoGap}
use Rattle.grammar.proofs.Options.{Each}
use Rattle.grammar.proofs.Bytes.{mark_byte_lem, word_byte}
use Rattle.phrases.proofs.Feeding.{run_byte, run_end}

module _ (k n : ℕ) (text : List ℕ) (p : Point) (i : ℕ) (open-yet : length text ≤ i → finished p ≡ none) (clean : NoGap text i)
    (no_mark : (m : Mark) → Stands text i (mark_byte m) → step k n p (mark m) ≡ none) where
  marked_so : i < length text → (o rest : Option _) → Each (λ m. mark_byte m ≡ byte_at text i) o → rest ≡ none → marks k n p o rest ≡ none
  marked_so h none rest e f = f
  marked_so h (some m) rest e f = rw (no_mark m (record { inside = h; is = sym e }))

  ready_stops : (touching : Bool) → (i < length text → cond touching none (begun k n p (byte_at text i)) ≡ none) → reading k n text i (ready touching) p ≡ stops i
  unfolding fed fed_ready
  ready_stops touching f = go (dec_lt i (length text))
    where
      go : Dec (i < length text) → reading k n text i (ready touching) p ≡ stops i
      go (yes h) = run_byte k n text i (ready touching) p h ∙ rw (clean h, marked_so h (mark_of (byte_at text i)) (cond touching none (begun k n p (byte_at text i))) (mark_byte_lem (byte_at text i)) (f h))
      go (no h) = run_end k n text i touching p (omega arith) ∙ rw (open-yet (omega arith))

  pub touching_stops : reading k n text i (ready true) p ≡ stops i
  touching_stops = ready_stops true (λ _. refl)

  module _ (no_number : (d : ℕ) → d < 10 → Stands text i (48 + d) → step k n p (number d) ≡ none) (no_variable : (v : ℕ) → Stands text i (97 + v) → step k n p (variable v) ≡ none)
      (no_word : (w : Keyword) → Stands text i (byte_at (letters w) 0) → step k n p (word w) ≡ none) where
    worded_so : i < length text → (o : Option Keyword) → Each (λ w. letters w ≡ byte_at text i ∷ tail (letters w)) o → begun_word k n p o ≡ none
    worded_so h none e = refl
    worded_so h (some w) e = rw (no_word w (record { inside = h; is = sym (ap (λ l. byte_at l 0) e) }))

    numbered_so : i < length text → is_digit (byte_at text i) ≡ true → step k n p (number (byte_at text i - 48)) ≡ none
    numbered_so h e = let x = simp says at e in no_number (byte_at text i - 48) (omega (arith, x.0, x.1)) (record { inside = h; is = omega (arith, x.0) })

    begun_so : i < length text → (d l : Bool) → is_digit (byte_at text i) ≡ d → leb 97 (byte_at text i) ≡ l
        → cond d (staying (digits (byte_at text i - 48)) p (step k n p (number (byte_at text i - 48)))) (cond l (or_else (onward (ready true) (step k n p (variable (byte_at text i - 97)))) (begun_word k n p (word_of (byte_at text i)))) none) ≡ none
    begun_so h true l e f = rw (numbered_so h e)
    begun_so h false true e f =
        let low = leb-true 97 (byte_at text i) f in
        rw (no_variable (byte_at text i - 97) (record { inside = h; is = omega arith }), worded_so h (word_of (byte_at text i)) (word_byte (byte_at text i)))
    begun_so h false false e f = refl

    pub nothing_goes : reading k n text i (ready false) p ≡ stops i
    unfolding begun
    nothing_goes = ready_stops false (λ h. begun_so h (is_digit (byte_at text i)) (leb 97 (byte_at text i)) refl refl)

-- within a word
module _ (k n : ℕ) (text : List ℕ) (p : Point) where
  -- another letter, or the end
  fed_other : (c b : ℕ) (s : List ℕ) → ¬ (b ≡ c) → fed_spelling p (c ∷ s) b ≡ none
  fed_other c b [] h = rw (ne_eqb b c h)
  fed_other c b (d ∷ s) h = rw (ne_eqb b c h)

  other_letter : (c : ℕ) (s : List ℕ) (i : ℕ) → ¬ Stands text i c → reading k n text i (spelling (c ∷ s)) p ≡ stops i
  unfolding fed run
  other_letter c s i f = go (dec_lt i (length text))
    where
      go : Dec (i < length text) → reading k n text i (spelling (c ∷ s)) p ≡ stops i
      go (yes h) = run_byte k n text i (spelling (c ∷ s)) p h ∙ rw (fed_other c (byte_at text i) s (λ e. f (record { inside = h; is = e })))
      go (no h) = rw (drop_of_length-le text {i = i} (omega arith))

  pub spelling_stops : (s : List ℕ) (i m : ℕ) → m < length s → ((l : ℕ) → l < m → Stands text (i + l) (byte_at s l)) → ¬ Stands text (i + m) (byte_at s m) → reading k n text i (spelling s) p ≡ stops (i + m)
  unfolding fed
  spelling_stops [] i m h f not_here = absurd (omega arith)
  spelling_stops (c ∷ s) i zero h f not_here = let here : i + 0 ≡ i = omega arith in rw here (other_letter c s i (rw here at not_here))
  spelling_stops (c ∷ []) i (suc m) h f not_here = absurd (omega arith)
  spelling_stops (c ∷ d ∷ s) i (suc m) h f not_here =
      let here : i + 0 ≡ i = omega arith in
      let x = rw here at (f 0 (omega arith)) in
      let there : i + suc m ≡ i + 1 + m = omega arith in
      run_byte k n text i (spelling (c ∷ d ∷ s)) p x.inside ∙ rw (x.is, eq-eqb c c refl, there)
      (spelling_stops (d ∷ s) (i + 1) m (omega arith) (λ l y. let z : i + 1 + l ≡ i + suc l = omega arith in rw z (f (suc l) (omega arith))) (rw there at not_here))
