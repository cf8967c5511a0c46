-- A word where it may stand: read to its end, or up to the letter that is not its own.
-- Assumes nothing.
use mathlib.Core.Path.{◌≡◌, refl, ◌∙◌, ap}
use mathlib.Core.Bool.{true, false}
use mathlib.Core.List.{List, [], ◌∷◌, ◌++◌}
use mathlib.Core.Option.{some}
use native.Mathlib.Omega.{arith}
use Prim.Native.Nat.{ℕ, zero, suc, ◌+◌, ◌<◌}
use lib.ListN.{length, drop}
use lib.Seq.{drop-cons}
use Rattle.stored.specs.Bytes.{byte_at}
use Rattle.grammar.specs.Items.{Keyword, word, letters}
use Rattle.grammar.specs.Points.{Point, step}
use Rattle.grammar.specs.Bytewise.{ready, spelling, at, tail, fed, stops, run, reading}
use Rattle.phrases.specs.Places.{Stands, Broken, Spelt}
use Rattle.grammar.proofs.Fed.{fed_word}
use Rattle.grammar.proofs.After.{run_after}
use Rattle.grammar.proofs.SpelledRuns.{word_read}
use Rattle.phrases.proofs.Feeding.{run_byte}
use Rattle.phrases.proofs.Stopping.{spelling_stops}

-- the letters that stand are the text's bytes
letters_drop : (text w : List ℕ) (i : ℕ) → ((m : ℕ) → m < length w → Stands text (i + m) (byte_at w m)) → drop i text ≡ w ++ drop (i + length w) text
letters_drop text [] i f = let z : i ≡ i + 0 = omega arith in ap (λ j. drop j text) z
letters_drop text (c ∷ w) i f =
    let here : i + 0 ≡ i = omega arith in
    let s = rw here at (f 0 (omega arith)) in
    let there : suc i + length w ≡ i + suc (length w) = omega arith in
    drop-cons text i 0 s.inside
    ∙ ap (λ b. b ∷ drop (suc i) text) s.is
    ∙ ap (λ l. c ∷ l) (letters_drop text w (suc i) (λ m h. let z : suc i + m ≡ i + suc m = omega arith in rw z (f (suc m) (omega arith))) ∙ ap (λ j. w ++ drop j text) there)

tail_at : (w : List ℕ) (m : ℕ) → byte_at w (suc m) ≡ byte_at (tail w) m
tail_at [] m = refl
tail_at (c ∷ w) m = refl

tail_length : (w : List ℕ) (m : ℕ) → suc m < length w → m < length (tail w)
tail_length [] m h = absurd (omega arith)
tail_length (c ∷ w) m h = omega arith

module _ (k n : ℕ) (text : List ℕ) (p : Point) (w : Keyword) {q : Point} (e : step k n p (word w) ≡ some q) where
  pub word_goes : {i j : ℕ} → Spelt text i (letters w) j → reading k n text i (ready false) p ≡ reading k n text j (ready true) q
  word_goes {i} {j} s =
      rw s.q_is
      (ap (run k n i (at (ready false) p)) (letters_drop text (letters w) i s.all.each)
      ∙ run_after k n i (at (ready false) p) (letters w) (drop (i + length (letters w)) text) (word_read k n p q w e))

first_letter : (k n : ℕ) (text : List ℕ) (p : Point) (w : Keyword) {q : Point} {i : ℕ} → step k n p (word w) ≡ some q → Stands text i (byte_at (letters w) 0)
    → reading k n text i (ready false) p ≡ reading k n text (i + 1) (spelling (tail (letters w))) q
unfolding fed
first_letter k n text p w {i = i} e s = run_byte k n text i (ready false) p s.inside ∙ rw (s.is, fed_word k n p w e)

-- where its first letter does not stand, something else says that reading stops
pub word_stops : (k n : ℕ) (text : List ℕ) (p : Point) (w : Keyword) {q : Point} {i j : ℕ} → step k n p (word w) ≡ some q → (¬ Stands text i (byte_at (letters w) 0) → reading k n text i (ready false) p ≡ stops i)
    → Broken text i (letters w) j → reading k n text i (ready false) p ≡ stops j
word_stops k n text p w {q} {i} {j} e other b = go b.i refl
  where
    go : (m : ℕ) → b.i ≡ m → reading k n text i (ready false) p ≡ stops j
    go zero z =
        let j_is : j ≡ i = omega (arith, b.j_is) in
        let here : i + b.i ≡ i = omega arith in
        rw j_is (other (rw (here, z) at b.not_here))
    go (suc m) z =
        let first : i + 0 ≡ i = omega arith in
        let j_is : j ≡ i + 1 + m = omega (arith, b.j_is) in
        let there : i + b.i ≡ i + 1 + m = omega arith in
        let not_there : ¬ Stands text (i + 1 + m) (byte_at (tail (letters w)) m) = rw (tail_at (letters w) m) at (rw (there, z) at b.not_here) in
        rw j_is
        (first_letter k n text p w e (rw first at (b.before.each 0 (omega arith)))
        ∙ spelling_stops k n text q (tail (letters w)) (i + 1) m (tail_length (letters w) m (omega (arith, b.short)))
        (λ l h. let y : i + suc l ≡ i + 1 + l = omega arith in rw (y, tail_at (letters w) l) at (b.before.each (suc l) (omega arith))) not_there)
