-- How reading goes on from a place of the text: at a byte, at the end, over gaps, and by a mark.
-- Assumes nothing.
use mathlib.Core.Path.{◌≡◌, ◌∙◌}
use mathlib.Core.Bool.{Bool, true, false}
use mathlib.Core.List.{List}
use mathlib.Core.Option.{some, none}
use native.Mathlib.Decide.{dec_lt}
use native.Mathlib.Numerals.{add-one}
use native.Mathlib.Omega.{arith}
use Prim.Native.Nat.{ℕ, zero, suc, ◌+◌, ◌-◌, ◌≤◌, ◌<◌}
use lib.ListN.{length, drop, drop_of_length-le}
use lib.Seq.{drop-cons}
use Rattle.stored.specs.Bytes.{byte_at}
use Rattle.grammar.specs.Items.{Mark, mark, mark_byte}
use Rattle.grammar.specs.Spelling.{is_gap}
use Rattle.grammar.specs.Points.{Point, step, finished}
use Rattle.grammar.specs.Bytewise.{Outcome, ready, at, Within, fed_ready, fed, going_on, onward, or_stops, stops, run, reading}
use Rattle.phrases.specs.Places.{Stands, Skips}
use Rattle.grammar.proofs.Fed.{fed_mark}

module _ (k n : ℕ) (text : List ℕ) where
  -- at a byte, and at the end
  pub run_byte : (i : ℕ) (w : Within) (p : Point) → i < length text → reading k n text i w p ≡ going_on i (fed k n (at w p) (byte_at text i)) (λ σ. run k n (i + 1) σ (drop (i + 1) text))
  unfolding run
  run_byte i w p h = rw (drop-cons text i 0 h, add-one)

  pub run_end : (i : ℕ) (touching : Bool) (p : Point) → length text ≤ i → reading k n text i (ready touching) p ≡ or_stops i (finished p)
  unfolding run
  run_end i touching p h = rw (drop_of_length-le text {i = i} h)

  run_gap : {i : ℕ} (touching : Bool) (p : Point) → i < length text → is_gap (byte_at text i) ≡ true → reading k n text i (ready touching) p ≡ reading k n text (i + 1) (ready false) p
  unfolding fed fed_ready
  run_gap {i} touching p h g = run_byte i (ready touching) p h ∙ rw g

  -- gaps from i to q, none of them or some
  pub run_gaps : {i q : ℕ} (p : Point) → Skips text i q → reading k n text i (ready false) p ≡ reading k n text q (ready false) p
  run_gaps {i} {q} p g = go (q - i) i (omega (arith, g.forward)) (λ m l h. g.each m l h)
    where
      go : (d i : ℕ) → i + d ≡ q → ((m : ℕ) → i ≤ m → m < q → is_gap (byte_at text m) ≡ true) → reading k n text i (ready false) p ≡ reading k n text q (ready false) p
      go zero i e f = let same : i ≡ q = omega arith in rw same
      go (suc d) i e f = run_gap false p (omega (arith, g.inside)) (f i (omega arith) (omega arith)) ∙ go d (i + 1) (omega arith) (λ m l h. f m (omega arith) h)

  pub run_some : {i q : ℕ} (touching : Bool) (p : Point) → Skips text i q → i < q → reading k n text i (ready touching) p ≡ reading k n text q (ready false) p
  run_some {i} {q} touching p g h =
      run_gap touching p (omega (arith, g.inside)) (g.each i (omega arith) h)
      ∙ run_gaps p (record { forward = omega arith; inside = g.inside; each = λ m l x. g.each m (omega arith) x; ends = g.ends })

  -- gaps or none, where it is known how reading goes on behind them
  pub run_past : {i q : ℕ} (touching : Bool) (p : Point) {o : Outcome} → Skips text i q → (q ≡ i → reading k n text q (ready touching) p ≡ o) → reading k n text q (ready false) p ≡ o → reading k n text i (ready touching) p ≡ o
  run_past {i} {q} touching p {o} g touch clear = go (dec_lt i q)
    where
      go : Dec (i < q) → reading k n text i (ready touching) p ≡ o
      go (yes l) = run_some touching p g l ∙ clear
      go (no l) = let same : q ≡ i = omega (arith, g.forward) in rw (← same) (touch same)

  -- a mark stands there
  pub run_mark : {i : ℕ} (touching : Bool) (p : Point) (m : Mark) → Stands text i (mark_byte m) → reading k n text i (ready touching) p ≡ going_on i (onward (ready false) (step k n p (mark m))) (λ σ. run k n (i + 1) σ (drop (i + 1) text))
  unfolding fed
  run_mark {i} touching p m s = run_byte i (ready touching) p s.inside ∙ rw (s.is, fed_mark k n p touching m)

  pub mark_goes : {i : ℕ} (touching : Bool) (p : Point) (m : Mark) {q : Point} → Stands text i (mark_byte m) → step k n p (mark m) ≡ some q → reading k n text i (ready touching) p ≡ reading k n text (i + 1) (ready false) q
  mark_goes touching p m s e = run_mark touching p m s ∙ rw e

  pub mark_stops : {i : ℕ} (touching : Bool) (p : Point) (m : Mark) → Stands text i (mark_byte m) → step k n p (mark m) ≡ none → reading k n text i (ready touching) p ≡ stops i
  mark_stops touching p m s e = run_mark touching p m s ∙ rw e
