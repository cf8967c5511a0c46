-- The slots of a clause: a number digit by digit, a word, and what stops reading in each.
-- Assumes nothing.
use borrow.Author.Tests.{eq-eqb, lt-ltb, le-ltb}
use mathlib.Core.Path.{◌≡◌, refl, sym, ◌∙◌, ap, subst}
use mathlib.Core.Logic.{◌⊎◌, inl, inr}
use mathlib.Core.Bool.{Bool, true, false}
use mathlib.Core.List.{List, [], ◌∷◌, ◌++◌, append-nil}
use mathlib.Core.Option.{some, none}
use native.Mathlib.Decide.{dec_lt}
use native.Mathlib.Omega.{arith}
use Prim.Native.Nat.{ℕ, zero, suc, ◌+◌, ◌-◌, ◌*◌, ◌^◌, ◌≤◌, ◌<◌}
use lib.Dec.{eqb}
use lib.ListN.{length, take, drop, drop_of_length-le}
use lib.Seq.{drop-cons}
use Rattle.std.proofs.lemmas.List.{get_or-take, length-take}
use Rattle.scans.proofs.Bools.{says, both_ways}
use Rattle.stored.specs.Bytes.{byte_at}
use Rattle.std.specs.Prelude.{Result, MatchResult, Ok, Err}
use Rattle.phrases.specs.declared.items.Stopped.{Stopped}
use Rattle.assertions.specs.declared.parts.Counted.{Counted}
use Rattle.grammar.specs.Items.{Keyword, Mark, number, word, letters}
use Rattle.grammar.specs.Guards.{Guard}
use Rattle.grammar.specs.Points.{Slot, saying, below, telling, Point, word_number, ended, step, finished}
use Rattle.grammar.specs.Bytewise.{Outcome, staying, going_on, run, ready, digits, is_digit, fed, stops}
use Rattle.phrases.specs.Places.{Stands, Skips, NoGap, Broken, Spelt}
use Rattle.phrases.specs.GuardsRead.{in_phase}
use Rattle.assertions.specs.ClausesRead.{awaiting, Fills, Fails, CountedAt, LabelledAt}
use Rattle.grammar.proofs.Slots.{same_word}
use Rattle.phrases.proofs.Runs.{Digit}
use Rattle.grammar.proofs.Fed.{fed_digit, fed_zero, fed_more}
use Rattle.grammar.proofs.SpelledRuns.{NoDigit, number_passed}
use Rattle.phrases.proofs.Feeding.{run_byte, run_some}
use Rattle.phrases.proofs.Stopping.{touching_stops, nothing_goes}
use Rattle.phrases.proofs.WordRuns.{word_goes, word_stops}

-- no digit stands there
abbrev NoDigitAt : List ℕ → ℕ → Type 0
NoDigitAt text i = i < length text → is_digit (byte_at text i) ≡ false

digit_not : (text : List ℕ) (i : ℕ) → NoDigitAt text i → NoDigit (drop i text)
digit_not text i f = go (dec_lt i (length text))
  where
    go : Dec (i < length text) → NoDigit (drop i text)
    go (yes h) = subst NoDigit (sym (drop-cons text i 0 h)) (f h)
    go (no h) = subst NoDigit (sym (drop_of_length-le text {i = i} (omega arith))) tt

-- a byte in the front of a text, and the end of it
module _ (text front : List ℕ) (m : ℕ) (e : front ≡ take m text) where
  pub same_byte : (j : ℕ) → j < length front → byte_at front j ≡ byte_at text j
  same_byte j l = rw e (get_or-take m text j 0 (omega (arith, length-take m text, ap length e)))

  pub front_digit : {j : ℕ} {t : Bool} → j < length front → t ≡ is_digit (byte_at front j) → t ≡ true → Digit text j
  front_digit {j} l tells so =
      let f : is_digit (byte_at text j) ≡ true = rw (← same_byte j l) (sym tells ∙ so) in
      let x = simp says at f in
      record { inside = omega (arith, length-take m text, ap length e); low = x.0; high = x.1 }

  pub front_other : {j : ℕ} {t : Bool} → j < length front → t ≡ is_digit (byte_at front j) → t ≡ false → NoDigitAt text j
  front_other {j} l tells so = λ _. rw (← same_byte j l) (sym tells ∙ so)

  pub front_end : length front < m → NoDigitAt text (length front)
  front_end l = λ h. absurd (omega (arith, length-take m text, ap length e))

module _ (k n : ℕ) (text : List ℕ) (p : Point) (used : ℕ) (g : Guard) (limit : ℕ) (s : Slot) (ss : List Slot) (ns : List ℕ) where
  abbrev P : Point
  P = in_phase p used (telling g (below limit ∷ s ∷ ss) ns)

  -- a digit more makes x of a number
  abbrev made : ℕ → ℕ → Outcome
  made i x = going_on i (staying (digits x) P (step k n P (number x))) (λ σ. run k n (i + 1) σ (drop (i + 1) text))

  made_goes : (i x : ℕ) → x < limit → made i x ≡ awaiting k n text (i + 1) (digits x) p used g (below limit ∷ s ∷ ss) ns
  unfolding step
  made_goes i x h = rw (lt-ltb x limit h)

  made_stops : (i x : ℕ) → limit ≤ x → made i x ≡ stops i
  unfolding step
  made_stops i x h = rw (le-ltb x limit h)

  first_digit : (i : ℕ) → Digit text i → awaiting k n text i (ready false) p used g (below limit ∷ s ∷ ss) ns ≡ made i (byte_at text i - 48)
  unfolding fed
  first_digit i d = run_byte k n text i (ready false) P d.inside ∙ rw (fed_digit k n P (byte_at text i) d.low d.high)

  more_digit : (i v : ℕ) → Digit text i → ¬ (v ≡ 0) → awaiting k n text i (digits v) p used g (below limit ∷ s ∷ ss) ns ≡ made i (10 * v + (byte_at text i - 48))
  unfolding fed
  more_digit i v d z = run_byte k n text i (digits v) P d.inside ∙ rw (fed_more k n P (byte_at text i) d.low d.high v z)

  zero_digit : (i : ℕ) → Digit text i → awaiting k n text i (digits 0) p used g (below limit ∷ s ∷ ss) ns ≡ stops i
  unfolding fed
  zero_digit i d = run_byte k n text i (digits 0) P d.inside ∙ rw (fed_zero k n P (byte_at text i) d.low d.high)

  number_done : (i v : ℕ) → v < limit → NoDigitAt text i → awaiting k n text i (digits v) p used g (below limit ∷ s ∷ ss) ns ≡ awaiting k n text i (ready true) p used g (s ∷ ss) (ns ++ v ∷ [])
  unfolding step finished
  number_done i v h f = number_passed k n i v P (in_phase p used (telling g (s ∷ ss) (ns ++ v ∷ []))) (drop i text) (digit_not text i f) (rw (lt-ltb v limit h)) refl

  no_number : (i : ℕ) → NoGap text i → NoDigitAt text i → awaiting k n text i (ready false) p used g (below limit ∷ s ∷ ss) ns ≡ stops i
  unfolding step finished
  no_number i clean f =
      nothing_goes k n text P i (λ _. refl) clean (λ m _. refl)
      (λ d h st. let e : is_digit (byte_at text i) ≡ true = simp says (omega (arith, st.is), omega (arith, st.is)) in both_ways e (f st.inside)) (λ v _. refl) (λ w _. refl)

-- digits so far
pub record Counting (text : List ℕ) (limit i q v : ℕ) : Type 0 where
  pub forward : i ≤ q
  pub inside : q ≤ length text
  pub none_yet : q ≡ i → v ≡ 0
  pub small : i < q → v < limit
  pub comes : i < q → (k n : ℕ) (p : Point) (used : ℕ) (g : Guard) (s : Slot) (ss : List Slot) (ns : List ℕ) → awaiting k n text i (ready false) p used g (below limit ∷ s ∷ ss) ns ≡ awaiting k n text q (digits v) p used g (below limit ∷ s ∷ ss) ns

pub counting_none : (text : List ℕ) (limit i : ℕ) → i ≤ length text → Counting text limit i i 0
counting_none text limit i h = record { forward = omega arith; inside = h; none_yet = λ _. refl; small = λ l. absurd (omega arith); comes = λ l. absurd (omega arith) }

module _ {text : List ℕ} {limit i q v : ℕ} (c : Counting text limit i q v) where
  -- one digit more, of value x
  module _ {x : ℕ} (d : Digit text q) (same : x ≡ byte_at text q - 48) (some : (i < q) × ¬ (v ≡ 0) ⊎ (q ≤ i)) where
    counted : (k n : ℕ) (p : Point) (used : ℕ) (g : Guard) (s : Slot) (ss : List Slot) (ns : List ℕ) → awaiting k n text i (ready false) p used g (below limit ∷ s ∷ ss) ns ≡ made k n text p used g limit s ss ns q (10 * v + x)
    counted k n p used g s ss ns = go some
      where
        go : (i < q) × ¬ (v ≡ 0) ⊎ (q ≤ i) → awaiting k n text i (ready false) p used g (below limit ∷ s ∷ ss) ns ≡ made k n text p used g limit s ss ns q (10 * v + x)
        go (inl l) = c.comes l.0 k n p used g s ss ns ∙ rw same (more_digit k n text p used g limit s ss ns q v d l.1)
        go (inr l) =
            let here : q ≡ i = omega (arith, c.forward) in
            let first : 10 * v + x ≡ byte_at text q - 48 = omega (arith, c.none_yet here, same) in
            rw (first, sym here) (first_digit k n text p used g limit s ss ns q d)

    pub counting_more : 10 * v + x < limit → Counting text limit i (q + 1) (10 * v + x)
    counting_more h =
        record {
          forward = omega (arith, c.forward);
          inside = omega (arith, d.inside);
          none_yet = λ e. absurd (omega (arith, c.forward));
          small = λ _. h;
          comes = λ l k n p used g s ss ns. counted k n p used g s ss ns ∙ made_goes k n text p used g limit s ss ns q (10 * v + x) h;
        }

    pub counting_large : limit ≤ 10 * v + x → Fails text false (below limit ∷ []) i q
    counting_large h = record { comes = λ k n p used g s ss ns. counted k n p used g s ss ns ∙ made_stops k n text p used g limit s ss ns q (10 * v + x) h }

  pub counting_zero : Digit text q → i < q → v ≡ 0 → Fails text false (below limit ∷ []) i q
  counting_zero d l z = record { comes = λ k n p used g s ss ns. c.comes l k n p used g s ss ns ∙ rw z (zero_digit k n text p used g limit s ss ns q d) }

  pub counting_end : NoDigitAt text q → ¬ (q ≡ i) → (v < limit) × Fills text false (below limit ∷ []) i q v
  counting_end over apart =
      let l : i < q = omega (arith, c.forward) in
      (c.small l, record { past = l; inside = c.inside; comes = λ k n p used g s ss ns. c.comes l k n p used g s ss ns ∙ number_done k n text p used g limit s ss ns q v (c.small l) over })

pub counting_empty : {text : List ℕ} {limit i : ℕ} → NoGap text i → NoDigitAt text i → Fails text false (below limit ∷ []) i i
counting_empty {text} {limit} {i} clean over = record { comes = λ k n p used g s ss ns. no_number k n text p used g limit s ss ns i clean over }

-- digits so far, with no zero in front: each but the first makes the number ten times larger
pub record Growing (text : List ℕ) (limit i q v : ℕ) : Type 0 where
  pub counting : Counting text limit i q v
  pub large : (m : ℕ) → i + suc m < q → 10 ^ suc m ≤ v

pub growing_none : (text : List ℕ) (limit i : ℕ) → i ≤ length text → Growing text limit i i 0
growing_none text limit i h = record { counting = counting_none text limit i h; large = λ m l. absurd (omega arith) }

module _ {text : List ℕ} {limit i q v : ℕ} (b : Growing text limit i q v) where
  pub growing_more : {x : ℕ} → Digit text q → x ≡ byte_at text q - 48 → (i < q) × ¬ (v ≡ 0) ⊎ (q ≤ i) → 10 * v + x < limit → Growing text limit i (q + 1) (10 * v + x)
  growing_more {x} d same begun h = record { counting = counting_more b.counting d same begun h; large = λ m l. go m l begun }
    where
      go : (m : ℕ) → i + suc m < q + 1 → (i < q) × ¬ (v ≡ 0) ⊎ (q ≤ i) → 10 ^ suc m ≤ 10 * v + x
      go m l (inr e) = absurd (omega arith)
      go zero l (inl e) = omega (arith, e.1)
      go (suc m) l (inl e) = omega (arith, b.large m (omega arith))

  -- five digits at the most make a number below the limit
  pub few_digits : limit ≤ 65536 → q < i + 6
  few_digits few = go (dec_lt (i + 5) q)
    where
      go : Dec (i + 5 < q) → q < i + 6
      go (yes l) = let most : 100000 ≤ v = b.large 4 l in absurd (omega (arith, b.counting.small (omega arith)))
      go (no l) = omega arith

-- no digit more
pub counting_over : {text : List ℕ} {limit i q v : ℕ} {r : Result Counted Stopped} → Counting text limit i q v → NoGap text i → NoDigitAt text q
    → MatchResult r (λ y. (y.value ≡ v) × (y.at ≡ q) × ¬ (q ≡ i)) (λ y. (y.at ≡ i) × (q ≡ i)) → CountedAt text false (below limit ∷ []) limit i r
counting_over {text} {limit} {i} {q} {v} {r} c clean over h = record { says = go r h }
  where
    go : (r : Result Counted Stopped) → MatchResult r (λ y. (y.value ≡ v) × (y.at ≡ q) × ¬ (q ≡ i)) (λ y. (y.at ≡ i) × (q ≡ i))
        → MatchResult r (λ y. (y.value < limit) × Fills text false (below limit ∷ []) i y.at y.value) (λ y. Fails text false (below limit ∷ []) i y.at)
    go (Ok u) h = rw (h.0, h.1) (counting_end c over h.2)
    go (Err u) h = rw h.0 (counting_empty clean (subst (NoDigitAt text) h.1 over))

-- a word, and a number after it, with gaps before each
module _ (k n : ℕ) (text : List ℕ) (p : Point) (used : ℕ) (g : Guard) (s : Slot) (ss : List Slot) (ns : List ℕ) where
  touching_slot : (t : Slot) → ((m : Mark) → ended t m ≡ none) → (i : ℕ) → NoGap text i → awaiting k n text i (ready true) p used g (t ∷ s ∷ ss) ns ≡ stops i
  unfolding step finished
  touching_slot t f i clean = touching_stops k n text (in_phase p used (telling g (t ∷ s ∷ ss) ns)) i (λ _. refl) clean (λ m _. rw (f m))

  said_word : (w : Keyword) → step k n (in_phase p used (telling g (saying w ∷ s ∷ ss) ns)) (word w) ≡ some (in_phase p used (telling g (s ∷ ss) ns))
  unfolding step
  said_word w = rw (eq-eqb (word_number w) (word_number w) refl, append-nil ns)

  slot_word_goes : (w : Keyword) {i q : ℕ} → Spelt text i (letters w) q → awaiting k n text i (ready false) p used g (saying w ∷ s ∷ ss) ns ≡ awaiting k n text q (ready true) p used g (s ∷ ss) ns
  slot_word_goes w sp = word_goes k n text (in_phase p used (telling g (saying w ∷ s ∷ ss) ns)) w (said_word w) sp

  other_word : (w v : Keyword) {i : ℕ} → ¬ Stands text i (byte_at (letters w) 0) → Stands text i (byte_at (letters v) 0) → (b : Bool) → eqb (word_number w) (word_number v) ≡ b
      → step k n (in_phase p used (telling g (saying w ∷ s ∷ ss) ns)) (word v) ≡ none
  unfolding step
  other_word w v {i} f st true e = absurd (f (subst (λ x. Stands text i (byte_at (letters x) 0)) (sym (same_word w v e)) st))
  other_word w v f st false e = rw e

  slot_word_stops : (w : Keyword) {i j : ℕ} → NoGap text i → Broken text i (letters w) j → awaiting k n text i (ready false) p used g (saying w ∷ s ∷ ss) ns ≡ stops j
  unfolding step finished
  slot_word_stops w {i} clean b =
      word_stops k n text (in_phase p used (telling g (saying w ∷ s ∷ ss) ns)) w (said_word w)
      (λ f. nothing_goes k n text (in_phase p used (telling g (saying w ∷ s ∷ ss) ns)) i (λ _. refl) clean (λ m _. refl) (λ d h _. refl) (λ v _. refl) (λ v st. other_word w v f st (eqb (word_number w) (word_number v)) refl)) b

module _ (text letters' : List ℕ) (limit i : ℕ) where
  -- no gap before the word
  pub labelled_touching : {r : ℕ} → Skips text i r → r ≡ i → LabelledAt text letters' limit i (Err (record { at = i }))
  labelled_touching sk e = record { counted = λ w same. record { says = record { comes = λ k n p used g s ss ns. touching_slot k n text p used g (below limit) (s ∷ ss) ns (saying w) (λ m. refl) i (subst (NoGap text) e sk.ends) } } }

  module _ {r : ℕ} (sk : Skips text i r) (some-gap : ¬ (r ≡ i)) where
    on_word : (w : Keyword) (k n : ℕ) (p : Point) (used : ℕ) (g : Guard) (s : Slot) (ss : List Slot) (ns : List ℕ) → awaiting k n text i (ready true) p used g (saying w ∷ below limit ∷ s ∷ ss) ns ≡ awaiting k n text r (ready false) p used g (saying w ∷ below limit ∷ s ∷ ss) ns
    on_word w k n p used g s ss ns = run_some k n text true (in_phase p used (telling g (saying w ∷ below limit ∷ s ∷ ss) ns)) sk (omega (arith, sk.forward))

    pub labelled_broken : {j : ℕ} → Broken text r letters' j → LabelledAt text letters' limit i (Err (record { at = j }))
    labelled_broken {j} b =
        record { counted = λ w same. record { says = record { comes = λ k n p used g s ss ns. on_word w k n p used g s ss ns ∙ slot_word_stops k n text p used g (below limit) (s ∷ ss) ns w sk.ends (subst (λ l. Broken text r l j) (sym same) b) } } }

    module _ {q : ℕ} (sp : Spelt text r letters' q) where
      on_number : (w : Keyword) → letters w ≡ letters' → (k n : ℕ) (p : Point) (used : ℕ) (g : Guard) (s : Slot) (ss : List Slot) (ns : List ℕ) → awaiting k n text i (ready true) p used g (saying w ∷ below limit ∷ s ∷ ss) ns ≡ awaiting k n text q (ready true) p used g (below limit ∷ s ∷ ss) ns
      on_number w same k n p used g s ss ns = on_word w k n p used g s ss ns ∙ slot_word_goes k n text p used g (below limit) (s ∷ ss) ns w (subst (λ l. Spelt text r l q) (sym same) sp)

      pub labelled_close : {t : ℕ} → Skips text q t → t ≡ q → LabelledAt text letters' limit i (Err (record { at = q }))
      labelled_close sk' e = record { counted = λ w same. record { says = record { comes = λ k n p used g s ss ns. on_number w same k n p used g s ss ns ∙ touching_slot k n text p used g s ss ns (below limit) (λ m. refl) q (subst (NoGap text) e sk'.ends) } } }

      module _ {t : ℕ} (sk' : Skips text q t) (gap-there : ¬ (t ≡ q)) where
        on_digits : (w : Keyword) → letters w ≡ letters' → (k n : ℕ) (p : Point) (used : ℕ) (g : Guard) (s : Slot) (ss : List Slot) (ns : List ℕ) → awaiting k n text i (ready true) p used g (saying w ∷ below limit ∷ s ∷ ss) ns ≡ awaiting k n text t (ready false) p used g (below limit ∷ s ∷ ss) ns
        on_digits w same k n p used g s ss ns = on_number w same k n p used g s ss ns ∙ run_some k n text true (in_phase p used (telling g (below limit ∷ s ∷ ss) ns)) sk' (omega (arith, sk'.forward))

        pub labelled_number : {c : Result Counted Stopped} → CountedAt text false (below limit ∷ []) limit t c → LabelledAt text letters' limit i c
        labelled_number {c} x = record { counted = λ w same. record { says = go c w same x.says } }
          where
            go : (c : Result Counted Stopped) (w : Keyword) → letters w ≡ letters' → MatchResult c (λ y. (y.value < limit) × Fills text false (below limit ∷ []) t y.at y.value) (λ y. Fails text false (below limit ∷ []) t y.at)
                → MatchResult c (λ y. (y.value < limit) × Fills text true (saying w ∷ below limit ∷ []) i y.at y.value) (λ y. Fails text true (saying w ∷ below limit ∷ []) i y.at)
            go (Ok u) w same y =
                (y.0, record { past = omega (arith, sk.forward, sp.q_is, sk'.forward, y.1.past); inside = y.1.inside; comes = λ k n p used g s ss ns. on_digits w same k n p used g s ss ns ∙ y.1.comes k n p used g s ss ns })
            go (Err j) w same y = record { comes = λ k n p used g s ss ns. on_digits w same k n p used g s ss ns ∙ y.comes k n p used g s ss ns }
