-- Where an operand is wanted, and where one has been read: which bytes go on, and to what.
-- Assumes nothing.
use borrow.Author.Tests.{le-leb, lt-ltb, le-ltb}
use mathlib.Core.Path.{◌≡◌, refl, sym, ◌∙◌, ap}
use mathlib.Core.Bool.{Bool, true, false, cond}
use mathlib.Core.List.{List, [], ◌∷◌}
use mathlib.Core.Option.{Option, some, none}
use native.Mathlib.Decide.{dec_lt}
use native.Mathlib.Omega.{arith}
use Prim.Native.Nat.{ℕ, zero, suc, ◌+◌, ◌-◌, ◌*◌, ◌≤◌, ◌<◌}
use lib.Dec.{leb, ltb}
use lib.ListN.{length, drop}
use Rattle.scans.proofs.Bools.{says}
use Rattle.stored.specs.Bytes.{byte_at}
use Rattle.grammar.specs.Items.{Keyword, Mark, NOT, OPEN, CLOSE, COLON, SEMICOLON, SIGN, variable, number, mark, mark_byte}
use Rattle.grammar.specs.Spelling.{is_gap}
use Rattle.grammar.specs.Guards.{Guard, letter, constant}
use Rattle.grammar.specs.Points.{Frame, guarding, guarded, Point, followed, step, finished}
use Rattle.grammar.specs.Bytewise.{ready, digits, at, mark_of, word_of, is_digit, fed_ready, fed_digits, fed, going_on, marks, begun, begun_word, stops, run}
use Rattle.phrases.specs.Places.{is_letter, Stands, NoGap}
use Rattle.phrases.specs.GuardsRead.{in_phase, wanting, having}
use Rattle.grammar.proofs.Options.{each}
use Rattle.grammar.proofs.Bytes.{mark_byte_lem, digit_plain}
use Rattle.grammar.proofs.Fed.{fed_variable, fed_digit, fed_zero, fed_more}
use Rattle.phrases.proofs.Feeding.{run_byte, run_end}
use Rattle.phrases.proofs.Stopping.{nothing_goes}

module _ (k n : ℕ) (p : Point) (used : ℕ) where
  -- after an operand only a mark goes on, touching or not
  no_word : (fs : List Frame) (g : Guard) (d l : Bool) (w : Option Keyword) → cond d none (cond l (begun_word k n (in_phase p used (guarded fs g)) w) none) ≡ none
  unfolding step
  no_word fs g true l w = refl
  no_word fs g false false w = refl
  no_word fs g false true none = refl
  no_word fs g false true (some w) = refl

  begun_none : (fs : List Frame) (g : Guard) (b : ℕ) → begun k n (in_phase p used (guarded fs g)) b ≡ none
  unfolding begun step
  begun_none fs g b = no_word fs g (is_digit b) (leb 97 b) (word_of b)

  fed_guarded : (touching : Bool) (fs : List Frame) (g : Guard) (b : ℕ)
      → fed_ready k n touching (in_phase p used (guarded fs g)) b ≡ cond (is_gap b) (some (at (ready false) (in_phase p used (guarded fs g)))) (marks k n (in_phase p used (guarded fs g)) (mark_of b) none)
  unfolding fed_ready
  fed_guarded true fs g b = refl
  fed_guarded false fs g b = rw (begun_none fs g b)

  ready_same : (fs : List Frame) (g : Guard) (i : ℕ) (s : List ℕ) → run k n i (at (ready true) (in_phase p used (guarded fs g))) s ≡ run k n i (at (ready false) (in_phase p used (guarded fs g))) s
  unfolding run fed
  ready_same fs g i [] = refl
  ready_same fs g i (b ∷ s) = rw (fed_guarded true fs g b, fed_guarded false fs g b)

  -- a constant has no second digit
  more_digits : (fs : List Frame) (v b : ℕ) → v < 2 → 48 ≤ b → b < 58 → fed_digits k n (in_phase p used (guarding fs)) v b ≡ none
  unfolding step
  more_digits fs zero b h l m = fed_zero k n (in_phase p used (guarding fs)) b l m
  more_digits fs (suc v) b h l m =
      let big : 2 ≤ 10 * suc v + (b - 48) = omega arith in
      fed_more k n (in_phase p used (guarding fs)) b l m (suc v) (λ e. omega arith) ∙ rw (le-ltb (10 * suc v + (b - 48)) 2 big)

  no_digit : (fs : List Frame) (g : Guard) (b : ℕ) → 48 ≤ b → b < 58 → fed_ready k n true (in_phase p used (guarded fs g)) b ≡ none
  unfolding fed_ready
  no_digit fs g b l h = let (x, y, z) = digit_plain b l h in rw (x, y)

module _ (k n : ℕ) (p : Point) (used : ℕ) (fs : List Frame) where
  fed_constant : (v b : ℕ) → v < 2 → (d : Bool) → is_digit b ≡ d → fed_digits k n (in_phase p used (guarding fs)) v b ≡ fed_ready k n true (in_phase p (suc used) (guarded fs (constant v))) b
  unfolding fed_digits step
  fed_constant v b h true d = let (l, m) = simp says at d in more_digits k n p used fs v b h l m ∙ sym (no_digit k n p (suc used) fs (constant v) b l m)
  fed_constant v b h false d = rw (d, lt-ltb v 2 h)

  constant_read : (v i : ℕ) → v < 2 → (s : List ℕ) → run k n i (at (digits v) (in_phase p used (guarding fs))) s ≡ run k n i (at (ready true) (in_phase p (suc used) (guarded fs (constant v)))) s
  unfolding run fed finished
  constant_read v i h [] = refl
  constant_read v i h (b ∷ s) = rw (fed_constant v b h (is_digit b) refl)

module _ (k n : ℕ) (text : List ℕ) (p : Point) (used : ℕ) where
  -- two guards that each mark here follows alike are read on alike
  module _ {i : ℕ} (fs : List Frame) (g : Guard) (clean : NoGap text i) where
    at_byte : i < length text → having k n text i p used fs g ≡ going_on i (marks k n (in_phase p used (guarded fs g)) (mark_of (byte_at text i)) none) (λ σ. run k n (i + 1) σ (drop (i + 1) text))
    unfolding fed
    at_byte h = run_byte k n text i (ready false) (in_phase p used (guarded fs g)) h ∙ rw (fed_guarded k n p used false fs g (byte_at text i), clean h)

    at_end_lem : length text ≤ i → having k n text i p used fs g ≡ stops i
    unfolding finished
    at_end_lem h = run_end k n text i false (in_phase p used (guarded fs g)) h

  pub having_same : {i : ℕ} (fs fs' : List Frame) (g g' : Guard) → NoGap text i
      → ((m : Mark) → Stands text i (mark_byte m) → followed n (in_phase p used (guarded fs g)) fs g m ≡ followed n (in_phase p used (guarded fs' g')) fs' g' m)
      → having k n text i p used fs g ≡ having k n text i p used fs' g'
  unfolding step
  having_same {i} fs fs' g g' clean f = go (dec_lt i (length text))
    where
      on : (o : Option Mark) → i < length text → mark_of (byte_at text i) ≡ o → marks k n (in_phase p used (guarded fs g)) o none ≡ marks k n (in_phase p used (guarded fs' g')) o none
      on none h e = refl
      on (some m) h e = rw (f m (record { inside = h; is = sym (each _ (mark_byte_lem (byte_at text i)) e) }))

      go : Dec (i < length text) → having k n text i p used fs g ≡ having k n text i p used fs' g'
      go (yes h) = at_byte fs g clean h ∙ ap (λ o. going_on i o (λ σ. run k n (i + 1) σ (drop (i + 1) text))) (on (mark_of (byte_at text i)) h refl) ∙ sym (at_byte fs' g' clean h)
      go (no h) = at_end_lem fs g clean (omega arith) ∙ sym (at_end_lem fs' g' clean (omega arith))

-- where an operand is wanted
module _ (k n : ℕ) (text : List ℕ) (p : Point) (used : ℕ) (fs : List Frame) where
  pub letter_goes : {i : ℕ} (v : ℕ) → k ≤ 12 → v < k → Stands text i (97 + v) → wanting k n text i p used fs ≡ having k n text (i + 1) p (suc used) fs (letter v)
  unfolding fed step
  letter_goes {i} v few below s =
      let e : 97 + v - 97 ≡ v = omega arith in
      run_byte k n text i (ready false) (in_phase p used (guarding fs)) s.inside
      ∙ rw (s.is, fed_variable k n (in_phase p used (guarding fs)) (97 + v) (omega arith) (omega arith) {q = in_phase p (suc used) (guarded fs (letter v))} (rw (e, lt-ltb v k below)))
      (ready_same k n p (suc used) fs (letter v) (i + 1) (drop (i + 1) text))

  pub constant_goes : {i : ℕ} (v : ℕ) → v < 2 → Stands text i (48 + v) → wanting k n text i p used fs ≡ having k n text (i + 1) p (suc used) fs (constant v)
  unfolding fed step
  constant_goes {i} v h s =
      let e : 48 + v - 48 ≡ v = omega arith in
      run_byte k n text i (ready false) (in_phase p used (guarding fs)) s.inside
      ∙ rw (s.is, fed_digit k n (in_phase p used (guarding fs)) (48 + v) (omega arith) (omega arith), e, lt-ltb v 2 h)
      (constant_read k n p used fs v (i + 1) h (drop (i + 1) text) ∙ ready_same k n p (suc used) fs (constant v) (i + 1) (drop (i + 1) text))

  -- neither `!` nor a bracket
  module _ {i : ℕ} (no-not : ¬ Stands text i 33) (no-open : ¬ Stands text i 40) where
    pub no_opening : (m : Mark) → Stands text i (mark_byte m) → step k n (in_phase p used (guarding fs)) (mark m) ≡ none
    unfolding step
    no_opening NOT s = absurd (no-not s)
    no_opening OPEN s = absurd (no-open s)
    no_opening CLOSE s = refl
    no_opening COLON s = refl
    no_opening SEMICOLON s = refl
    no_opening (SIGN o) s = refl

    -- nor an operand
    module _ (clean : NoGap text i) (no-0 : ¬ Stands text i 48) (no-1 : ¬ Stands text i 49) (no-letter : is_letter k text i ≡ false) where
      no_constant : (d : ℕ) → Stands text i (48 + d) → step k n (in_phase p used (guarding fs)) (number d) ≡ none
      unfolding step
      no_constant zero s = absurd (no-0 s)
      no_constant (suc zero) s = absurd (no-1 s)
      no_constant (suc (suc d)) s = rw (le-ltb (suc (suc d)) 2 (omega arith))

      no_variable : (v : ℕ) → Stands text i (97 + v) → step k n (in_phase p used (guarding fs)) (variable v) ≡ none
      unfolding step
      no_variable v s =
          let z : 97 + v - 97 ≡ v = omega arith in
          let x : ltb v k ≡ false = rw (lt-ltb i (length text) s.inside, s.is, le-leb 97 (97 + v) (omega arith), z) at no-letter in
          rw x

      pub wanting_stops : wanting k n text i p used fs ≡ stops i
      unfolding step finished
      wanting_stops = nothing_goes k n text (in_phase p used (guarding fs)) i (λ _. refl) clean no_opening (λ d _. no_constant d) no_variable (λ w _. refl)
