-- What a byte does in a state: it is a gap, begins an item, goes on with one, or ends a number.
-- Assumes nothing.
use borrow.Author.Tests.{eqb-true, eqb-false, leb-true}
use mathlib.Core.Path.{◌≡◌, refl}
use mathlib.Core.Bool.{Bool, true, false, cond}
use mathlib.Core.List.{List, [], ◌∷◌}
use mathlib.Core.Option.{Option, some, none}
use native.Mathlib.Omega.{arith}
use Prim.Native.Nat.{ℕ, ◌+◌, ◌-◌, ◌*◌, ◌<◌}
use lib.Dec.{leb, eqb}
use Rattle.scans.proofs.Bools.{says}
use Rattle.grammar.specs.Items.{Keyword, Mark, word, variable, number, mark, letters, mark_byte}
use Rattle.grammar.specs.Spelling.{is_gap}
use Rattle.grammar.specs.Points.{Point, step}
use Rattle.grammar.specs.Bytewise.{Within, ready, spelling, digits, State, at, mark_of, word_of, tail, is_digit, onward, staying, or_else, begun_word, begun, marks, fed_ready, passed, fed_digits, fed_in}
use Rattle.grammar.proofs.Options.{Each, each_map, when_each, cond_each}
use Rattle.grammar.proofs.Bytes.{mark_byte_lem, word_byte}

pub data Moves (k n : ℕ) : Within → Point → ℕ → State → Type 0 where
  over_gap : {touching : Bool} {p : Point} {b : ℕ} → is_gap b ≡ true → Moves k n (ready touching) p b (at (ready false) p)
  over_mark : {touching : Bool} {p q : Point} {b : ℕ} (m : Mark) → mark_byte m ≡ b → step k n p (mark m) ≡ some q → Moves k n (ready touching) p b (at (ready false) q)
  over_variable : {p q : Point} {b : ℕ} (i : ℕ) → 97 + i ≡ b → step k n p (variable i) ≡ some q → Moves k n (ready false) p b (at (ready true) q)
  into_word : {p q : Point} {b : ℕ} (w : Keyword) → letters w ≡ b ∷ tail (letters w) → step k n p (word w) ≡ some q
      → Moves k n (ready false) p b (at (spelling (tail (letters w))) q)
  in_word : {p : Point} {b c d : ℕ} {s : List ℕ} → b ≡ c → Moves k n (spelling (c ∷ d ∷ s)) p b (at (spelling (d ∷ s)) p)
  word_end : {p : Point} {b c : ℕ} → b ≡ c → Moves k n (spelling (c ∷ [])) p b (at (ready true) p)
  into_number : {p : Point} {b : ℕ} (d : ℕ) (q : Point) → d < 10 → 48 + d ≡ b → step k n p (number d) ≡ some q → Moves k n (ready false) p b (at (digits d) p)
  in_number : {p : Point} {b v : ℕ} (d : ℕ) (q : Point) → 0 < v → d < 10 → 48 + d ≡ b → step k n p (number (10 * v + d)) ≡ some q
      → Moves k n (digits v) p b (at (digits (10 * v + d)) p)
  past_number : {p q : Point} {b v : ℕ} {σ : State} → step k n p (number v) ≡ some q → Moves k n (ready true) q b σ → Moves k n (digits v) p b σ

module _ (P : State → Type 0) where
  onward_each : (w : Within) (o : Option Point) → ((q : Point) → o ≡ some q → P (at w q)) → Each P (onward w o)
  onward_each w none f = tt
  onward_each w (some q) f = f q refl

  staying_each : (w : Within) (p : Point) (o : Option Point) → ((q : Point) → o ≡ some q → P (at w p)) → Each P (staying w p o)
  staying_each w p none f = tt
  staying_each w p (some q) f = f q refl

  else_each : (x y : Option State) → Each P x → Each P y → Each P (or_else x y)
  else_each none y g h = h
  else_each (some a) y g h = g

module _ (k n : ℕ) where
  begun_moves : (p : Point) (b : ℕ) → Each (Moves k n (ready false) p b) (begun k n p b)
  unfolding begun
  begun_moves p b = cond_each _ (is_digit b) _ _ in_digits λ e. cond_each _ (leb 97 b) _ none in_letters λ f. tt
    where
      in_digits : is_digit b ≡ true → Each (Moves k n (ready false) p b) (staying (digits (b - 48)) p (step k n p (number (b - 48))))
      in_digits e = let (l, m) = simp says at e in staying_each _ _ p (step k n p (number (b - 48))) λ q f. into_number (b - 48) q (omega arith) (omega arith) f

      of_word : (o : Option Keyword) → Each (λ w. letters w ≡ b ∷ tail (letters w)) o → Each (Moves k n (ready false) p b) (begun_word k n p o)
      of_word none h = tt
      of_word (some w) h = onward_each _ _ (step k n p (word w)) λ q e. into_word w h e

      in_letters : leb 97 b ≡ true → Each (Moves k n (ready false) p b) (or_else (onward (ready true) (step k n p (variable (b - 97)))) (begun_word k n p (word_of b)))
      in_letters e =
          let l = leb-true 97 b e in
          let o = step k n p (variable (b - 97)) in
          else_each _ (onward (ready true) o) _ (onward_each _ _ o λ q f. over_variable (b - 97) (omega arith) f) (of_word (word_of b) (word_byte b))

  ready_moves : (touching : Bool) (p : Point) (b : ℕ) → Each (Moves k n (ready touching) p b) (fed_ready k n touching p b)
  unfolding fed_ready
  ready_moves touching p b = cond_each _ (is_gap b) _ _ (λ g. over_gap g) (λ g. go touching (mark_of b) (mark_byte_lem b))
    where
      go : (touching : Bool) (o : Option Mark) → Each (λ m. mark_byte m ≡ b) o → Each (Moves k n (ready touching) p b) (marks k n p o (cond touching none (begun k n p b)))
      go touching (some m) h = onward_each _ _ (step k n p (mark m)) (λ q e. over_mark m h e)
      go true none h = tt
      go false none h = begun_moves p b

  pub moves : (w : Within) (p : Point) (b : ℕ) → Each (Moves k n w p b) (fed_in k n w p b)
  unfolding fed_digits
  moves (ready touching) p b = ready_moves touching p b
  moves (spelling []) p b = tt
  moves (spelling (c ∷ [])) p b = when_each _ (eqb b c) _ λ e. word_end (eqb-true b c e)
  moves (spelling (c ∷ d ∷ s)) p b = when_each _ (eqb b c) _ λ e. in_word (eqb-true b c e)
  moves (digits v) p b = cond_each _ (is_digit b) _ _ (λ e. cond_each _ (eqb v 0) none _ (λ z. tt) (goes_on e)) λ e. ends (step k n p (number v)) refl
    where
      goes_on : is_digit b ≡ true → eqb v 0 ≡ false → Each (Moves k n (digits v) p b) (staying (digits (10 * v + (b - 48))) p (step k n p (number (10 * v + (b - 48)))))
      goes_on e z =
          let (l, m) = simp says at e in
          let h = eqb-false v 0 z in
          staying_each _ _ p (step k n p (number (10 * v + (b - 48)))) λ q f. in_number (b - 48) q (omega arith) (omega arith) (omega arith) f

      ends : (o : Option Point) → step k n p (number v) ≡ o → Each (Moves k n (digits v) p b) (passed k n b o)
      ends none d = tt
      ends (some q) d = each_map (fed_ready k n true q b) (λ σ m. past_number d m) (ready_moves true q b)
