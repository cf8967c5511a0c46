-- What the reader's functions say of places in the text: where gaps end, where a word or number ends, and how reading goes on from there.
-- Assumes nothing.
use Rattle.std.specs.Prelude.{◌≡◌, Bool, true, false, ◌&&◌, List, ℕ, ◌+◌, ◌-◌, ◌≤◌, ◌<◌, leb, ltb, eqb, length, Result, MatchResult}
use Rattle.stored.specs.Bytes.{byte_at}
use Rattle.phrases.specs.declared.items.Stopped.{Stopped}
use Rattle.grammar.specs.Spelling.{is_gap}

-- the bytes from `at` to q pass the test, and the one at q does not
pub record Passes (p : ℕ → Bool) (text : List ℕ) (at q : ℕ) : Type 0 where
  pub forward : at ≤ q
  pub inside : q ≤ length text
  pub each : (i : ℕ) → at ≤ i → i < q → p (byte_at text i) ≡ true
  pub ends : q < length text → p (byte_at text q) ≡ false

-- no gap stands there
abbrev pub NoGap : List ℕ → ℕ → Type 0
NoGap text q = q < length text → is_gap (byte_at text q) ≡ false

-- gaps from `at` to q, and none at q
abbrev pub Skips : List ℕ → ℕ → ℕ → Type 0
Skips = Passes is_gap

-- this byte stands there
abbrev pub is_at : List ℕ → ℕ → ℕ → Bool
is_at text at b = ltb at (length text) && eqb (byte_at text at) b

-- a variable below k stands there
abbrev pub is_letter : ℕ → List ℕ → ℕ → Bool
is_letter k text at = ltb at (length text) && (leb 97 (byte_at text at) && ltb (byte_at text at - 97) k)

-- the same, said
pub record Stands (text : List ℕ) (i b : ℕ) : Type 0 where
  pub inside : i < length text
  pub is : byte_at text i ≡ b

-- the first i letters of the word stand from `at` on
pub record Letters (text : List ℕ) (at : ℕ) (w : List ℕ) (i : ℕ) : Type 0 where
  pub each : (m : ℕ) → m < i → Stands text (at + m) (byte_at w m)

-- the letters before i stand, and letter i does not
pub record Broken (text : List ℕ) (at : ℕ) (w : List ℕ) (j : ℕ) : Type 0 where
  pub i : ℕ
  pub short : i < length w
  pub j_is : j ≡ at + i
  pub before : Letters text at w i
  pub not_here : ¬ Stands text (at + i) (byte_at w i)

pub record Spelt (text : List ℕ) (at : ℕ) (w : List ℕ) (q : ℕ) : Type 0 where
  pub q_is : q ≡ at + length w
  pub inside : q ≤ length text
  pub all : Letters text at w (length w)

-- the word stands from `at` to the place answered; or it breaks at the one where the text stops
pub record SpeltAt (text : List ℕ) (at : ℕ) (w : List ℕ) (r : Result ℕ Stopped) : Type 0 where
  pub says : MatchResult r (Spelt text at w) (λ s. Broken text at w s.at)
