-- Records and guards that are alike: a record is known by its eight bytes, a guard by the expressions up to it.
-- Assumes nothing.
use mathlib.Core.Path.{◌≡◌, refl, sym, ◌∙◌}
use mathlib.Core.List.{List, ◌++◌}
use native.Mathlib.Nat.{add-zero}
use native.Mathlib.Omega.{arith}
use Prim.Native.Nat.{ℕ, zero, suc, ◌+◌, ◌≤◌, ◌<◌}
use lib.ListN.{length, get_or-append}
use lib.Seq.{get_or-append-add}
use Rattle.meaning.specs.declared.Expression.{Expression}
use Rattle.meaning.specs.Guards.{truths, truth}
use Rattle.stored.specs.Bytes.{byte_at, u16_at}
use Rattle.stored.specs.Decoding.{expression_at, clause_at}

-- the eight bytes from here on in s are those from there on in s'
pub record Alike (s : List ℕ) (here : ℕ) (s' : List ℕ) (there : ℕ) : Type 0 where
  pub byte : (o : ℕ) → o < 8 → byte_at s (here + o) ≡ byte_at s' (there + o)

pub alike_trans : {s t u : List ℕ} {i j k : ℕ} → Alike s i t j → Alike t j u k → Alike s i u k
alike_trans a b = record { byte = λ o h. a.byte o h ∙ b.byte o h }

pub alike_sym : {s t : List ℕ} {i j : ℕ} → Alike s i t j → Alike t j s i
alike_sym a = record { byte = λ o h. sym (a.byte o h) }

-- in the first of two lists, and in the second
pub alike_first : (a b : List ℕ) (i : ℕ) → i + 8 ≤ length a → Alike (a ++ b) i a i
alike_first a b i l = record { byte = λ o h. get_or-append a b 0 (i + o) (omega arith) }

pub alike_second : (a b : List ℕ) (i k : ℕ) → i ≡ length a + k → Alike (a ++ b) i b k
alike_second a b i k e = record { byte = λ o h. let p : i + o ≡ length a + (k + o) = omega arith in rw p (get_or-append-add a b (k + o) 0) }

module _ {s s' : List ℕ} {i k : ℕ} (a : Alike s i s' k) where
  pub first_byte : byte_at s i ≡ byte_at s' k
  first_byte = rw (add-zero i, add-zero k) at (a.byte 0 (omega arith))

  number : (o : ℕ) → o < 7 → u16_at s (i + o) ≡ u16_at s' (k + o)
  number o h =
      let p : i + o + 1 ≡ i + (o + 1) = omega arith in
      let q : k + o + 1 ≡ k + (o + 1) = omega arith in
      rw (p, q, a.byte o (omega arith), a.byte (o + 1) (omega arith))

  pub same_expression : expression_at s i ≡ expression_at s' k
  unfolding expression_at
  same_expression = rw (first_byte, number 2 (omega arith), number 4 (omega arith))

  pub same_clause : clause_at s i ≡ clause_at s' k
  unfolding clause_at
  same_clause = rw (first_byte, a.byte 1 (omega arith), number 2 (omega arith), number 4 (omega arith), number 6 (omega arith))

-- the truth of a guard goes by the expressions up to it
module _ (es es' : ℕ → Expression) (x : ℕ) where
  truths_same : (n : ℕ) → ((i : ℕ) → i < n → es i ≡ es' i) → truths es x n ≡ truths es' x n
  unfolding truths
  truths_same zero h = refl
  truths_same (suc n) h = rw (truths_same n (λ i l. h i (omega arith)), h n (omega arith))

  pub truth_same : (g : ℕ) → ((i : ℕ) → i ≤ g → es i ≡ es' i) → truth es x g ≡ truth es' x g
  unfolding truth
  truth_same g h = rw (truths_same g (λ i l. h i (omega arith)), h g (omega arith))
