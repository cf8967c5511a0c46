-- The records of a text mean its guards: in each case, the expression that a clause's record names is as true as the clause's guard.
-- Assumes nothing.
use mathlib.Core.Path.{◌≡◌, refl, ◌∙◌}
use mathlib.Core.Bool.{Bool, true, false, not, ◌&&◌, ◌||◌, xor}
use mathlib.Core.List.{List, [], ◌∷◌, ◌++◌, append-nil}
use native.Mathlib.Decide.{dec_lt}
use native.Mathlib.Nat.{add-zero, zero-add}
use native.Mathlib.Omega.{arith}
use Prim.Native.Nat.{ℕ, zero, suc, ◌+◌, ◌*◌, ◌-◌, ◌<◌}
use lib.Dec.{eqb}
use lib.ListN.{length, get_or, length-append, get_or-append}
use lib.Seq.{get_or_at}
use Rattle.meaning.specs.declared.Expression.{Expression}
use Rattle.meaning.specs.declared.Expression.TheVariants.{False, True, Variable, Not, And, Or, Xor}
use Rattle.meaning.specs.Guards.{bit_of, truth_given, truths, truth}
use Rattle.stored.specs.Decoding.{expression_at, clause_at}
use Rattle.grammar.specs.Items.{Operator, AND as BOTH, XOR as DIFFERING, OR as EITHER}
use Rattle.grammar.specs.Guards.{Guard, letter, constant, complement, bracketed, joined, size}
use Rattle.grammar.specs.Grammar.{Clause, Text, Reads, limits}
use Rattle.grammar.specs.Records.{op_of, guard_place, text_expressions, text_clauses}
use Rattle.grammar.proofs.Placed.{ExpressionIs, GuardPlaced, of_letter, of_constant, of_complement, of_bracketed, of_joined, some_size, ListPlaced, none, one, text_placed}

abbrev pub combined : Operator → Bool → Bool → Bool
combined BOTH a b = a && b
combined DIFFERING a b = xor a b
combined EITHER a b = a || b

-- the truth of a guard in case x
unfoldable pub guard_truth : ℕ → Guard → Bool
guard_truth x (letter i) = bit_of x i
guard_truth x (constant v) = eqb v 1
guard_truth x (complement g) = not (guard_truth x g)
guard_truth x (bracketed g) = guard_truth x g
guard_truth x (joined o g h) = combined o (guard_truth x g) (guard_truth x h)

-- each earlier truth in the list is the truth of its expression
module _ (es : ℕ → Expression) (x : ℕ) where
  length_truths : (i : ℕ) → length (truths es x i) ≡ i
  unfolding truths
  length_truths zero = refl
  length_truths (suc i) = rw (length-append, length_truths i) (omega arith)

  earlier : (i m : ℕ) → m < i → get_or (truths es x i) m false ≡ truth es x m
  unfolding truths truth
  earlier zero m h = absurd (omega arith)
  earlier (suc i) m h = go (earlier i m) (dec_lt m i)
    where
      go : (m < i → get_or (truths es x i) m false ≡ truth es x m) → Dec (m < i) → get_or (truths es x (suc i)) m false ≡ truth es x m
      go f (yes l) = get_or-append (truths es x i) _ false m (omega (arith, length_truths i)) ∙ f l
      go f (no l) = let e : m ≡ i = omega arith in rw e (get_or_at (truths es x i) _ [] false i (length_truths i))

-- the expressions of a list of records
abbrev pub expressions_of : List ℕ → ℕ → Expression
expressions_of s i = expression_at s (8 * i)

decoded : {s : List ℕ} {i op a b : ℕ} → ExpressionIs s i op a b → expressions_of s i ≡ get_or (False ∷ True ∷ Variable a ∷ Not a ∷ And a b ∷ Or a b ∷ Xor a b ∷ []) op False
unfolding expression_at
decoded r = rw (r.op_is, r.first, r.second)

module _ (s : List ℕ) (x : ℕ) where
  constant_meant : (v : ℕ) {i : ℕ} → v < 2 → ExpressionIs s i v 0 0 → truth (expressions_of s) x i ≡ eqb v 1
  unfolding truth truth_given
  constant_meant zero h r = rw (decoded r)
  constant_meant (suc zero) h r = rw (decoded r)
  constant_meant (suc (suc v)) h r = absurd (omega arith)

  joined_meant : (o : Operator) {i a b : ℕ} → ExpressionIs s i (op_of o) a b → a < i → b < i → truth (expressions_of s) x i ≡ combined o (truth (expressions_of s) x a) (truth (expressions_of s) x b)
  unfolding truth truth_given
  joined_meant BOTH r l m = rw (decoded r, earlier _ x _ _ l, earlier _ x _ _ m)
  joined_meant DIFFERING r l m = rw (decoded r, earlier _ x _ _ l, earlier _ x _ _ m)
  joined_meant EITHER r l m = rw (decoded r, earlier _ x _ _ l, earlier _ x _ _ m)

  guard_meant : {k e : ℕ} {g : Guard} → GuardPlaced k s e g → truth (expressions_of s) x (guard_place e g) ≡ guard_truth x g
  unfolding truth truth_given guard_truth size
  guard_meant (of_letter {e} l r) = let z : e + 1 - 1 ≡ e = omega arith in rw (z, decoded r)
  guard_meant (of_constant {e} {v} l r) = let z : e + 1 - 1 ≡ e = omega arith in rw z (constant_meant v l r)
  guard_meant (of_complement {e} {g} d r) =
      let z : e + suc (size g) - 1 ≡ e + size g = omega arith in
      rw (z, decoded r, earlier _ x (e + size g) (guard_place e g) (omega (arith, some_size g)), guard_meant d)
  guard_meant (of_bracketed d) = guard_meant d
  guard_meant (of_joined {e} {o} {g} {h} c d r) =
      let z : e + suc (size g + size h) - 1 ≡ e + size g + size h = omega arith in
      rw z (joined_meant o r (omega (arith, some_size g, some_size h)) (omega (arith, some_size h)) ∙ rw (guard_meant c, guard_meant d))

-- the expression that clause record j names is as true in case x as the guard of c
abbrev pub Meant : List ℕ → List ℕ → ℕ → ℕ → Clause → Type 0
Meant es cs x j c = truth (expressions_of es) x (clause_at cs (8 * j)).guard ≡ guard_truth x c.guard

module _ (es cs : List ℕ) (x : ℕ) where
  -- clauses from record j on
  EachMeant : ℕ → List Clause → Type 0
  EachMeant j [] = Unit {0}
  EachMeant j (c ∷ l) = Meant es cs x j c × EachMeant (suc j) l

  list_meant : {k n side e j : ℕ} {l : List Clause} (m : List Clause) → ListPlaced k n side es cs e j l → EachMeant (j + length l) m → EachMeant j (l ++ m)
  unfolding EachMeant clause_at
  list_meant m none more = rw add-zero at more
  list_meant m (one {j = j} {l = l} f d c p) more = let z : j + suc (length l) ≡ suc j + length l = omega arith in (rw c.guard_is (guard_meant _ x d), list_meant m p (rw z at more))

  meant_at : (before : List Clause) (c : Clause) (after : List Clause) (j : ℕ) → EachMeant j (before ++ c ∷ after) → Meant es cs x (j + length before) c
  unfolding EachMeant
  meant_at [] c after j m = rw add-zero m.0
  meant_at (b ∷ before) c after j m = let z : j + suc (length before) ≡ suc j + length before = omega arith in rw z (meant_at before c after (suc j) m.1)

-- each clause of a text that reads, by its place among all clauses
pub guards_meant : {k n : ℕ} {t : Text} {s : List ℕ} → limits k n ≡ true → Reads k n t s → (before : List Clause) (c : Clause) (after : List Clause) → t.given ++ t.expect ≡ before ++ c ∷ after
    → (x : ℕ) → Meant (text_expressions t) (text_clauses t) x (length before) c
unfolding EachMeant
guards_meant {k} {n} {t} l r before c after e x =
    let placed = text_placed k n t l r in
    let expected = list_meant _ _ x [] placed.expect tt in
    let all = list_meant _ _ x t.expect placed.given (rw zero-add (rw append-nil at expected)) in
    rw zero-add at (meant_at _ _ x before c after 0 (rw e at all))
