-- Where the records of a text stand: those of each guard, the last its own, one guard after the other, and the clauses' own.
-- Assumes nothing.
use mathlib.Core.Path.{◌≡◌, refl, sym, ◌∙◌, ap}
use mathlib.Core.Bool.{true}
use mathlib.Core.List.{List, [], ◌∷◌, ◌++◌, append_assoc, append-nil}
use native.Mathlib.Nat.{add_assoc, add-zero, zero-add}
use native.Mathlib.Omega.{arith}
use Prim.Native.Nat.{ℕ, suc, ◌+◌, ◌*◌, ◌≤◌, ◌<◌}
use lib.ListN.{length, drop}
use lib.Seq.{get_or-drop, drop-drop}
use Rattle.stored.specs.Bytes.{byte_at, u16_at}
use Rattle.stored.specs.Broken.{Limits}
use Rattle.stored.proofs.RuleTests.{limits_rule}
use Rattle.stored.proofs.ByteLaws.{of_digits_2}
use Rattle.grammar.specs.Items.{Operator}
use Rattle.grammar.specs.Guards.{Guard, letter, constant, complement, bracketed, joined, OperandsIn, size}
use Rattle.grammar.specs.Grammar.{Clause, Text, ClauseFits, EachFits, sizes, Reads, limits}
use Rattle.grammar.specs.Records.{expression_record, op_of, guard_place, guard_records, list_expressions, clause_bytes, list_clauses, text_expressions, text_clauses}

-- expression i of these records
pub record ExpressionIs (s : List ℕ) (i op a b : ℕ) : Type 0 where
  pub op_is : byte_at s (8 * i) ≡ op
  pub zero : byte_at s (8 * i + 1) ≡ 0
  pub first : u16_at s (8 * i + 2) ≡ a
  pub second : u16_at s (8 * i + 4) ≡ b
  pub last : u16_at s (8 * i + 6) ≡ 0

-- clause i of these records, its guard at this place
pub record ClauseIs (s : List ℕ) (i side : ℕ) (c : Clause) (guard : ℕ) : Type 0 where
  pub side_is : byte_at s (8 * i) ≡ side
  pub value : byte_at s (8 * i + 1) ≡ c.value
  pub node : u16_at s (8 * i + 2) ≡ c.node
  pub time : u16_at s (8 * i + 4) ≡ c.time
  pub guard_is : u16_at s (8 * i + 6) ≡ guard

-- a guard's records stand from this place on, its operands within 01's bounds
pub data GuardPlaced (k : ℕ) (s : List ℕ) : ℕ → Guard → Type 0 where
  of_letter : {e i : ℕ} → i < k → ExpressionIs s e 2 i 0 → GuardPlaced k s e (letter i)
  of_constant : {e v : ℕ} → v < 2 → ExpressionIs s e v 0 0 → GuardPlaced k s e (constant v)
  of_complement : {e : ℕ} {g : Guard} → GuardPlaced k s e g → ExpressionIs s (e + size g) 3 (guard_place e g) 0 → GuardPlaced k s e (complement g)
  of_bracketed : {e : ℕ} {g : Guard} → GuardPlaced k s e g → GuardPlaced k s e (bracketed g)
  of_joined : {e : ℕ} {o : Operator} {g h : Guard} → GuardPlaced k s e g → GuardPlaced k s (e + size g) h
      → ExpressionIs s (e + size g + size h) (op_of o) (guard_place e g) (guard_place (e + size g) h) → GuardPlaced k s e (joined o g h)

-- those of a list of clauses that fit: its guards' from the first place on, its own from the second
pub data ListPlaced (k n side : ℕ) (es cs : List ℕ) : ℕ → ℕ → List Clause → Type 0 where
  none : {e j : ℕ} → ListPlaced k n side es cs e j []
  one : {e j : ℕ} {c : Clause} {l : List Clause} → ClauseFits k n c → GuardPlaced k es e c.guard → ClauseIs cs j side c (guard_place e c.guard) → ListPlaced k n side es cs (e + size c.guard) (suc j) l
      → ListPlaced k n side es cs e j (c ∷ l)

pub some_size : (g : Guard) → 1 ≤ size g
unfolding size
some_size (letter i) = omega arith
some_size (constant v) = omega arith
some_size (complement g) = omega arith
some_size (bracketed g) = some_size g
some_size (joined o g h) = omega arith

-- bytes past a place are those of what stands from there on
module _ (s : List ℕ) (at : ℕ) {r : List ℕ} (e : drop at s ≡ r) where
  byte_of_lem : (j : ℕ) → byte_at s (at + j) ≡ byte_at r j
  byte_of_lem j = sym (get_or-drop at s j 0) ∙ ap (λ l. byte_at l j) e

  first_of : byte_at s at ≡ byte_at r 0
  first_of = rw add-zero at (byte_of_lem 0)

  u16_of : (j : ℕ) → u16_at s (at + j) ≡ u16_at r j
  u16_of j = rw (add_assoc at j 1, byte_of_lem j, byte_of_lem (j + 1))

-- the eight bytes at place i
module _ {s : List ℕ} {i : ℕ} {rest : List ℕ} where
  expression_is : {op a b : ℕ} → a < 65536 → b < 65536 → drop (8 * i) s ≡ expression_record op a b ++ rest → ExpressionIs s i op a b
  expression_is {a = a} {b} l m e =
      record {
        op_is = first_of s (8 * i) e;
        zero = byte_of_lem s (8 * i) e 1;
        first = u16_of s (8 * i) e 2 ∙ of_digits_2 a l;
        second = u16_of s (8 * i) e 4 ∙ of_digits_2 b m;
        last = u16_of s (8 * i) e 6;
      }

  clause_is : {side guard : ℕ} (c : Clause) → c.node < 65536 → c.time < 65536 → guard < 65536 → drop (8 * i) s ≡ clause_bytes side c.value c.node c.time guard ++ rest → ClauseIs s i side c guard
  clause_is {guard = guard} c l m o e =
      record {
        side_is = first_of s (8 * i) e;
        value = byte_of_lem s (8 * i) e 1;
        node = u16_of s (8 * i) e 2 ∙ of_digits_2 c.node l;
        time = u16_of s (8 * i) e 4 ∙ of_digits_2 c.time m;
        guard_is = u16_of s (8 * i) e 6 ∙ of_digits_2 guard o;
      }

-- what comes after them
next_record : (s : List ℕ) (i j : ℕ) {r : List ℕ} → j ≡ suc i → drop (8 * i) s ≡ r → drop (8 * j) s ≡ drop 8 r
next_record s i j z e = let y : 8 * j ≡ 8 * i + 8 = omega arith in rw y (sym (drop-drop 8 (8 * i) s) ∙ ap (drop 8) e)

-- a guard's records at the front of what stands from place e on, and what comes after them
guard_at : {k : ℕ} (s : List ℕ) (e : ℕ) (g : Guard) {rest : List ℕ} → k ≤ 12 → OperandsIn k g → e + size g ≤ 504 → drop (8 * e) s ≡ guard_records e g ++ rest
    → GuardPlaced k s e g × (drop (8 * (e + size g)) s ≡ rest)
unfolding guard_records OperandsIn size
guard_at s e (letter i) few o room d = (of_letter o (expression_is (omega arith) (omega arith) d), next_record s e (e + 1) (omega arith) d)
guard_at s e (constant v) few o room d = (of_constant o (expression_is (omega arith) (omega arith) d), next_record s e (e + 1) (omega arith) d)
guard_at s e (complement g) few o room d =
    let (placed, d₁) = guard_at s e g few o (omega arith) (rw append_assoc at d) in
    (of_complement placed (expression_is (omega arith) (omega arith) d₁), next_record s (e + size g) (e + suc (size g)) (omega arith) d₁)
guard_at s e (bracketed g) few o room d = let (placed, d₁) = guard_at s e g few o room d in (of_bracketed placed, d₁)
guard_at s e (joined o g h) few os room d =
    let (left, d₁) = guard_at s e g few os.0 (omega arith) (simp append_assoc at d) in
    let (right, d₂) = guard_at s (e + size g) h few os.1 (omega arith) d₁ in
    (of_joined left right (expression_is (omega arith) (omega arith) d₂), next_record s (e + size g + size h) (e + suc (size g + size h)) (omega arith) d₂)

-- the same of a list
module _ (k n : ℕ) (es cs : List ℕ) (few : k ≤ 12) (small : n ≤ 1008) where
  list_at : (side e j : ℕ) (l : List Clause) (after-es after-cs : List ℕ) → EachFits k n l → e + sizes l ≤ 504
      → drop (8 * e) es ≡ list_expressions e l ++ after-es → drop (8 * j) cs ≡ list_clauses side e l ++ after-cs
      → ListPlaced k n side es cs e j l × (drop (8 * (e + sizes l)) es ≡ after-es) × (drop (8 * (j + length l)) cs ≡ after-cs)
  unfolding EachFits sizes list_expressions list_clauses
  list_at side e j [] after-es after-cs fits room d f = (none, rw add-zero d, rw add-zero f)
  list_at side e j (c ∷ l) after-es after-cs fits room d f =
      let (guard, d₁) = guard_at es e c.guard few fits.0.operands (omega arith) (rw append_assoc at d) in
      let (placed, d₂, f₂) = list_at side (e + size c.guard) (suc j) l after-es after-cs fits.1 (omega arith) d₁ (next_record cs j (suc j) refl f) in
      let j_is : j + suc (length l) ≡ suc j + length l = omega arith in
      (one fits.0 guard (clause_is c (omega (arith, fits.0.in_row)) (omega (arith, fits.0.in_time)) (omega arith) f) placed, rw (← add_assoc) d₂, rw j_is f₂)

-- the records of a text that reads, within the limits
pub record TextPlaced (k n : ℕ) (t : Text) : Type 0 where
  pub given : ListPlaced k n 0 (text_expressions t) (text_clauses t) 0 0 t.given
  pub expect : ListPlaced k n 1 (text_expressions t) (text_clauses t) (sizes t.given) (length t.given) t.expect

pub text_placed : (k n : ℕ) (t : Text) {s : List ℕ} → limits k n ≡ true → Reads k n t s → TextPlaced k n t
unfolding text_expressions text_clauses
text_placed k n t l r =
    let kept : Limits _ = (limits_rule (record { k = k; n = n; e = 0; c = 0 })).0 l in
    let at = list_at k n (text_expressions t) (text_clauses t) kept.k_most kept.n_most in
    let (given, d, f) = at 0 0 0 t.given (list_expressions (sizes t.given) t.expect) (list_clauses 1 (sizes t.given) t.expect) r.given_fits (omega (arith, r.few_expressions)) refl refl in
    let (expect, _, _) = at 1 (sizes t.given) (length t.given) t.expect [] [] r.expect_fits r.few_expressions (rw append-nil (rw zero-add at d)) (rw append-nil (rw zero-add at f)) in
    record { given = given; expect = expect }
