-- Reading refuses exactly where something is broken: with the lowest number whose condition holds, at the lowest place where it does.
-- Each stage of the table fails just where its number's condition holds, and the table's numbers and places rise.
-- Assumes nothing.
use borrow.Author.Tests.{ltb-false, leb-false, eqb-false, ne_eqb, lt-leb, le-ltb}
use mathlib.Core.Path.{◌≡◌, refl, sym, ap, subst, subst₃}
use mathlib.Core.Logic.{◌≢◌, ◌⊎◌, inl, inr, ⊎_elim, ◌↔◌}
use mathlib.Core.Bool.{Bool, true, false, ◌&&◌, ◌||◌}
use mathlib.Core.List.{List, [], ◌∷◌}
use native.Mathlib.Omega.{arith}
use Prim.Native.Nat.{ℕ, ◌+◌, ◌*◌, ◌/◌, ◌%◌, ◌≤◌, ◌<◌}
use lib.Dec.{eqb, leb, ltb}
use Rattle.scans.specs.Refusals.{Stage, WrongAt, Wrong, Lower, Refuses, Rising}
use Rattle.scans.proofs.Bools.{both_ways, is_true, is_false}
use Rattle.scans.proofs.Search.{each_e, each_not}
use Rattle.scans.proofs.Exactly.{exactly, accepted}
use Rattle.stored.specs.declared.Size.{Size}
use Rattle.stored.specs.Bytes.{byte_at}
use Rattle.stored.specs.Layout.{Records, sizes_of, first_expressions, first_clauses, kind_of, used_of, header_sizes, records_of}
use Rattle.stored.specs.Rules.{node_ok, expression_ok, clause_ok}
use Rattle.stored.specs.Reading.{length_ok, sum_ok, number_ok, header_ok, count_ok, block_ok, rest_byte_ok, rest_ok, per_record, record_stages, read_stages, refused, accepted_as, read_answer}
use Rattle.stored.specs.Broken.{blocks_in, Limits, Broken, LENGTH, CHECK, NUMBER, HEADER, COUNT, BLOCK, REST, GATE, EXPRESSION, CLAUSE, RefusedAs}
use Rattle.stored.proofs.RuleTests.{limits_rule, node_rule, expression_rule, clause_rule}
use Rattle.stored.proofs.Accepted.{refused_done, read_sizes}

-- what a test that is false says
denies : {P : Type 0} (a : Bool) → (a ≡ true) ↔ P → (a ≡ false) ↔ (¬ P)
denies a p = (λ f x. both_ways (p.1 x) f, λ h. is_false a (λ t. h (p.0 (is_true a t))))

and_denies : {P Q : Type 0} (a b : Bool) → (a ≡ false) ↔ P → (b ≡ false) ↔ Q → (a && b ≡ false) ↔ (P ⊎ Q)
and_denies true b p q = (λ f. inr (q.0 f), ⊎_elim (λ x. both_ways refl (p.1 x)) q.1)
and_denies false b p q = (λ f. inl (p.0 f), λ x. refl)

or_denies : {P Q : Type 0} (a b : Bool) → (a ≡ false) ↔ P → (b ≡ false) ↔ Q → (a || b ≡ false) ↔ (P × Q)
or_denies true b p q = (λ f. both_ways refl f, λ x. p.1 x.0)
or_denies false b p q = (λ f. (p.0 refl, q.0 f), λ x. q.1 x.1)

eq_denies : (x y : ℕ) → (eqb x y ≡ false) ↔ (x ≢ y)
eq_denies x y = (eqb-false x y, ne_eqb x y)

-- 1 LENGTH
length_denies : (n : ℕ) → (length_ok n ≡ false) ↔ ((n ≡ 0) ⊎ ((16896 < n) ⊎ (n % 512 ≢ 0)))
unfolding length_ok
length_denies n =
    and_denies (leb 1 n) _ (λ f. omega (arith, leb-false), λ e. lt-leb 1 n (omega arith))
    (and_denies (leb n 16896) _ (leb-false n 16896, lt-leb n 16896) (eq_denies (n % 512) 0))

-- 4 HEADER
header_denies : (s : List ℕ) → (header_ok s ≡ false) ↔ ((byte_at s 2 ≢ 1) ⊎ ((byte_at s 3 ≢ 1) ⊎ ((byte_at s 4 ≢ 1) ⊎ (¬ (Limits (header_sizes s))))))
unfolding header_ok
header_denies s =
    and_denies (eqb (byte_at s 2) 1) _ (eq_denies _ _)
    (and_denies (eqb (byte_at s 3) 1) _ (eq_denies _ _) (and_denies (eqb (byte_at s 4) 1) _ (eq_denies _ _) (denies _ (limits_rule (header_sizes s)))))

-- 6 BLOCK
block_denies : (s : List ℕ) (b : ℕ) → (block_ok s b ≡ false) ↔ ((byte_at s (512 * b + 2) ≢ kind_of (header_sizes s) b) ⊎ (byte_at s (512 * b + 3) ≢ used_of (header_sizes s) b))
unfolding block_ok
block_denies s b = and_denies (eqb (byte_at s (512 * b + 2)) (kind_of (header_sizes s) b)) _ (eq_denies _ _) (eq_denies _ _)

-- 7 REST
rest_byte_denies : (s : List ℕ) (b o : ℕ) → (rest_byte_ok s b o ≡ false) ↔ ((8 * byte_at s (512 * b + 3) ≤ o) × (byte_at s (512 * b + 4 + o) ≢ 0))
unfolding rest_byte_ok
rest_byte_denies s b o = or_denies (ltb o (8 * byte_at s (512 * b + 3))) _ (ltb-false _ _, le-ltb _ _) (eq_denies _ _)

rest_denies : (s : List ℕ) (b : ℕ) → (rest_ok s b ≡ false) ↔ ((o : ℕ) × (8 * byte_at s (512 * b + 3) ≤ o) × (o < 504) × (byte_at s (512 * b + 4 + o) ≢ 0))
unfolding rest_ok
rest_denies s b = (there, λ x. is_false _ (λ t. both_ways (each_e (rest_byte_ok s b) 504 t x.0 x.2) ((rest_byte_denies s b x.0).1 (x.1, x.3))))
  where
    there : rest_ok s b ≡ false → (o : ℕ) × (8 * byte_at s (512 * b + 3) ≤ o) × (o < 504) × (byte_at s (512 * b + 4 + o) ≢ 0)
    there f =
        let w = each_not (rest_byte_ok s b) 504 f in
        let d = (rest_byte_denies s b w.0).0 w.1.fails in
        (w.0, d.0, w.1.below, d.1)

-- a stage is wrong where its test fails
wrong_at : (st : Stage) (i : ℕ) → i < st.count → st.ok i ≡ false → (st.number ≡ st.number) × WrongAt st (st.block i) (st.slot i)
wrong_at st i h f = (refl, record { at = i; below = h; fails = f; block_is = refl; slot_is = refl })

-- and nowhere else: what follows from each failure of its test follows, if it does from the stages after it
wrong_or : (P : ℕ → ℕ → ℕ → Type 0) {R : Type 0} {number block slot : ℕ} (st : Stage) → ((i : ℕ) → i < st.count → st.ok i ≡ false → P st.number (st.block i) (st.slot i)) → (R → P number block slot)
    → ((st.number ≡ number) × WrongAt st block slot) ⊎ R → P number block slot
wrong_or P st here later (inl (e, w)) = subst₃ P e w.block_is w.slot_is (here w.at w.below w.fails)
wrong_or P st here later (inr w) = later w

-- the stages of the records, which stand last in the table, counted by sizes that may be the header's
abbrev stages_by : Size → Records → List Stage
stages_by z r =
    per_record 8 1 z.n (λ i. node_ok z.n r.nodes (8 * i))
    ∷ per_record 9 (first_expressions z) z.e (λ i. expression_ok z.k i r.expressions (8 * i))
    ∷ per_record 10 (first_clauses z) z.c (λ i. clause_ok z.n z.e r.clauses (8 * i))
    ∷ []

module _ (s : List ℕ) where
  -- each stage's failure is its number's condition
  records_broken : {number block slot : ℕ} → Wrong (stages_by (header_sizes s) (records_of s)) number block slot → Broken s number block slot
  records_broken =
      wrong_or (Broken s) _ (λ i h f. GATE i h ((denies _ (node_rule _ _ _)).0 f))
      (wrong_or (Broken s) _ (λ i h f. EXPRESSION i h ((denies _ (expression_rule _ _ _ _)).0 f))
      (wrong_or (Broken s) _ (λ i h f. CLAUSE i h ((denies _ (clause_rule _ _ _ _)).0 f)) (λ w. absurd w)))

  broken_of : {number block slot : ℕ} → Wrong (read_stages s (blocks_in s)) number block slot → Broken s number block slot
  unfolding sum_ok number_ok count_ok
  broken_of {number} {block} {slot} =
      wrong_or (Broken s) _ (λ i h f. LENGTH ((length_denies _).0 f))
      (wrong_or (Broken s) _ (λ b h f. CHECK b h (eqb-false _ _ f))
      (wrong_or (Broken s) _ (λ b h f. NUMBER b h (eqb-false _ _ f))
      (wrong_or (Broken s) _ (λ i h f. HEADER ((header_denies s).0 f))
      (wrong_or (Broken s) _ (λ i h f. COUNT (eqb-false _ _ f))
      (wrong_or (Broken s) _ (λ b h f. BLOCK b h ((block_denies s b).0 f))
      (wrong_or (Broken s) _ (λ b h f. let x = (rest_denies s b).0 f in REST b x.0 h x.1 x.2 x.3)
      (subst (λ z. Wrong (stages_by z (records_of s)) number block slot → Broken s number block slot) (sym (read_sizes s)) records_broken)))))))

  -- and each condition fails its stage
  records_wrong : (number block slot : ℕ) → Wrong (stages_by (header_sizes s) (records_of s)) number block slot → Wrong (read_stages s (blocks_in s)) number block slot
  records_wrong number block slot w =
      inr (inr (inr (inr (inr (inr (inr (subst (λ z. Wrong (stages_by z (records_of s)) number block slot) (sym (read_sizes s)) w)))))))

  wrong_of : {number block slot : ℕ} → Broken s number block slot → Wrong (read_stages s (blocks_in s)) number block slot
  unfolding sum_ok number_ok count_ok
  wrong_of (LENGTH x) = inl (wrong_at _ 0 (omega arith) ((length_denies _).1 x))
  wrong_of (CHECK b h x) = inr (inl (wrong_at _ b h (ne_eqb _ _ x)))
  wrong_of (NUMBER b h x) = inr (inr (inl (wrong_at _ b h (ne_eqb _ _ x))))
  wrong_of (HEADER x) = inr (inr (inr (inl (wrong_at _ 0 (omega arith) ((header_denies s).1 x)))))
  wrong_of (COUNT x) = inr (inr (inr (inr (inl (wrong_at _ 0 (omega arith) (ne_eqb _ _ x))))))
  wrong_of (BLOCK b h x) = inr (inr (inr (inr (inr (inl (wrong_at _ b h ((block_denies s b).1 x)))))))
  wrong_of (REST b o h l u x) = inr (inr (inr (inr (inr (inr (inl (wrong_at _ b h ((rest_denies s b).1 (o, l, u, x)))))))))
  wrong_of (GATE i h x) = records_wrong _ _ _ (inl (wrong_at _ i h ((denies _ (node_rule _ _ _)).1 x)))
  wrong_of (EXPRESSION i h x) = records_wrong _ _ _ (inr (inl (wrong_at _ i h ((denies _ (expression_rule _ _ _ _)).1 x))))
  wrong_of (CLAUSE i h x) = records_wrong _ _ _ (inr (inr (inl (wrong_at _ i h ((denies _ (clause_rule _ _ _ _)).1 x)))))

-- a number is wrong in the table where its condition holds of the job
pub wrong_broken : (s : List ℕ) (number block slot : ℕ) → Wrong (read_stages s (blocks_in s)) number block slot ↔ Broken s number block slot
wrong_broken s number block slot = (broken_of s, wrong_of s)

-- places do not fall: in a test of the whole, of blocks, of records
whole_place : (i k : ℕ) → i < k → k < 1 → ¬ (Lower 0 0 0 0)
whole_place i k h l w = omega arith

block_place : {n : ℕ} (i k : ℕ) → i < k → k < n → ¬ (Lower k 0 i 0)
block_place i k h l (inl w) = omega arith
block_place i k h l (inr w) = omega arith

record_place : (first : ℕ) {n : ℕ} (i k : ℕ) → i < k → k < n → ¬ (Lower (first + k / 63) (k % 63) (first + i / 63) (i % 63))
record_place first i k h l (inl w) = omega arith
record_place first i k h l (inr w) = omega arith

records_rise : (r : Records) → Rising 7 (record_stages r)
records_rise r = (omega arith, record_place 1, (omega arith, record_place (first_expressions (sizes_of r)), (omega arith, record_place (first_clauses (sizes_of r)), tt)))

-- so the table is in order
pub table_rises : (s : List ℕ) → Rising 0 (read_stages s (blocks_in s))
table_rises s =
    (omega arith, whole_place, (omega arith, block_place, (omega arith, block_place, (omega arith, whole_place, (omega arith, whole_place, (omega arith, block_place, (omega arith, block_place, records_rise (records_of s))))))))

-- refusals of different numbers or places differ
one_refused : (m b l m' b' l' : ℕ) → refused m b l ≡ refused m' b' l' → (m ≡ m') × (b ≡ b') × (l ≡ l')
one_refused m b l m' b' l' e = let x = ap (λ a. a.numbers) e in (cc, cc, cc)

module _ (s : List ℕ) where
  -- reading refuses exactly so: this number's condition holds there, at no lower place, and no lower number's anywhere
  pub refused_iff : (number block slot : ℕ) → (read_answer s ≡ refused number block slot) ↔ RefusedAs s number block slot
  unfolding read_answer
  refused_iff number block slot = (λ e. said (table.0 e), λ r. table.1 (found r))
    where
      table : (read_answer s ≡ refused number block slot) ↔ Refuses (read_stages s (blocks_in s)) number block slot
      table = exactly refused (accepted_as (header_sizes s)) one_refused refused_done (read_stages s (blocks_in s)) 0 (table_rises s) number block slot

      said : Refuses (read_stages s (blocks_in s)) number block slot → RefusedAs s number block slot
      said r = record { broken = broken_of s r.wrong; lowest = λ b l h x. r.lowest b l h (wrong_of s x); first = λ m b l h x. r.first m b l h (wrong_of s x) }

      found : RefusedAs s number block slot → Refuses (read_stages s (blocks_in s)) number block slot
      found r = record { wrong = wrong_of s r.broken; lowest = λ b l h x. r.lowest b l h (broken_of s x); first = λ m b l h x. r.first m b l h (broken_of s x) }

  -- and accepts exactly where nothing is broken
  pub accepted_nothing : (read_answer s ≡ accepted_as (header_sizes s)) ↔ ((number block slot : ℕ) → ¬ (Broken s number block slot))
  unfolding read_answer
  accepted_nothing = (λ e m b l x. table.0 e m b l (wrong_of s x), λ h. table.1 (λ m b l w. h m b l (broken_of s w)))
    where
      table : (read_answer s ≡ accepted_as (header_sizes s)) ↔ ((number block slot : ℕ) → ¬ (Wrong (read_stages s (blocks_in s)) number block slot))
      table = accepted refused (accepted_as (header_sizes s)) one_refused refused_done (read_stages s (blocks_in s))
