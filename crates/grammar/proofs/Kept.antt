-- The records of a text that reads keep 01's rules: with nodes that keep theirs they are packed, never refused.
-- Assumes nothing.
use mathlib.Core.Path.{◌≡◌, refl}
use mathlib.Core.Bool.{true}
use mathlib.Core.List.{List}
use native.Mathlib.Decide.{dec_lt}
use native.Mathlib.Nat.{add_assoc, zero-add}
use native.Mathlib.Omega.{arith}
use Prim.Native.Nat.{ℕ, suc, ◌+◌, ◌*◌, ◌/◌, ◌≤◌, ◌<◌}
use lib.ListN.{length}
use Rattle.scans.proofs.Bools.{says}
use Rattle.stored.specs.Layout.{Records, sizes_of, blocks_of}
use Rattle.stored.specs.Rules.{node_ok}
use Rattle.stored.specs.Broken.{Limits, ExpressionRule, ClauseRule}
use Rattle.stored.specs.Packing.{lists_ok, written, pack_answer, Keeps}
use Rattle.stored.proofs.RuleTests.{limits_rule, expression_rule, clause_rule}
use Rattle.stored.proofs.PackRefusals.{pack_accepts}
use Rattle.grammar.specs.Items.{Operator, AND, XOR, OR}
use Rattle.grammar.specs.Guards.{Guard, size}
use Rattle.grammar.specs.Grammar.{Clause, Text, sizes, Reads, limits}
use Rattle.grammar.specs.Records.{op_of, text_expressions, text_clauses}
use Rattle.grammar.proofs.Counted.{expressions_count, clauses_count}
use Rattle.grammar.proofs.Placed.{GuardPlaced, of_letter, of_constant, of_complement, of_bracketed, of_joined, some_size, ListPlaced, none, one, text_placed}

-- it holds from a on, below b
abbrev From : (ℕ → Type 0) → ℕ → ℕ → Type 0
From P a b = (i : ℕ) → a ≤ i → i < b → P i

module _ (P : ℕ → Type 0) where
  here : {a b : ℕ} → b ≡ suc a → P a → From P a b
  here {a} z p i l h = let e : i ≡ a = omega arith in rw e p

  onward : (a b c : ℕ) → From P a b → From P b c → From P a c
  onward a b c f g i l h = go (dec_lt i b)
    where
      go : Dec (i < b) → P i
      go (yes m) = f i l m
      go (no m) = g i (omega arith) h

op_range : (o : Operator) → (4 ≤ op_of o) × (op_of o ≤ 6)
op_range AND = omega arith
op_range XOR = omega arith
op_range OR = omega arith

guard_keeps : {k : ℕ} {s : List ℕ} {e : ℕ} {g : Guard} → GuardPlaced k s e g → From (λ i. ExpressionRule k i s (8 * i)) e (e + size g)
unfolding size
guard_keeps (of_letter l x) = here _ (omega arith) (omega arith)
guard_keeps (of_constant l x) = here _ (omega arith) (omega arith)
guard_keeps (of_complement {e} {g} d x) = onward _ e (e + size g) _ (guard_keeps d) (here _ (omega arith) (omega (arith, some_size g)))
guard_keeps (of_bracketed d) = guard_keeps d
guard_keeps (of_joined {e} {o} {g} {h} c d x) =
    onward _ e (e + size g) _ (guard_keeps c) (onward _ _ (e + size g + size h) _ (guard_keeps d) (here _ (omega arith) (omega (arith, some_size g, some_size h, op_range o))))

module _ {k n side : ℕ} {es cs : List ℕ} where
  expressions_keep : {e j : ℕ} {l : List Clause} → ListPlaced k n side es cs e j l → From (λ i. ExpressionRule k i es (8 * i)) e (e + sizes l)
  unfolding sizes
  expressions_keep none = λ i l h. absurd (omega arith)
  expressions_keep (one {e} {c = c} f d x m) = rw (← add_assoc) (onward _ e (e + size c.guard) _ (guard_keeps d) (expressions_keep m))

  clauses_keep : (m : ℕ) {e j : ℕ} {l : List Clause} → side ≤ 1 → e + sizes l ≤ m → ListPlaced k n side es cs e j l → From (λ i. ClauseRule n m cs (8 * i)) j (j + length l)
  unfolding sizes
  clauses_keep m b few none = λ i l h. absurd (omega arith)
  clauses_keep m b few (one {j = j} {c} f d x p) =
      let r = clauses_keep m b (omega arith) p in
      onward _ j (suc j) _ (here _ refl (omega (arith, f, some_size c.guard))) (λ i l h. r i l (omega arith))

-- the records of a job with these nodes
abbrev pub text_records : ℕ → List ℕ → Text → Records
text_records k nodes t = record { k = k; nodes = nodes; expressions = text_expressions t; clauses = text_clauses t }

module _ {k n : ℕ} {t : Text} {s : List ℕ} (nodes : List ℕ) (in_limits : limits k n ≡ true) (reads : Reads k n t s) (count : length nodes ≡ 8 * n) (rules : (i : ℕ) → i < n → node_ok n nodes (8 * i) ≡ true) where
  pub text_keeps : Keeps (text_records k nodes t)
  unfolding lists_ok
  text_keeps =
      let kept : Limits _ = (limits_rule (record { k = k; n = n; e = 0; c = 0 })).0 in_limits in
      let placed = text_placed k n t in_limits reads in
      let es = expressions_count t in
      let cs = clauses_count t in
      let n_is : length nodes / 8 ≡ n = omega arith in
      let e_is : length (text_expressions t) / 8 ≡ sizes t.given + sizes t.expect = omega arith in
      let each-expression = onward _ 0 (sizes t.given) _ (rw zero-add at (expressions_keep placed.given)) (expressions_keep placed.expect) in
      let each-clause = onward _ 0 (length t.given) _ (rw zero-add at (clauses_keep (sizes t.given + sizes t.expect) (omega arith) (omega arith) placed.given)) (clauses_keep _ (omega arith) (omega arith) placed.expect) in
      record {
        lists = simp says (omega arith);
        limits = (limits_rule _).1 (omega (arith, kept, reads.few_expressions, reads.few_clauses));
        node = rw n_is rules;
        expression = λ i h. (expression_rule _ _ _ _).1 (each-expression i (omega arith) (omega arith));
        clause = λ i h. (clause_rule _ _ _ _).1 (rw (n_is, e_is) (each-clause i (omega arith) (omega arith)));
      }

  -- given room, they are written
  pub text_packs : (room : ℕ) → 512 * blocks_of (sizes_of (text_records k nodes t)) ≤ room → pack_answer (text_records k nodes t) room ≡ written (512 * blocks_of (sizes_of (text_records k nodes t)))
  text_packs room fits = (pack_accepts (text_records k nodes t) room).1 (text_keeps, fits)
