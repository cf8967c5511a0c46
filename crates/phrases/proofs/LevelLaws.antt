-- How a guard is made up of what its levels read: operands, `!`, and groups in brackets.
-- Assumes nothing.
use mathlib.Core.Path.{◌≡◌, refl, sym, ◌∙◌, ap}
use mathlib.Core.List.{List, ◌∷◌, ◌++◌, append_assoc}
use native.Mathlib.Omega.{arith}
use Prim.Native.Nat.{ℕ, suc, ◌+◌, ◌*◌, ◌≤◌, ◌<◌}
use lib.ListN.{length, take, drop, length-append, take-append-drop}
use lib.Seq.{take-append_seam, take-length}
use Rattle.std.specs.Prelude.{Ok, Err}
use Rattle.phrases.specs.declared.items.Stopped.{Stopped}
use Rattle.phrases.specs.declared.guards.Operand.{Operand}
use Rattle.phrases.specs.declared.guards.Operand.TheVariants.{False, True, Variable}
use Rattle.phrases.specs.Operands.{OperandHere, NoOperand, operand_record}
use Rattle.grammar.specs.Guards.{Guard, letter, constant, complement, bracketed, size}
use Rattle.grammar.specs.Records.{expression_record, guard_place, guard_records}
use Rattle.grammar.specs.Points.{Frame, negating, grouping, groups, guarded, Point}
use Rattle.phrases.specs.Places.{Stands, Skips}
use Rattle.phrases.specs.GuardsRead.{in_phase, wanting, having, Over, GuardTo, GuardNone, GuardAt, GuardAsked, records_in}
use Rattle.grammar.proofs.Frames.{strength_to, fresh_grouping, fresh_4}
use Rattle.phrases.proofs.Feeding.{run_gaps}
use Rattle.phrases.proofs.OperandLaws.{letter_goes, constant_goes, wanting_stops}
use Rattle.phrases.proofs.FrameLaws.{not_goes, not_stops, negated_up, open_goes, open_stops, close_goes, close_stops}

over_4 : {text : List ℕ} {i q : ℕ} → Skips text i q → Over 4 text q
over_4 s = record { inside = s.inside; no_gap = s.ends; no_sign = λ h o l e. absurd (omega (arith, strength_to o)) }

-- the same count in other words
module _ (k n : ℕ) (text : List ℕ) (i : ℕ) (p : Point) (fs : List Frame) {a b : ℕ} (e : a ≡ b) where
  pub wanted : wanting k n text i p a fs ≡ wanting k n text i p b fs
  wanted = ap (λ u. wanting k n text i p u fs) e

  pub had : (g : Guard) → having k n text i p a fs g ≡ having k n text i p b fs g
  had g = ap (λ u. having k n text i p u fs g) e

-- one record more
pub one_record : (es r : List ℕ) {es' : List ℕ} → es' ≡ es ++ r → length r ≡ 8 → records_in es' ≡ records_in es + 1
one_record es r put l = omega (arith, ap length put, length-append es r)

-- what was read before stays in front
module _ {s r k depth pending i q : ℕ} {text es es₁ : List ℕ} (g : GuardTo s r k depth pending i text es es₁ q) where
  pub kept_by : take (length es) es₁ ≡ es
  kept_by = rw g.put (take-append_seam es (guard_records (records_in es) g.guard))

  -- and what comes after that leaves it there
  pub kept_then : (es₂ : List ℕ) → take (length es₁) es₂ ≡ es₁ → take (length es) es₂ ≡ es
  kept_then es₂ kept =
      let rest = drop (length es₁) es₂ in
      let all : es₂ ≡ es ++ (guard_records (records_in es) g.guard ++ rest) =
      sym (take-append-drop (length es₁) es₂) ∙ ap (λ l. l ++ rest) (kept ∙ g.put) ∙ append_assoc es (guard_records (records_in es) g.guard) rest in
      ap (take (length es)) all ∙ take-append_seam es (guard_records (records_in es) g.guard ++ rest)

pub guard_read : {s k depth pending i q : ℕ} {text es es' : List ℕ} → GuardTo s s k depth pending i text es es' q → GuardAt s k depth pending i text es es' (Ok q)
guard_read g = record { says = g; kept = kept_by g; few = omega (arith, g.few) }

-- nothing was read
pub guard_unread : {s k depth pending i : ℕ} {text es : List ℕ} {j : Stopped} → GuardAsked pending i text es → GuardNone s k depth pending i text es j.at → GuardAt s k depth pending i text es es (Err j)
guard_unread {es = es} asked g = record { says = g; kept = take-length es; few = omega (arith, asked.one_more) }

module _ {k depth pending i : ℕ} {text es : List ℕ} (asked : GuardAsked pending i text es) where
  -- an operand
  operand_to : {es' r : List ℕ} {q : ℕ} (g : Guard) → size g ≡ 1 → guard_records (records_in es) g ≡ r → length r ≡ 8
      → ((n : ℕ) (p : Point) (fs : List Frame) → wanting k n text i p (records_in es + pending) fs ≡ having k n text (i + 1) p (suc (records_in es + pending)) fs g)
      → es' ≡ es ++ r → Skips text (i + 1) q → GuardTo 4 4 k depth pending i text es es' q
  operand_to {es'} {r} {q} g one is eight goes put s =
      let more = one_record es r put eight in
      record {
        guard = g;
        past = omega (arith, s.forward);
        over = over_4 s;
        count = omega (arith, one, more);
        few = omega (arith, asked.one_more, more);
        put = put ∙ ap (λ l. es ++ l) (sym is);
        comes = λ n p fs d f. goes n p fs ∙ run_gaps k n text (in_phase p (suc (records_in es + pending)) (guarded fs g)) s ∙ had k n text q p fs (omega (arith, more)) g;
      }

  pub plain_to : (o : Operand) {es' : List ℕ} {q : ℕ} → k ≤ 12 → OperandHere k text i o → es' ≡ es ++ operand_record o → Skips text (i + 1) q → GuardTo 4 4 k depth pending i text es es' q
  unfolding size guard_records
  plain_to False few h = operand_to (constant 0) refl refl refl (λ n p fs. constant_goes k n text p (records_in es + pending) fs 0 (omega arith) h)
  plain_to True few h = operand_to (constant 1) refl refl refl (λ n p fs. constant_goes k n text p (records_in es + pending) fs 1 (omega arith) h)
  plain_to (Variable v) few h = operand_to (letter v) refl refl refl (λ n p fs. letter_goes k n text p (records_in es + pending) fs v few h.0 h.1)

  pub operand_none : ¬ Stands text i 33 → ¬ Stands text i 40 → NoOperand k text i → GuardNone 4 k depth pending i text es i
  operand_none a b here = record { comes = λ n p fs _ _. wanting_stops k n text p (records_in es + pending) fs a b asked.no_gap here.no-0 here.no-1 here.no_letter }

  -- `!`
  pub negated_to : (inner : ℕ) {es₁ es₂ : List ℕ} {j q : ℕ} → Stands text i 33 → records_in es + (pending + 2) ≤ 504 → Skips text (i + 1) j → GuardTo 4 4 k depth (pending + 1) j text es es₁ q
      → 8 * (inner + 1) ≡ length es₁ → es₂ ≡ es₁ ++ expression_record 3 inner 0 → GuardTo 4 4 k depth pending i text es es₂ q
  unfolding size guard_records groups
  negated_to inner {es₁} {es₂} {j} {q} s room sk g counted put =
      let same : inner ≡ guard_place (records_in es) g.guard = omega (arith, g.count) in
      let more = one_record es₁ (expression_record 3 inner 0) put refl in
      record {
        guard = complement g.guard;
        past = omega (arith, sk.forward, g.past);
        over = g.over;
        count = omega (arith, g.count, more);
        few = omega (arith, g.few, more);
        put = put ∙ ap (λ l. l ++ expression_record 3 inner 0) g.put ∙ append_assoc es (guard_records (records_in es) g.guard) (expression_record 3 inner 0) ∙ ap (λ a. es ++ (guard_records (records_in es) g.guard ++ expression_record 3 a 0)) same;
        comes = λ n p fs d fr.
            not_goes k n text p (records_in es + pending) fs s sk (omega arith)
            ∙ wanted k n text j p (negating ∷ fs) (omega arith)
            ∙ g.comes n p (negating ∷ fs) d (fresh_4 (negating ∷ fs))
            ∙ negated_up k n text p (records_in es₁ + (pending + 1)) fs g.guard g.over.no_gap
            ∙ had k n text q p fs (omega (arith, more)) (complement g.guard);
      }

  pub negated_none : {j q : ℕ} → Stands text i 33 → records_in es + (pending + 2) ≤ 504 → Skips text (i + 1) j → GuardNone 4 k depth (pending + 1) j text es q → GuardNone 4 k depth pending i text es q
  unfolding groups
  negated_none {j = j} s room sk g =
      record { comes = λ n p fs d fr. not_goes k n text p (records_in es + pending) fs s sk (omega arith) ∙ wanted k n text j p (negating ∷ fs) (omega arith) ∙ g.comes n p (negating ∷ fs) d (fresh_4 (negating ∷ fs)) }

  pub negated_full : Stands text i 33 → 504 < records_in es + (pending + 2) → GuardNone 4 k depth pending i text es i
  negated_full s full = record { comes = λ n p fs d fr. not_stops k n text p (records_in es + pending) fs s (omega arith) }

  -- a group
  pub grouped_to : {es' : List ℕ} {j r q : ℕ} → Stands text i 40 → depth < 32 → Skips text (i + 1) j → GuardTo 1 1 k (depth + 1) pending j text es es' r → Stands text r 41 → Skips text (r + 1) q → GuardTo 4 4 k depth pending i text es es' q
  unfolding size guard_records groups
  grouped_to {j = j} s deep sk g c sk' =
      record {
        guard = bracketed g.guard;
        past = omega (arith, sk.forward, g.past, sk'.forward);
        over = over_4 sk';
        count = g.count;
        few = g.few;
        put = g.put;
        comes = λ n p fs d fr.
            open_goes k n text p (records_in es + pending) fs s sk (omega arith)
            ∙ g.comes n p (grouping ∷ fs) (omega arith) (fresh_grouping 1 fs)
            ∙ close_goes k n text p _ fs g.guard c sk';
      }

  pub grouped_none : {j q : ℕ} → Stands text i 40 → depth < 32 → Skips text (i + 1) j → GuardNone 1 k (depth + 1) pending j text es q → GuardNone 4 k depth pending i text es q
  unfolding groups
  grouped_none s deep sk g = record { comes = λ n p fs d fr. open_goes k n text p (records_in es + pending) fs s sk (omega arith) ∙ g.comes n p (grouping ∷ fs) (omega arith) (fresh_grouping 1 fs) }

  pub grouped_open : {es' : List ℕ} {j q : ℕ} → Stands text i 40 → depth < 32 → Skips text (i + 1) j → GuardTo 1 1 k (depth + 1) pending j text es es' q → ¬ Stands text q 41 → GuardNone 4 k depth pending i text es q
  unfolding groups
  grouped_open s deep sk g c =
      record {
        comes = λ n p fs d fr.
            open_goes k n text p (records_in es + pending) fs s sk (omega arith) ∙ g.comes n p (grouping ∷ fs) (omega arith) (fresh_grouping 1 fs) ∙ close_stops k n text p _ fs g.guard g.over c;
      }

  pub grouped_deep : Stands text i 40 → 32 ≤ depth → GuardNone 4 k depth pending i text es i
  grouped_deep s deep = record { comes = λ n p fs d fr. open_stops k n text p (records_in es + pending) fs s (omega arith) }
