-- The words of guards, expression by expression.
-- Assumes nothing.
use Rattle.std.proofs.Common.{◌≡◌, refl, sym, ◌∙◌, ap, Bool, false, ℕ, zero, suc, ◌+◌, ◌*◌, ◌<◌, List, length, take, map, slice_set, arith}
use Rattle.std.proofs.lemmas.List.{get_or-take, map-append}
use Rattle.std.proofs.Math.Seq.{take-suc-set}
use native.Mathlib.Decide.{dec_lt}
use lib.ListN.{get_or, length-append, get_or-append, get_or-map}
use lib.Seq.{get_or-append-add}
use Rattle.meaning.specs.declared.Expression.{Expression}
use Rattle.meaning.specs.Guards.{bit_of, truth_given, truths, truth}
use Rattle.words.proofs.Bits.{bit_zero}
use Rattle.decoded.specs.declared.Plan.{Plan}
use Rattle.decoded.specs.Plans.{expression_of}
use Rattle.decoded.specs.Meant.{job_in}
use Rattle.guards.specs.Guarded.{Guarded, GuardWords}

-- the bits of words at a place
abbrev pub bits : List ℕ → ℕ → List Bool
bits words p = map (λ w. bit_of w p) words

-- a word past the end has no bit
pub bits_at : (words : List ℕ) (p a : ℕ) → get_or (bits words p) a false ≡ bit_of (get_or words a 0) p
bits_at words p a = ap (get_or (bits words p) a) (sym (bit_zero p)) ∙ get_or-map (λ w. bit_of w p) words a 0

-- the truths of the first i expressions, one by one
length_truths : (es : ℕ → Expression) (x i : ℕ) → length (truths es x i) ≡ i
unfolding truths
length_truths es x zero = refl
length_truths es x (suc i) = length-append (truths es x i) _ ∙ omega (arith, length_truths es x i)

truths_at : (es : ℕ → Expression) (x i m : ℕ) → m < i → get_or (truths es x i) m false ≡ truth es x m
unfolding truths truth
truths_at es x (suc i) m h = go (truths_at es x i m) (dec_lt m i)
  where
    go : (m < i → get_or (truths es x i) m false ≡ truth es x m) → Dec (m < i) → get_or (truths es x (suc i)) m false ≡ truth es x m
    go p (yes l) = get_or-append (truths es x i) _ false m (omega (arith, length_truths es x i)) ∙ p l
    go p (no l) =
        let n = length_truths es x i in
        let e : m ≡ length (truths es x i) + 0 = omega arith in
        let f : i ≡ m = omega arith in
        ap (λ k. get_or (truths es x (suc i)) k false) e ∙ get_or-append-add (truths es x i) _ 0 false ∙ ap (truth es x) f
truths_at es x zero m h = absurd (omega arith)

-- the first i words have at each place the truths of the first i expressions
pub record Worked (es : ℕ → Expression) (g i : ℕ) (words : List ℕ) : Type 0 where
  pub at : (p : ℕ) → p < 64 → bits (take i words) p ≡ truths es (64 * g + p) i

pub worked_none : (es : ℕ → Expression) (g : ℕ) (words : List ℕ) → Worked es g 0 words
unfolding truths
worked_none es g words = record { at = λ p l. refl }

pub worked_more : {es : ℕ → Expression} {g i : ℕ} (r : ℕ) {words : List ℕ} → i < length words → Worked es g i words
    → ((p : ℕ) → p < 64 → bit_of r p ≡ truth_given (64 * g + p) (bits (take i words) p) (es i)) → Worked es g (i + 1) (slice_set words i r)
unfolding truths
worked_more {es} {g} {i} r {words} h w new =
    record {
      at = λ p l.
          let e : i + 1 ≡ suc i = omega arith in
          rw (e, take-suc-set words i r h, map-append, w.at p l, new p l ∙ ap (λ bs. truth_given (64 * g + p) bs (es i)) (w.at p l));
    }

pub all_worked : (p : Plan) (g : ℕ) (words : List ℕ) → Worked (expression_of p.expressions) g p.size.e words → GuardWords p g words
all_worked p g words w =
    record {
      at = λ i l m k.
          ap (λ x. bit_of x i) (sym (get_or-take p.size.e words m 0 k)) ∙ sym (bits_at (take p.size.e words) i m)
          ∙ ap (λ bs. get_or bs m false) (w.at i l) ∙ truths_at (expression_of p.expressions) (64 * g + i) p.size.e m k;
    }

-- the words of a group guard each of its cases
pub guarded : (p : Plan) (g : ℕ) (words : List ℕ) (i : ℕ) → i < 64 → GuardWords p g words → Guarded (job_in p) p.size.e words i (64 * g + i)
guarded p g words i l w = record { at = λ m h. w.at i l m h }
