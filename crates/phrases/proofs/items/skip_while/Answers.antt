-- `skip_while`: the bytes before the place pass the test, and the one there does not.
-- Assumes nothing.
use mathlib.Core.Path.{◌≡◌, sym, subst}
use mathlib.Core.Bool.{true, false}
use native.Mathlib.Decide.{dec_lt}
use native.Mathlib.Omega.{arith}
use Prim.Native.Nat.{ℕ, ◌≤◌, ◌<◌, ◌+◌}
use Rattle.stored.specs.Bytes.{byte_at}
use Rattle.phrases.proofs.items.skip_while.Goals as goal

-- what holds of each below q, and of q, holds of each below q + 1
one_more : (P : ℕ → Type 0) (at q : ℕ) → ((i : ℕ) → at ≤ i → i < q → P i) → P q → (i : ℕ) → at ≤ i → i < q + 1 → P i
one_more P at q f here i l m = go (dec_lt i q)
  where
    go : Dec (i < q) → P i
    go (yes h) = f i l h
    go (no h) = let same : q ≡ i = omega arith in subst P same here

pub loop-q-init : goal.loop-q-init
loop-q-init g c = λ i l m. absurd (omega arith)

pub loop-q-preserved : goal.loop-q-preserved
loop-q-preserved g c = one_more (λ i. g.F.Fn.post c.args.test (byte_at c.args.text.now i, tt) true) _ _ c.loop-q.invariant (rw c.if-not-test.false at c.test.ensures)

pub returns-then-not-test : goal.returns-then-not-test
returns-then-not-test g c = λ p h. record {
  forward = omega arith;
  inside = omega arith;
  each = λ i l m. sym (h (byte_at c.args.text.now i) true (c.loop-q.invariant i l m));
  ends = λ _. sym (h (byte_at c.args.text.now c.loop-q.q) false (rw c.if-not-test.true at c.test.ensures));
}

pub returns : goal.returns
returns g c = λ p h. record {
  forward = c.requires.inside;
  inside = omega arith;
  each = λ i l m. sym (h (byte_at c.args.text.now i) true (c.loop-q.invariant i l (omega arith)));
  ends = λ m. absurd (omega arith);
}
