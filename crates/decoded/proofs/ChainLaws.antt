-- The chains of clauses by time: how a loop builds them from the last clause down.
-- Assumes nothing.
use mathlib.Core.Path.{◌≡◌, refl, sym, ◌∙◌, ap, subst}
use mathlib.Core.Bool.{Bool, true, false, cond}
use mathlib.Core.List.{List}
use Prim.Native.Nat.{ℕ, zero, suc, ◌+◌, ◌-◌, ◌≤◌, ◌<◌, max}
use native.Mathlib.Decide.{ℕ_discrete}
use native.Mathlib.Omega.{arith}
use borrow.Author.Tests.{eq-eqb, ne_eqb}
use lib.ListN.{length, get_or, set, length-set, replicate, length-replicate, get_or-replicate}
use lib.Seq.{get_or-set_same, get_or-set_other}
use Rattle.meaning.specs.declared.Clause.{Clause}
use Rattle.meaning.specs.Jobs.{on, until, latest}
use Rattle.decoded.specs.Chains.{next_of, next_from, Chained}

-- a loop that looks for the last time
pub latest_none : (clause : ℕ → Clause) → 0 ≡ latest clause 0
unfolding latest
latest_none clause = refl

pub latest_more : (clause : ℕ → Clause) {last t i : ℕ} → last ≡ latest clause i → t ≡ (clause i).time → max last t ≡ latest clause (i + 1)
unfolding latest until
latest_more clause {last} {t} {i} p q = let e : i + 1 ≡ suc i = omega arith in rw (e, p, q)

module _ (clause : ℕ → Clause) (c : ℕ) where
  -- nothing is chained yet
  pub chain_none : (heads nexts : List ℕ) → heads ≡ replicate 256 c → c ≤ length nexts → Chained clause c c heads nexts
  unfolding next_of
  chain_none heads nexts p h =
      let e : c - c ≡ 0 = omega arith in
      record {
        within = omega arith;
        heads_long = ap length p ∙ length-replicate 256 c;
        nexts_long = h;
        head = λ t l. ap (λ x. get_or x t 0) p ∙ get_or-replicate 256 t c 0 l ∙ rw e;
        next = λ m l g. absurd (omega arith);
      }

  -- where clause i is of time t, it is the first from i on; elsewhere nothing changes
  step : (i t : ℕ) → i < c → next_from clause c t i ≡ cond (on (clause i) t) i (next_from clause c t (suc i))
  unfolding next_of
  step i t h =
      let d : c - i ≡ suc (c - suc i) = omega arith in
      let b : c - suc (c - suc i) ≡ i = omega arith in
      rw (d, b)

  pub next_here : (i t : ℕ) → i < c → (clause i).time ≡ t → next_from clause c t i ≡ i
  unfolding on
  next_here i t h e = step i t h ∙ rw (eq-eqb (clause i).time t e)

  pub next_past : (i t : ℕ) → i < c → ((clause i).time ≡ t → ⊥) → next_from clause c t i ≡ next_from clause c t (suc i)
  unfolding on
  next_past i t h e = step i t h ∙ rw (ne_eqb (clause i).time t e)

  -- one clause more, the one before those chained
  pub chain_more : {heads nexts : List ℕ} {i t v w : ℕ} → Chained clause c (suc i) heads nexts → t ≡ (clause i).time → t < 256 → v ≡ get_or heads t 0 → w ≡ i
      → Chained clause c i (set heads t w) (set nexts i v)
  chain_more {heads} {nexts} {i} {t} {v} {w} p e l q r =
      let h = p.within in
      record {
        within = omega arith;
        heads_long = length-set heads t w ∙ p.heads_long;
        nexts_long = omega (arith, p.nexts_long, length-set nexts i v);
        head = λ u g. go u g (ℕ_discrete u t);
        next = λ m g f. tail m g f (ℕ_discrete m i);
      }
    where
      go : (u : ℕ) → u < 256 → Dec (u ≡ t) → get_or (set heads t w) u 0 ≡ next_from clause c u i
      go u g (yes d) =
          rw d (get_or-set_same heads t w 0 (omega (arith, p.heads_long)) ∙ r ∙ sym (next_here i t (omega (arith, p.within)) (sym e)))
      go u g (no d) =
          get_or-set_other heads t u w 0 d ∙ p.head u g ∙ sym (next_past i u (omega (arith, p.within)) (λ f. d (sym (e ∙ f))))

      tail : (m : ℕ) → i ≤ m → m < c → Dec (m ≡ i) → get_or (set nexts i v) m 0 ≡ next_from clause c (clause m).time (suc m)
      tail m g f (yes d) =
          rw d (get_or-set_same nexts i v 0 (omega (arith, p.nexts_long, p.within)) ∙ q ∙ p.head t l ∙ ap (λ u. next_from clause c u (suc i)) e)
      tail m g f (no d) = get_or-set_other nexts i m v 0 d ∙ p.next m (omega arith) f

  -- the same as the loop has it, its place still one above
  pub chain_down : {heads nexts : List ℕ} {i t v w : ℕ} → 0 < i → Chained clause c i heads nexts → t ≡ (clause (i - 1)).time → t < 256 → v ≡ get_or heads t 0 → w ≡ i - 1
      → Chained clause c (i - 1) (set heads t w) (set nexts (i - 1) v)
  chain_down {heads} {nexts} {i} z p = let e : i ≡ suc (i - 1) = omega arith in chain_more (subst (λ k. Chained clause c k heads nexts) e p)

  -- k is the first clause of time t from i on, or c
  pub record Next (t i k : ℕ) : Type 0 where
    pub from : i ≤ k
    pub within : k ≤ c
    pub between : (m : ℕ) → i ≤ m → m < k → on (clause m) t ≡ false
    pub here : k < c → on (clause k) t ≡ true

  next_of_lem : (t d : ℕ) → d ≤ c → Next t (c - d) (next_of clause c t d)
  unfolding next_of
  next_of_lem t zero h = record { from = omega arith; within = omega arith; between = λ m l g. absurd (omega arith); here = λ g. absurd (omega arith) }
  next_of_lem t (suc d) h = go (on (clause (c - suc d)) t) refl (next_of_lem t d (omega arith))
    where
      go : (b : Bool) → on (clause (c - suc d)) t ≡ b → Next t (c - d) (next_of clause c t d) → Next t (c - suc d) (cond b (c - suc d) (next_of clause c t d))
      go true e p = record { from = omega arith; within = omega arith; between = λ m l g. absurd (omega arith); here = λ g. e }
      go false e p =
          record {
            from = omega (arith, p.from);
            within = p.within;
            between = λ m l g. gap m l g (ℕ_discrete m (c - suc d));
            here = p.here;
          }
        where
          gap : (m : ℕ) → c - suc d ≤ m → m < next_of clause c t d → Dec (m ≡ c - suc d) → on (clause m) t ≡ false
          gap m l g (yes q) = rw q e
          gap m l g (no q) = p.between m (omega arith) g

  pub next_is : (t i : ℕ) → i ≤ c → Next t i (next_from clause c t i)
  next_is t i h = let e : c - (c - i) ≡ i = omega arith in subst (λ k. Next t k (next_from clause c t i)) e (next_of_lem t (c - i) (omega arith))

  -- what no clause of another time changes is the same after a jump
  jump_over : {A : Type 0} (f : ℕ → A) (t : ℕ) → ((m : ℕ) → on (clause m) t ≡ false → f (suc m) ≡ f m) → (i d : ℕ) → ((m : ℕ) → i ≤ m → m < i + d → on (clause m) t ≡ false) → f (i + d) ≡ f i
  jump_over f t same i zero off = ap f (omega arith)
  jump_over f t same i (suc d) off =
      let e : i + suc d ≡ suc (i + d) = omega arith in
      ap f e ∙ same (i + d) (off (i + d) (omega arith) (omega arith)) ∙ jump_over f t same i d (λ m l h. off m l (omega arith))

  pub jump : {A : Type 0} (f : ℕ → A) (t : ℕ) → ((m : ℕ) → on (clause m) t ≡ false → f (suc m) ≡ f m) → (i k : ℕ) → Next t i k → f k ≡ f i
  jump f t same i k p =
      let e : i + (k - i) ≡ k = omega (arith, p.from) in
      subst (λ m. f m ≡ f i) e (jump_over f t same i (k - i) (λ m l h. p.between m l (omega (arith, p.from))))
