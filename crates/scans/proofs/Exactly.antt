-- Refusals in their order, said without the order of the code: the way back from an answer to the tests that were passed,
-- and that the table refuses exactly at the lowest place of the lowest number whose condition holds, and otherwise accepts.
-- Assumes nothing.
use Rattle.std.specs.Prelude.{Option, None, Some}
use mathlib.Core.Path.{◌≡◌, refl, sym, ap, subst, subst₃}
use mathlib.Core.Logic.{inl, inr, ◌↔◌}
use mathlib.Core.Bool.{Bool, true, false}
use mathlib.Core.List.{List, [], ◌∷◌, ◌++◌}
use native.Mathlib.Decide.{dec_lt}
use native.Mathlib.Omega.{arith}
use Prim.Native.Nat.{ℕ, ◌<◌}
use Rattle.scans.specs.First.{first_bad, FirstBad}
use Rattle.scans.specs.Refusals.{Stage, whole, unless_at, in_order, WrongAt, Wrong, Lower, Refuses, Rising}
use Rattle.scans.proofs.Bools.{both_ways}
use Rattle.scans.proofs.Search.{clear_each, each_clear, stopped_at, first_bad_same}

-- a table in two parts: the first part's last answer is what the second answers
pub in_order_append : {A : Type 0} (refused : ℕ → ℕ → ℕ → A) (xs ys : List Stage) (answer : A) → in_order refused (xs ++ ys) answer ≡ in_order refused xs (in_order refused ys answer)
unfolding in_order
in_order_append refused [] ys answer = refl
in_order_append refused (x ∷ xs) ys answer = rw (in_order_append refused xs ys answer)

module _ {A : Type 0} (refused : ℕ → ℕ → ℕ → A) (st : Stage) (rest : List Stage) (answer : A) where
  -- an answer that is no refusal of this stage: it passed at each index, and the answer is that of the rest
  pub past : {r : A} → ((b s : ℕ) → refused st.number b s ≡ r → ⊥) → in_order refused (st ∷ rest) answer ≡ r → (first_bad st.ok st.count ≡ None) × (in_order refused rest answer ≡ r)
  unfolding in_order unless_at
  past {r} h e = go (first_bad st.ok st.count) refl e
    where
      go : (x : Option ℕ) → first_bad st.ok st.count ≡ x → unless_at x (λ i. refused st.number (st.block i) (st.slot i)) (in_order refused rest answer) ≡ r → (first_bad st.ok st.count ≡ None) × (in_order refused rest answer ≡ r)
      go None p q = (p, q)
      go (Some i) p q = absurd (h (st.block i) (st.slot i) q)

  -- a stage that passes at each index is skipped
  pub skip : first_bad st.ok st.count ≡ None → in_order refused (st ∷ rest) answer ≡ in_order refused rest answer
  unfolding in_order unless_at
  skip e = rw e

  -- a stage whose test agrees at each index asked, and a rest that answers the same, answer the same
  pub in_order_same : (ok' : ℕ → Bool) (rest' : List Stage) → ((i : ℕ) → i < st.count → st.ok i ≡ ok' i) → in_order refused rest answer ≡ in_order refused rest' answer → in_order refused (st ∷ rest) answer ≡ in_order refused (record { number = st.number; count = st.count; ok = ok'; block = st.block; slot = st.slot } ∷ rest') answer
  unfolding in_order
  in_order_same ok' rest' h e = rw (first_bad_same st.ok ok' st.count h, e)

module _ {A : Type 0} (refused : ℕ → ℕ → ℕ → A) (number : ℕ) (x : Bool) (rest : List Stage) (answer : A) where
  -- the same of a test of the whole: it holds, and the answer is that of the rest
  pub past_whole : {r : A} → ((b s : ℕ) → refused number b s ≡ r → ⊥) → in_order refused (whole number x ∷ rest) answer ≡ r → (x ≡ true) × (in_order refused rest answer ≡ r)
  past_whole h e =
      let p = past refused (whole number x) rest answer h e in
      (clear_each (λ _. x) 1 p.0 0 (omega arith), p.1)

  -- a test of the whole that holds is skipped
  pub skip_whole : x ≡ true → in_order refused (whole number x ∷ rest) answer ≡ in_order refused rest answer
  skip_whole e = skip refused (whole number x) rest answer (each_clear (λ _. x) 1 (λ _ _. e))

-- a stage that passes at each index is wrong nowhere
not_wrong : (st : Stage) {block slot : ℕ} → first_bad st.ok st.count ≡ None → ¬ (WrongAt st block slot)
not_wrong st e w = both_ways (clear_each st.ok st.count e w.at w.below) w.fails

-- where a stage stops it is wrong
wrong_at : (st : Stage) {i : ℕ} → FirstBad st.ok st.count i → WrongAt st (st.block i) (st.slot i)
wrong_at st {i} f = record { at = i; below = f.below; fails = f.fails; block_is = refl; slot_is = refl }

-- in a table that rises, whatever is wrong has a number above the bound
above : (stages : List Stage) (lowest number block slot : ℕ) → Rising lowest stages → Wrong stages number block slot → lowest < number
above [] lowest number block slot r w = absurd w
above (st ∷ rest) lowest number block slot r (inl w) = omega arith
above (st ∷ rest) lowest number block slot r (inr w) = let h = above rest st.number number block slot r.2 w in omega arith

module _ (st : Stage) (rest : List Stage) where
  -- the first stage refuses at the first index that fails
  refuses_here : (lowest : ℕ) → Rising lowest (st ∷ rest) → {i : ℕ} → FirstBad st.ok st.count i → Refuses (st ∷ rest) st.number (st.block i) (st.slot i)
  refuses_here lowest r {i} f = record { wrong = inl (refl, wrong_at st f); lowest = none_lower; first = none_before }
    where
      not_lower : (k : ℕ) → k < st.count → st.ok k ≡ false → Lower (st.block k) (st.slot k) (st.block i) (st.slot i) → Dec (k < i) → Dec (i < k) → ⊥
      not_lower k h e l (yes p) q = both_ways (f.before k p) e
      not_lower k h e l (no p) (yes q) = r.1 i k q h l
      not_lower k h e (inl l) (no p) (no q) = let w : k ≡ i = omega arith in omega (arith, ap st.block w)
      not_lower k h e (inr l) (no p) (no q) = let w : k ≡ i = omega arith in omega (arith, ap st.slot w)

      none_lower : (b s : ℕ) → Lower b s (st.block i) (st.slot i) → ¬ (Wrong (st ∷ rest) st.number b s)
      none_lower b s l (inl (_, w)) = not_lower w.at w.below w.fails (rw (w.block_is, w.slot_is) l) (dec_lt w.at i) (dec_lt i w.at)
      none_lower b s l (inr w) = let h = above rest st.number st.number b s r.2 w in omega arith

      none_before : (m b s : ℕ) → m < st.number → ¬ (Wrong (st ∷ rest) m b s)
      none_before m b s h (inl (e, w)) = omega arith
      none_before m b s h (inr w) = let g = above rest st.number m b s r.2 w in omega arith

  -- or it passes, and the rest refuses
  refuses_later : {number block slot : ℕ} → first_bad st.ok st.count ≡ None → Refuses rest number block slot → Refuses (st ∷ rest) number block slot
  refuses_later {number} e r = record { wrong = inr r.wrong; lowest = λ b s l. still number b s (r.lowest b s l); first = λ m b s h. still m b s (r.first m b s h) }
    where
      still : (m b s : ℕ) → ¬ (Wrong rest m b s) → ¬ (Wrong (st ∷ rest) m b s)
      still m b s h (inl w) = not_wrong st e w.1
      still m b s h (inr w) = h w

-- a number refuses at one place only
one_place : {stages : List Stage} {number b s b' s' : ℕ} → Refuses stages number b s → Refuses stages number b' s' → (b ≡ b') × (s ≡ s')
one_place {b = b} {s} {b'} {s'} p q = go (dec_lt b b') (dec_lt b' b) (dec_lt s s') (dec_lt s' s)
  where
    go : Dec (b < b') → Dec (b' < b) → Dec (s < s') → Dec (s' < s) → (b ≡ b') × (s ≡ s')
    go (yes h) c d e = absurd (q.lowest b s (inl h) p.wrong)
    go (no h) (yes c) d e = absurd (p.lowest b' s' (inl c) q.wrong)
    go (no h) (no c) (yes d) e = absurd (q.lowest b s (inr (omega arith, d)) p.wrong)
    go (no h) (no c) (no d) (yes e) = absurd (p.lowest b' s' (inr (omega arith, e)) q.wrong)
    go (no h) (no c) (no d) (no e) = omega arith

-- a table refuses in one way only
one_refusal : {stages : List Stage} {m b s m' b' s' : ℕ} → Refuses stages m b s → Refuses stages m' b' s' → (m ≡ m') × (b ≡ b') × (s ≡ s')
one_refusal {stages} {m} {b} {s} {m'} {b'} {s'} p q = go (dec_lt m m') (dec_lt m' m)
  where
    go : Dec (m < m') → Dec (m' < m) → (m ≡ m') × (b ≡ b') × (s ≡ s')
    go (yes h) d = absurd (q.first m b s h p.wrong)
    go (no h) (yes d) = absurd (p.first m' b' s' d q.wrong)
    go (no h) (no d) =
        let e : m' ≡ m = omega arith in
        let place = one_place p (subst (λ k. Refuses stages k b' s') e q) in
        (sym e, place.0, place.1)

-- how a table ends: it accepts, or it refuses where something is wrong
data Outcome {A : Type 0} (refused : ℕ → ℕ → ℕ → A) (answer : A) (stages : List Stage) : Type 0 where
  accepts : in_order refused stages answer ≡ answer → Outcome refused answer stages
  stops : (number block slot : ℕ) → in_order refused stages answer ≡ refused number block slot → Wrong stages number block slot → Outcome refused answer stages

outcome : {A : Type 0} (refused : ℕ → ℕ → ℕ → A) (answer : A) (stages : List Stage) → Outcome refused answer stages
unfolding in_order unless_at
outcome refused answer [] = accepts refl
outcome refused answer (st ∷ rest) = go (first_bad st.ok st.count) refl (outcome refused answer rest)
  where
    go : (x : Option ℕ) → first_bad st.ok st.count ≡ x → Outcome refused answer rest → Outcome refused answer (st ∷ rest)
    go None p (accepts e) = accepts (rw p e)
    go None p (stops m b s e w) = stops m b s (rw p e) (inr w)
    go (Some i) p o = stops st.number (st.block i) (st.slot i) (rw p) (inl (refl, wrong_at st (stopped_at st.ok st.count p)))

-- where refusals of different numbers or places differ, and none is the last answer
module _ {A : Type 0} (refused : ℕ → ℕ → ℕ → A) (answer : A) (one : (m b s m' b' s' : ℕ) → refused m b s ≡ refused m' b' s' → (m ≡ m') × (b ≡ b') × (s ≡ s')) (apart : (m b s : ℕ) → refused m b s ≡ answer → ⊥) where
  -- a refusal that is answered is the table's
  refuses : (stages : List Stage) (lowest : ℕ) → Rising lowest stages → (number block slot : ℕ) → in_order refused stages answer ≡ refused number block slot → Refuses stages number block slot
  unfolding in_order unless_at
  refuses [] lowest r m b s e = absurd (apart m b s (sym e))
  refuses (st ∷ rest) lowest r m b s e = go (first_bad st.ok st.count) refl e (refuses rest st.number r.2 m b s)
    where
      go : (x : Option ℕ) → first_bad st.ok st.count ≡ x → unless_at x (λ i. refused st.number (st.block i) (st.slot i)) (in_order refused rest answer) ≡ refused m b s → (in_order refused rest answer ≡ refused m b s → Refuses rest m b s) → Refuses (st ∷ rest) m b s
      go None p q ih = refuses_later st rest p (ih q)
      go (Some i) p q ih =
          let same = one st.number (st.block i) (st.slot i) m b s q in
          subst₃ (Refuses (st ∷ rest)) same.0 same.1 same.2 (refuses_here st rest lowest r (stopped_at st.ok st.count p))

  -- where the last answer is given nothing is wrong
  right : (stages : List Stage) → in_order refused stages answer ≡ answer → (number block slot : ℕ) → ¬ (Wrong stages number block slot)
  right [] e m b s w = w
  right (st ∷ rest) e m b s (inl w) = not_wrong st (past refused st rest answer (apart st.number) e).0 w.1
  right (st ∷ rest) e m b s (inr w) = right rest (past refused st rest answer (apart st.number) e).1 m b s w

  -- a table in order refuses so exactly when this number's condition holds there, at no lower place, and no lower number's anywhere
  pub exactly : (stages : List Stage) (lowest : ℕ) → Rising lowest stages → (number block slot : ℕ) → (in_order refused stages answer ≡ refused number block slot) ↔ Refuses stages number block slot
  exactly stages lowest r m b s = (refuses stages lowest r m b s, λ x. go x (outcome refused answer stages))
    where
      go : Refuses stages m b s → Outcome refused answer stages → in_order refused stages answer ≡ refused m b s
      go x (accepts e) = absurd (right stages e m b s x.wrong)
      go x (stops m' b' s' e w) = let same = one_refusal x (refuses stages lowest r m' b' s' e) in cc

  -- it accepts exactly when no condition holds anywhere
  pub accepted : (stages : List Stage) → (in_order refused stages answer ≡ answer) ↔ ((number block slot : ℕ) → ¬ (Wrong stages number block slot))
  accepted stages = (right stages, λ h. go h (outcome refused answer stages))
    where
      go : ((number block slot : ℕ) → ¬ (Wrong stages number block slot)) → Outcome refused answer stages → in_order refused stages answer ≡ answer
      go h (accepts e) = e
      go h (stops m b s e w) = absurd (h m b s w)

-- a table that refuses does so whatever would have come after it; one that does not leaves what comes after
module _ {A : Type 0} (refused : ℕ → ℕ → ℕ → A) where
  pub refused_still : (stages : List Stage) {a r : A} → (a ≡ r → ⊥) → in_order refused stages a ≡ r → (next : A) → in_order refused stages next ≡ r
  unfolding in_order unless_at
  refused_still [] apart e next = absurd (apart e)
  refused_still (st ∷ rest) {a} {r} apart e next = go (first_bad st.ok st.count) e (refused_still rest {a = a} {r = r} apart)
    where
      go : (x : Option ℕ) → unless_at x (λ i. refused st.number (st.block i) (st.slot i)) (in_order refused rest a) ≡ r → (in_order refused rest a ≡ r → (next : A) → in_order refused rest next ≡ r)
          → unless_at x (λ i. refused st.number (st.block i) (st.slot i)) (in_order refused rest next) ≡ r
      go None q ih = ih q next
      go (Some i) q ih = q

  pub passed_on : (stages : List Stage) {a : A} → ((m b s : ℕ) → refused m b s ≡ a → ⊥) → in_order refused stages a ≡ a → (next : A) → in_order refused stages next ≡ next
  unfolding in_order unless_at
  passed_on [] never e next = refl
  passed_on (st ∷ rest) {a} never e next = go (first_bad st.ok st.count) e (passed_on rest {a = a} never)
    where
      go : (x : Option ℕ) → unless_at x (λ i. refused st.number (st.block i) (st.slot i)) (in_order refused rest a) ≡ a → (in_order refused rest a ≡ a → (next : A) → in_order refused rest next ≡ next)
          → unless_at x (λ i. refused st.number (st.block i) (st.slot i)) (in_order refused rest next) ≡ next
      go None q ih = ih q next
      go (Some i) q ih = absurd (never st.number (st.block i) (st.slot i) q)

  -- an answer that is no refusal is the one that comes after the table
  pub answer_is : (stages : List Stage) {a r : A} → ((m b s : ℕ) → refused m b s ≡ r → ⊥) → in_order refused stages a ≡ r → a ≡ r
  unfolding in_order
  answer_is [] never e = e
  answer_is (st ∷ rest) {a} never e = answer_is rest never (past refused st rest a (never st.number) e).1
