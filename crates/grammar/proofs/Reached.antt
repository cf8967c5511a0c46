-- What holds of every point that items lead to: they are the items of what it has read, and that fits.
-- Assumes nothing.
use borrow.Author.Tests.{leb-true, ltb-true, not-true}
use mathlib.Core.Path.{◌≡◌, refl, sym, ◌∙◌, ap}
use mathlib.Core.Bool.{Bool, true, false, ◌&&◌, cond}
use mathlib.Core.List.{List, [], ◌∷◌, ◌++◌, append_assoc, append-nil}
use mathlib.Core.Option.{some}
use native.Mathlib.Numerals.{add-one}
use native.Mathlib.Omega.{arith}
use Prim.Native.Nat.{ℕ, suc, ◌+◌, ◌≤◌}
use lib.Dec.{leb, ltb}
use lib.ListN.{length}
use lib.Seq.{append_snoc}
use Rattle.scans.proofs.Bools.{left_true, right_true}
use Rattle.grammar.specs.Items.{GIVEN, EXPECT, WHEN, IS, AT, NOT, OPEN, CLOSE, COLON, SEMICOLON, SIGN, Item, word, variable, number, mark, Operator, OR}
use Rattle.grammar.specs.Guards.{Guard, letter, constant, bracketed, strength, guard_items, Stands, OperandsIn, depth, size}
use Rattle.grammar.specs.Grammar.{Clause, clause_items, list_items, ClauseFits, EachFits, sizes}
use Rattle.grammar.specs.Points.{Frame, negating, grouping, joining, Closed, close, groups, Slot, clause_slots, Phase, starting, listing, guarding, guarded, telling, Point, when, regrouped, guard_ended, filled, after_slot, step, start}
use Rattle.grammar.proofs.Options.{Each, each, each_map, when_each, mapped_each, both_steps}
use Rattle.grammar.proofs.Steps.{steps, point, to_given, to_expect, length_added, sizes_snoc}
use Rattle.grammar.proofs.Slots.{full, same_word, fills, Filled, Told, told_none, told_more}
use Rattle.grammar.proofs.Frames.{strength_from, GuardFits, fits_bracketed, level, Formed, frames_size, over, Closes, closes}

-- the items of the clauses read, and then ts
unfoldable pub past : Bool → List Clause → List Clause → List Item → List Item
past b gs es ts = word GIVEN ∷ list_items gs ++ cond b (word EXPECT ∷ list_items es ++ ts) ts

-- the items that led here, and then ts; those that filled slots are `said`
abbrev pub up_to : (List Item → List Item) → Phase → List Item → List Item → List Item
up_to front starting said ts = ts
up_to front listing said ts = front ts
up_to front (guarding fs) said ts = front (word WHEN ∷ over fs ts)
up_to front (guarded fs g) said ts = front (word WHEN ∷ over fs (guard_items g ++ ts))
up_to front (telling g ss ns) said ts = front (word WHEN ∷ (guard_items g ++ mark COLON ∷ (said ++ ts)))

abbrev pub items : Point → List Item → List Item → List Item
items p said ts = up_to (past p.second p.given p.expect) p.phase said ts

-- the clauses begun, and the operands and operators read in one
abbrev pub begun : Phase → ℕ
begun starting = 0
begun listing = 0
begun (guarding fs) = 1
begun (guarded fs g) = 1
begun (telling g ss ns) = 1

abbrev pub phase_size : Phase → ℕ
phase_size starting = 0
phase_size listing = 0
phase_size (guarding fs) = frames_size fs
phase_size (guarded fs g) = frames_size fs + size g
phase_size (telling g ss ns) = size g

-- a guard just read is an operand or in brackets, and stands at every strength; where one is wanted there is room for it, and slots are left
abbrev pub InPhase : ℕ → ℕ → Bool → List Clause → ℕ → Phase → List Item → Type 0
InPhase k n b gs u starting said = (b ≡ false) × (gs ≡ [])
InPhase k n b gs u listing said = Unit {0}
InPhase k n b gs u (guarding fs) said = Formed k fs × (groups fs ≤ 32) × (u + 1 ≤ 504)
InPhase k n b gs u (guarded fs g) said = Formed k fs × ((s : ℕ) → GuardFits k s (groups fs) g)
InPhase k n b gs u (telling g [] ns) said = ⊥
InPhase k n b gs u (telling g (s ∷ ss) ns) said = GuardFits k 1 0 g × Told n (s ∷ ss) ns said

-- the clauses so far, with m more that have been begun
pub record Clauses (k n : ℕ) (b : Bool) (gs es : List Clause) (m : ℕ) : Type 0 where
  pub given_fits : EachFits k n gs
  pub expect_fits : EachFits k n es
  pub later : b ≡ false → es ≡ []
  pub few : length gs + length es + m ≤ 504

-- of a point: what it has read fits, and is what it has used
pub record Sound (k n : ℕ) (p : Point) (said : List Item) : Type 0 where
  pub clauses : Clauses k n p.second p.given p.expect (begun p.phase)
  pub used_is : p.used ≡ sizes p.given + sizes p.expect + phase_size p.phase
  pub room : p.used ≤ 504
  pub in_phase_lem : InPhase k n p.second p.given p.used p.phase said

-- an item leads to such a point, and comes last in its items
pub record Onward (k n : ℕ) (p : Point) (said : List Item) (i : Item) (q : Point) : Type 0 where
  pub said_now : List Item
  pub sound : Sound k n q said_now
  pub same : (ts : List Item) → items p said (i ∷ ts) ≡ items q said_now ts

-- one clause more, in a list and at a point
fits_snoc : {k n : ℕ} (cs : List Clause) (c : Clause) → EachFits k n cs → ClauseFits k n c → EachFits k n (cs ++ c ∷ [])
unfolding EachFits
fits_snoc [] c f e = (e, tt)
fits_snoc (d ∷ cs) c f e = (f.0, fits_snoc cs c f.1 e)

items_snoc : (cs : List Clause) (c : Clause) (ts : List Item) → list_items (cs ++ c ∷ []) ++ ts ≡ list_items cs ++ (clause_items c ++ ts)
unfolding list_items
items_snoc [] c ts = append_assoc (clause_items c) [] ts
items_snoc (d ∷ cs) c ts = simp append_assoc (ap (λ l. clause_items d ++ l) (items_snoc cs c ts))

clauses_added : {k n : ℕ} (b : Bool) {gs es : List Clause} (c : Clause) → Clauses k n b gs es 1 → ClauseFits k n c → Clauses k n b (to_given b gs (c ∷ [])) (to_expect b es (c ∷ [])) 0
clauses_added true {gs} {es} c l f =
    record { given_fits = l.given_fits; expect_fits = fits_snoc es c l.expect_fits f; later = λ e. cc; few = omega (arith, length_added true gs es (c ∷ []), l.few) }
clauses_added false {gs} {es} c l f =
    record { given_fits = fits_snoc gs c l.given_fits f; expect_fits = l.expect_fits; later = l.later; few = omega (arith, length_added false gs es (c ∷ []), l.few) }

sizes_added : (b : Bool) (gs es : List Clause) (c : Clause) → sizes (to_given b gs (c ∷ [])) + sizes (to_expect b es (c ∷ [])) ≡ sizes gs + sizes es + size c.guard
sizes_added true gs es c = omega (arith, sizes_snoc es c)
sizes_added false gs es c = omega (arith, sizes_snoc gs c)

past_added : (b : Bool) (gs es : List Clause) (c : Clause) (ts : List Item) → past b (to_given b gs (c ∷ [])) (to_expect b es (c ∷ [])) ts ≡ past b gs es (clause_items c ++ ts)
unfolding past
past_added true gs es c ts = rw items_snoc
past_added false gs es c ts = rw items_snoc

module _ (k n : ℕ) (b : Bool) (gs es : List Clause) (u : ℕ) (said : List Item) where
  abbrev SoundIn : Phase → Type 0
  SoundIn φ = Sound k n (point b gs es u φ) said

  abbrev Leads : Phase → Item → Point → Type 0
  Leads φ i = Onward k n (point b gs es u φ) said i

  abbrev Next : Phase → Item → Type 0
  Next φ i = Each (Leads φ i) (step k n (point b gs es u φ) i)

  -- where an item leads, if a test passes
  to : (φ : Phase) (i : Item) (q : Point) (c : Bool) → (c ≡ true → Sound k n q []) → (c ≡ true → (ts : List Item) → items (point b gs es u φ) said (i ∷ ts) ≡ items q [] ts)
      → Each (Leads φ i) (when c q)
  to φ i q c sound same = when_each (Leads φ i) c q (λ t. record { said_now = []; sound = sound t; same = same t })

  from_starting : (i : Item) → SoundIn starting → Next starting i
  unfolding step past list_items
  from_starting (word w) s =
      to starting (word w) (point b gs es u listing) _ (λ t. record { clauses = s.clauses; used_is = s.used_is; room = s.room; in_phase_lem = tt })
      (λ t ts. rw (same_word w GIVEN t, s.in_phase_lem.0, s.in_phase_lem.1))
  from_starting (variable i) s = tt
  from_starting (number x) s = tt
  from_starting (mark m) s = tt

  from_listing : (i : Item) → SoundIn listing → Next listing i
  unfolding step past list_items Formed groups frames_size over
  from_listing (word GIVEN) s = tt
  from_listing (word EXPECT) s =
      let c = s.clauses in
      to listing (word EXPECT) (point true gs es u listing) _
      (λ t. record { clauses = record { given_fits = c.given_fits; expect_fits = c.expect_fits; later = λ f. c.later (not-true b t); few = c.few }; used_is = s.used_is; room = s.room; in_phase_lem = tt })
      (λ t ts. rw (not-true b t, c.later (not-true b t)))
  from_listing (word WHEN) s =
      let c = s.clauses in
      to listing (word WHEN) (point b gs es u (guarding [])) (ltb (length gs + length es) 504 && leb (u + 1) 504)
      (λ t.
      record {
        clauses = record { given_fits = c.given_fits; expect_fits = c.expect_fits; later = c.later; few = rw add-one (ltb-true _ _ (left_true _ _ t)) };
        used_is = s.used_is;
        room = s.room;
        in_phase_lem = (tt, omega arith, leb-true _ _ (right_true (ltb (length gs + length es) 504) _ t));
      })
      (λ t ts. refl)
  from_listing (word IS) s = tt
  from_listing (word AT) s = tt
  from_listing (variable i) s = tt
  from_listing (number x) s = tt
  from_listing (mark m) s = tt

  from_guarding : (fs : List Frame) (i : Item) → SoundIn (guarding fs) → Next (guarding fs) i
  unfolding step Formed groups frames_size over guard_items Stands OperandsIn depth size
  from_guarding fs (word w) s = tt
  from_guarding fs (variable i) s =
      to (guarding fs) (variable i) (point b gs es (suc u) (guarded fs (letter i))) _
      (λ t. record { clauses = s.clauses; used_is = omega arith; room = omega arith; in_phase_lem = (s.in_phase_lem.0, λ z. record { stands = tt; operands = ltb-true _ _ t; deep = omega arith }) }) (λ t ts. refl)
  from_guarding fs (number v) s =
      to (guarding fs) (number v) (point b gs es (suc u) (guarded fs (constant v))) _
      (λ t. record { clauses = s.clauses; used_is = omega arith; room = omega arith; in_phase_lem = (s.in_phase_lem.0, λ z. record { stands = tt; operands = ltb-true _ _ t; deep = omega arith }) }) (λ t ts. refl)
  from_guarding fs (mark NOT) s =
      to (guarding fs) (mark NOT) (point b gs es (suc u) (guarding (negating ∷ fs))) (leb (u + 2) 504)
      (λ t. record { clauses = s.clauses; used_is = omega arith; room = omega arith; in_phase_lem = (s.in_phase_lem.0, s.in_phase_lem.1, omega (arith, leb-true)) }) (λ t ts. refl)
  from_guarding fs (mark OPEN) s =
      to (guarding fs) (mark OPEN) (point b gs es u (guarding (grouping ∷ fs))) _
      (λ t. record { clauses = s.clauses; used_is = s.used_is; room = s.room; in_phase_lem = (s.in_phase_lem.0, ltb-true _ _ t, s.in_phase_lem.2) }) (λ t ts. refl)
  from_guarding fs (mark CLOSE) s = tt
  from_guarding fs (mark COLON) s = tt
  from_guarding fs (mark SEMICOLON) s = tt
  from_guarding fs (mark (SIGN o)) s = tt

  -- what stands to the left of an operator, a bracket or a colon
  closed : (o : Operator) (fs : List Frame) (g : Guard) → SoundIn (guarded fs g) → Closes k (strength o) fs g (close (strength o) fs g)
  closed o fs g s = closes k (strength o) (strength_from o) fs g s.in_phase_lem.0 (s.in_phase_lem.1 (strength o)) (s.in_phase_lem.1 (level fs))

  module _ (fs : List Frame) (g : Guard) (s : SoundIn (guarded fs g)) where
    items_closed : {z : ℕ} {c : Closed} → Closes k z fs g c → (ts : List Item) → items (point b gs es u (guarded fs g)) said ts ≡ items (point b gs es u (guarded c.frames c.guard)) said ts
    items_closed c ts = ap (λ l. past b gs es (word WHEN ∷ l)) (sym (c.items_same ts))

    regroups : (hs : List Frame) (h : Guard) → Closes k 1 fs g (record { frames = hs; guard = h }) → Each (Leads (guarded fs g) (mark CLOSE)) (regrouped (point b gs es u (guarded fs g)) hs h)
    unfolding Formed groups frames_size over guard_items size
    regroups [] h c = tt
    regroups (negating ∷ hs) h c = tt
    regroups (joining o l ∷ hs) h c = tt
    regroups (grouping ∷ hs) h c =
        to (guarded fs g) (mark CLOSE) (point b gs es u (guarded hs (bracketed h))) true
        (λ t. record { clauses = s.clauses; used_is = omega (arith, c.sizes_same); room = s.room; in_phase_lem = (c.formed, λ z. fits_bracketed z c.fits) })
        (λ t ts. items_closed c (mark CLOSE ∷ ts) ∙ rw (append_snoc (guard_items h) (mark CLOSE) ts))

    guard_ends : (hs : List Frame) (h : Guard) → Closes k 1 fs g (record { frames = hs; guard = h }) → Each (Leads (guarded fs g) (mark COLON)) (guard_ended n (point b gs es u (guarded fs g)) hs h)
    unfolding groups frames_size over
    guard_ends [] h c =
        to (guarded fs g) (mark COLON) (point b gs es u (telling h (clause_slots n) [])) true
        (λ t. record { clauses = s.clauses; used_is = omega (arith, c.sizes_same); room = s.room; in_phase_lem = (c.fits, told_none n) })
        (λ t ts. items_closed c (mark COLON ∷ ts))
    guard_ends (f ∷ hs) h c = tt

    from_guarded : (i : Item) → Next (guarded fs g) i
    unfolding step Formed groups frames_size over
    from_guarded (word w) = tt
    from_guarded (variable i) = tt
    from_guarded (number x) = tt
    from_guarded (mark NOT) = tt
    from_guarded (mark OPEN) = tt
    from_guarded (mark CLOSE) = regroups _ _ (closed OR fs g s)
    from_guarded (mark COLON) = guard_ends _ _ (closed OR fs g s)
    from_guarded (mark SEMICOLON) = tt
    from_guarded (mark (SIGN o)) =
        let c = closed o fs g s in
        to (guarded fs g) (mark (SIGN o)) (point b gs es (suc u) (guarding (joining o (close (strength o) fs g).guard ∷ (close (strength o) fs g).frames))) (leb (u + 2) 504)
        (λ t. record { clauses = s.clauses; used_is = omega (arith, c.sizes_same); room = omega (arith, leb-true); in_phase_lem = ((c.weak, c.fits, c.formed), omega (arith, c.fits.deep), omega (arith, leb-true)) })
        (λ t ts. items_closed c (mark (SIGN o) ∷ ts))

  module _ (g : Guard) where
    -- the last slot is filled; a slot is filled
    clause_read : (s : Slot) (ss : List Slot) (ns l : List ℕ) (i : Item) → SoundIn (telling g (s ∷ ss) ns) → Filled n l (said ++ i ∷ [])
        → Leads (telling g (s ∷ ss) ns) i (after_slot (point b gs es u (telling g (s ∷ ss) ns)) g [] l)
    unfolding clause_items
    clause_read s ss ns l i t w =
        let c : Clause = record { guard = g; node = w.node; value = w.value; time = w.time } in
        let f = t.in_phase_lem.0 in
        rw w.numbers_are
        (record {
          said_now = [];
          sound =
              record {
                clauses = clauses_added b c t.clauses (record { stands = f.stands; operands = f.operands; brackets = omega (arith, f.deep); in_row = w.in_row; binary = w.binary; in_time = w.in_time });
                used_is = omega (arith, sizes_added b gs es c, t.used_is);
                room = t.room;
                in_phase_lem = tt;
              };
          same = λ ts. rw (past_added b gs es c ts, append_assoc (guard_items g), ← append_snoc said i ts, w.items_are);
        })

    slot_filled : (s : Slot) (ss : List Slot) (ns m : List ℕ) (i : Item) → SoundIn (telling g (s ∷ ss) ns) → Told n ss (ns ++ m) (said ++ i ∷ [])
        → Leads (telling g (s ∷ ss) ns) i (after_slot (point b gs es u (telling g (s ∷ ss) ns)) g ss (ns ++ m))
    slot_filled s [] ns m i t w = clause_read s [] ns (ns ++ m) i t (simp append-nil at (w.fills_all [] [] full))
    slot_filled s (s' ∷ ss) ns m i t w =
        record {
          said_now = said ++ i ∷ [];
          sound = record { clauses = t.clauses; used_is = t.used_is; room = t.room; in_phase_lem = (t.in_phase_lem.0, w) };
          same = λ ts. rw (append_snoc said i ts);
        }

    from_telling : (ss : List Slot) (ns : List ℕ) (i : Item) → SoundIn (telling g ss ns) → Next (telling g ss ns) i
    unfolding step
    from_telling [] ns i t = tt
    from_telling (s ∷ ss) ns i t = mapped_each _ _ (filled s i) (each_map (filled s i) (λ m f. slot_filled s ss ns m i t (told_more t.in_phase_lem.1 f)) (fills s i))

  -- in every phase
  onward : (φ : Phase) (i : Item) → SoundIn φ → Next φ i
  onward starting = from_starting
  onward listing = from_listing
  onward (guarding fs) = from_guarding fs
  onward (guarded fs g) = λ i s. from_guarded fs g s i
  onward (telling g ss ns) = from_telling g ss ns

pub step_sound : (k n : ℕ) (p : Point) (said : List Item) (i : Item) {q : Point} → Sound k n p said → step k n p i ≡ some q → Onward k n p said i q
step_sound k n p said i s = each _ (onward k n p.second p.given p.expect p.used said p.phase i s)

-- and so on for more items
sound_steps : (k n : ℕ) (p : Point) (said is : List Item) {q : Point} → Sound k n p said → steps k n p is ≡ some q → (now : List Item) × Sound k n q now × (items p said is ≡ items q now [])
unfolding steps
sound_steps k n p said [] {q} s e = let same : p ≡ q = cc in rw (← same) (said, s, refl)
sound_steps k n p said (i ∷ is) s e =
    let (r, d, f) = both_steps (step k n p i) (λ r. steps k n r is) e in
    let w = step_sound k n p said i s d in
    let (now, sound, same) = sound_steps k n r w.said_now is w.sound f in
    (now, sound, w.same is ∙ same)

-- so from the start
pub start_sound : (k n : ℕ) → Sound k n start []
unfolding EachFits sizes
start_sound k n = record { clauses = record { given_fits = tt; expect_fits = tt; later = λ f. refl; few = omega arith }; used_is = omega arith; room = omega arith; in_phase_lem = (refl, refl) }

pub reached : (k n : ℕ) (is : List Item) (q : Point) → steps k n start is ≡ some q → (said : List Item) × Sound k n q said × (is ≡ items q said [])
reached k n is q = sound_steps k n start [] is (start_sound k n)
