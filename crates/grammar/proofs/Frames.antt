-- Frames met while a guard is read: where an operator finds nothing to close, and what closing gives.
-- Assumes nothing.
use borrow.Author.Tests.{le-leb, leb-true, leb-false, lt-leb}
use mathlib.Core.Path.{◌≡◌, refl, ◌∙◌, ap}
use mathlib.Core.Bool.{Bool, true, false, cond}
use mathlib.Core.List.{List, [], ◌∷◌, ◌++◌, append_assoc}
use native.Mathlib.Omega.{arith}
use Prim.Native.Nat.{ℕ, suc, ◌+◌, ◌≤◌}
use lib.Dec.{leb}
use Rattle.grammar.specs.Items.{Operator, AND, XOR, OR, NOT, OPEN, SIGN, Item, mark}
use Rattle.grammar.specs.Guards.{Guard, letter, constant, complement, bracketed, joined, guard_items, strength, Stands, OperandsIn, depth, size}
use Rattle.grammar.specs.Points.{Frame, negating, grouping, joining, Closed, close, groups, Fresh}

pub strength_from : (o : Operator) → 1 ≤ strength o
strength_from AND = omega arith
strength_from XOR = omega arith
strength_from OR = omega arith

pub strength_to : (o : Operator) → strength o ≤ 3
strength_to AND = omega arith
strength_to XOR = omega arith
strength_to OR = omega arith

-- every guard has an operand
pub size_some : (g : Guard) → 1 ≤ size g
unfolding size
size_some (letter i) = omega arith
size_some (constant v) = omega arith
size_some (complement g) = omega arith
size_some (bracketed g) = size_some g
size_some (joined o g h) = omega arith

-- frames in which an operator finds nothing to close; none is above 3
pub fresh_from : {s t : ℕ} {fs : List Frame} → s ≤ t → Fresh s fs → Fresh t fs
fresh_from l f = record { stays = λ o g h. f.stays o g (omega arith) }

pub fresh_none : (s : ℕ) → Fresh s []
unfolding close
fresh_none s = record { stays = λ o g h. refl }

pub fresh_grouping : (s : ℕ) (fs : List Frame) → Fresh s (grouping ∷ fs)
unfolding close
fresh_grouping s fs = record { stays = λ o g h. refl }

pub fresh_joining : (o : Operator) (h : Guard) (fs : List Frame) → Fresh (suc (strength o)) (joining o h ∷ fs)
unfolding close
fresh_joining o h fs = record { stays = λ o' g l. rw (lt-leb (strength o') (strength o) l) }

pub fresh_4 : (fs : List Frame) → Fresh 4 fs
fresh_4 fs = record { stays = λ o g h. absurd (omega (arith, strength_to o)) }

-- an operator as strong as the next has its right side then
pub close_joining : (s : ℕ) (o : Operator) (h g : Guard) (fs : List Frame) → s ≤ strength o → close s (joining o h ∷ fs) g ≡ close s fs (joined o h g)
unfolding close
close_joining s o h g fs l = rw (le-leb s (strength o) l)

-- a guard that stands at strength s inside m brackets
pub record GuardFits (k s m : ℕ) (g : Guard) : Type 0 where
  pub stands : Stands s g
  pub operands : OperandsIn k g
  pub deep : m + depth g ≤ 32

pub fits_complement : {k m : ℕ} {g : Guard} (s : ℕ) → GuardFits k 4 m g → GuardFits k s m (complement g)
unfolding Stands OperandsIn depth
fits_complement s f = record { stands = f.stands; operands = f.operands; deep = f.deep }

pub fits_bracketed : {k m : ℕ} {g : Guard} (s : ℕ) → GuardFits k 1 (suc m) g → GuardFits k s m (bracketed g)
unfolding Stands OperandsIn depth
fits_bracketed s f = record { stands = f.stands; operands = f.operands; deep = omega arith }

fits_joined : {k s m : ℕ} {o : Operator} {g h : Guard} → s ≤ strength o → GuardFits k (strength o) m g → GuardFits k (suc (strength o)) m h → GuardFits k s m (joined o g h)
unfolding Stands OperandsIn depth
fits_joined l f e = record { stands = (l, f.stands, e.stands); operands = (f.operands, e.operands); deep = omega arith }

-- the weakest operator that stays inside the last of the frames
abbrev pub level : List Frame → ℕ
level [] = 1
level (negating ∷ fs) = 4
level (grouping ∷ fs) = 1
level (joining o h ∷ fs) = suc (strength o)

unfoldable pub Formed : ℕ → List Frame → Type 0
Formed k [] = Unit {0}
Formed k (negating ∷ fs) = Formed k fs
Formed k (grouping ∷ fs) = Formed k fs
Formed k (joining o h ∷ fs) = (level fs ≤ strength o) × GuardFits k (strength o) (groups fs) h × Formed k fs

-- their operands and operators
unfoldable pub frames_size : List Frame → ℕ
frames_size [] = 0
frames_size (negating ∷ fs) = suc (frames_size fs)
frames_size (grouping ∷ fs) = frames_size fs
frames_size (joining o h ∷ fs) = suc (frames_size fs + size h)

-- their items, and then ts
unfoldable pub over : List Frame → List Item → List Item
over [] ts = ts
over (negating ∷ fs) ts = over fs (mark NOT ∷ ts)
over (grouping ∷ fs) ts = over fs (mark OPEN ∷ ts)
over (joining o h ∷ fs) ts = over fs (guard_items h ++ mark (SIGN o) ∷ ts)

-- what is closed is of the same items, and stands where an operator of strength s comes next
pub record Closes (k s : ℕ) (fs : List Frame) (g : Guard) (c : Closed) : Type 0 where
  pub formed : Formed k c.frames
  pub weak : level c.frames ≤ s
  pub fits : GuardFits k s (groups c.frames) c.guard
  pub sizes_same : frames_size c.frames + size c.guard ≡ frames_size fs + size g
  pub items_same : (ts : List Item) → over c.frames (guard_items c.guard ++ ts) ≡ over fs (guard_items g ++ ts)

module _ (k s : ℕ) (some : 1 ≤ s) where
  pub closes : (fs : List Frame) (g : Guard) → Formed k fs → GuardFits k s (groups fs) g → GuardFits k (level fs) (groups fs) g → Closes k s fs g (close s fs g)
  unfolding close Formed groups frames_size over guard_items size
  closes [] g f here last = record { formed = f; weak = some; fits = here; sizes_same = refl; items_same = λ ts. refl }
  closes (grouping ∷ fs) g f here last = record { formed = f; weak = some; fits = here; sizes_same = refl; items_same = λ ts. refl }
  closes (negating ∷ fs) g f here last =
      let r = closes fs (complement g) f (fits_complement _ last) (fits_complement _ last) in
      record { formed = r.formed; weak = r.weak; fits = r.fits; sizes_same = omega (arith, r.sizes_same); items_same = r.items_same }
  closes (joining o h ∷ fs) g f here last = go (leb s (strength o)) refl (closes fs (joined o h g) f.2)
    where
      go : (b : Bool) → leb s (strength o) ≡ b → (GuardFits k s (groups fs) (joined o h g) → GuardFits k (level fs) (groups fs) (joined o h g) → Closes k s fs (joined o h g) (close s fs (joined o h g)))
          → Closes k s (joining o h ∷ fs) g (cond b (close s fs (joined o h g)) (record { frames = joining o h ∷ fs; guard = g }))
      go true e ih =
          let r = ih (fits_joined (leb-true _ _ e) f.1 last) (fits_joined f.0 f.1 last) in
          record {
            formed = r.formed;
            weak = r.weak;
            fits = r.fits;
            sizes_same = omega (arith, r.sizes_same);
            items_same = λ ts. r.items_same ts ∙ ap (over fs) (append_assoc (guard_items h) (mark (SIGN o) ∷ guard_items g) ts);
          }
      go false e ih = record { formed = f; weak = leb-false _ _ e; fits = here; sizes_same = refl; items_same = λ ts. refl }
