-- Items that lead from the start to where a text may end are that text's, and it fits.
-- Assumes nothing.
use mathlib.Core.Path.{◌≡◌, refl, ◌∙◌, ap}
use mathlib.Core.Bool.{Bool, true, false}
use mathlib.Core.List.{List, [], append-nil}
use mathlib.Core.Option.{some}
use native.Mathlib.Omega.{arith}
use Prim.Native.Nat.{ℕ, ◌+◌, ◌≤◌}
use lib.ListN.{length}
use Rattle.scans.proofs.Bools.{left_true, right_true}
use Rattle.grammar.specs.Items.{Item}
use Rattle.grammar.specs.Grammar.{Text, text_items, EachFits, sizes}
use Rattle.grammar.specs.Points.{Phase, starting, listing, guarding, guarded, telling, Point, when, start, is_listing, finished}
use Rattle.grammar.proofs.Steps.{steps}
use Rattle.grammar.proofs.Reached.{past, up_to, reached}

passed : {A : Type 0} {a : A} (c : Bool) (x : A) → when c x ≡ some a → (c ≡ true) × (x ≡ a)
passed true x e = (refl, cc)
passed false x e = (cc, cc)

is_listing_lem : (φ : Phase) → is_listing φ ≡ true → φ ≡ listing
is_listing_lem starting e = cc
is_listing_lem listing e = refl
is_listing_lem (guarding fs) e = cc
is_listing_lem (guarded fs g) e = cc
is_listing_lem (telling g ss ns) e = cc

pub steps_text : (k n : ℕ) (is : List Item) (q : Point) (t : Text) → steps k n start is ≡ some q → finished q ≡ some t
    → (is ≡ text_items t) × EachFits k n t.given × EachFits k n t.expect × (length t.given + length t.expect ≤ 504) × (sizes t.given + sizes t.expect ≤ 504)
unfolding finished past text_items
steps_text k n is q t e f =
    let (said, s, same) = reached k n is q e in
    let (ended, text-is) = passed _ _ f in
    let here = is_listing_lem q.phase (left_true _ _ ended) in
    let front = past q.second q.given q.expect in
    rw (← text-is) (same ∙ ap (λ φ. up_to front φ said []) here ∙ rw (right_true (is_listing q.phase) _ ended, append-nil), s.clauses.given_fits, s.clauses.expect_fits, omega (arith, s.clauses.few), omega (arith, s.used_is, s.room))
