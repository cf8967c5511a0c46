-- `each` finds no index that fails.
-- Assumes nothing.
use Rattle.std.specs.Prelude.{◌≡◌, ℕ, Bool, true, false, not, Option, None, Some, is_some, refl}
use Rattle.scans.specs.First.{is_clear, each}
use Rattle.scans.proofs.each.Goals as goal

clear_if_none : (found : Option ℕ) (none : Bool) → is_some found ≡ not none → none ≡ is_clear found
clear_if_none None true e = refl
clear_if_none None false e = absurd cc
clear_if_none (Some i) true e = absurd cc
clear_if_none (Some i) false e = refl

pub returns : goal.returns
unfolding each
returns g c = λ f h. rw (← c.first_bad.ensures f h) (clear_if_none _ _ c.is_none.ensures)
