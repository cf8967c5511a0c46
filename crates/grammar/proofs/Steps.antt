-- Items one after the other, the points that they lead to, and the clauses added there.
-- Assumes nothing.
use mathlib.Core.Path.{◌≡◌}
use mathlib.Core.Bool.{Bool, true, false, cond}
use mathlib.Core.List.{List, [], ◌∷◌, ◌++◌, append-nil, append_assoc}
use mathlib.Core.Option.{Option, some}
use native.Mathlib.Omega.{arith}
use Prim.Native.Nat.{ℕ, ◌+◌}
use lib.ListN.{length, length-append}
use Rattle.grammar.specs.Items.{Item}
use Rattle.grammar.specs.Guards.{size}
use Rattle.grammar.specs.Grammar.{Clause, Text, sizes}
use Rattle.grammar.specs.Points.{Phase, listing, Point, step, finished}
use Rattle.grammar.proofs.Options.{and_then, both_steps}

-- the point after these items, if they may stand there
unfoldable pub steps : ℕ → ℕ → Point → List Item → Option Point
steps k n p [] = some p
steps k n p (i ∷ is) = and_then (step k n p i) (λ q. steps k n q is)

pub chain : (k n : ℕ) (p : Point) (is js : List Item) {q r : Point} → steps k n p is ≡ some q → steps k n q js ≡ some r → steps k n p (is ++ js) ≡ some r
unfolding steps
chain k n p [] js {q} d e = let same : p ≡ q = cc in rw same e
chain k n p (i ∷ is) js d e = let (m, f, g) = both_steps (step k n p i) (λ m. steps k n m is) d in rw f (chain k n m is js g e)

-- more items lead from here to where a text may end
abbrev pub Ends : ℕ → ℕ → Point → Type 0
Ends k n p = (more : List Item) × (r : Point) × (t : Text) × (steps k n p more ≡ some r) × (finished r ≡ some t)

abbrev pub point : Bool → List Clause → List Clause → ℕ → Phase → Point
point b gs es u φ = record { second = b; given = gs; expect = es; used = u; phase = φ }

-- where more clauses go
abbrev pub to_given : Bool → List Clause → List Clause → List Clause
to_given b gs cs = cond b gs (gs ++ cs)

abbrev pub to_expect : Bool → List Clause → List Clause → List Clause
to_expect b es cs = cond b (es ++ cs) es

pub length_added : (b : Bool) (gs es cs : List Clause) → length (to_given b gs cs) + length (to_expect b es cs) ≡ length gs + length es + length cs
length_added true gs es cs = rw length-append (omega arith)
length_added false gs es cs = rw length-append (omega arith)

-- none more, and more after more
pub none_added : (b : Bool) (gs es : List Clause) (u : ℕ) → point b (to_given b gs []) (to_expect b es []) u listing ≡ point b gs es u listing
none_added true gs es u = rw append-nil
none_added false gs es u = rw append-nil

pub more_added : (b : Bool) (gs es cs ds : List Clause) (u : ℕ)
    → point b (to_given b (to_given b gs cs) ds) (to_expect b (to_expect b es cs) ds) u listing ≡ point b (to_given b gs (cs ++ ds)) (to_expect b es (cs ++ ds)) u listing
more_added true gs es cs ds u = rw append_assoc
more_added false gs es cs ds u = rw append_assoc

pub sizes_snoc : (cs : List Clause) (c : Clause) → sizes (cs ++ c ∷ []) ≡ sizes cs + size c.guard
unfolding sizes
sizes_snoc [] c = omega arith
sizes_snoc (d ∷ cs) c = omega (arith, sizes_snoc cs c)
