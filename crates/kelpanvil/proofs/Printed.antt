-- With room for 256 bytes, what `tell` hands out is the whole line of the answer.
-- Assumes nothing.
use borrow.Author.Tests.{le-leb}
use mathlib.Core.Path.{◌≡◌, sym, ◌∙◌, ap}
use mathlib.Core.Bool.{cond}
use mathlib.Core.List.{List, ◌++◌}
use native.Mathlib.Omega.{arith}
use Prim.Native.Nat.{ℕ, ◌≤◌}
use lib.ListN.{length, take, drop}
use lib.Seq.{take_at}
use Rattle.lines.specs.Lines.{checked_line}
use Rattle.kelpanvil.specs.Told.{Tells}

pub printed : {job out out' : List ℕ} {n : ℕ} (t : Tells job out out' n) → 256 ≤ length out → take n out' ≡ checked_line t.answer
printed {out = out} {out'} {n} t h =
    let line = checked_line t.answer in
    let whole = le-leb (length line) (length out) (omega (arith, t.fits)) in
    let count : n ≡ length line = t.given.count ∙ ap (λ b. cond b (length line) 0) whole in
    let is : out' ≡ line ++ drop (length line) out = t.given.out_is ∙ ap (λ b. cond b (line ++ drop (length line) out) out) whole in
    ap (take n) is ∙ take_at line (drop (length line) out) n (sym count)
