-- `Word::with`: what is past the numbers is zeros.
-- Assumes nothing.
use Rattle.std.proofs.Common.{◌≡◌, ◌+◌, ◌-◌, length, arith, rules}
use Rattle.boundary.proofs.TellingLaws.{padded}
use Rattle.boundary.proofs.answers.Word.with.Goals as goal

pub returns : goal.returns
returns g c =
    let long : length c.args.numbers ≡ g.row.N = search rules in
    rw (c.number.ensures, c.copy_from_slice.ensures.after) (padded _ c.args.numbers {n = g.row.N + 1 - 1} (omega arith) (omega arith))
