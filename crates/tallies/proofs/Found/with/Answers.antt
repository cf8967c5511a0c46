-- The count goes on, and the least case stays or is this group's.
-- Assumes nothing.
use Rattle.std.proofs.Common.{arith}
use Rattle.meaning.specs.Guards.{bit_of}
use Rattle.meaning.proofs.Tallies.{tally_le}
use Rattle.tallies.proofs.FoundLaws.{found_more}
use Rattle.tallies.proofs.Found.with.Goals as goal

pub overflow_add-result : goal.overflow_add-result
overflow_add-result c = omega (arith, c.count.ensures, tally_le (bit_of c.args.w) 64)

pub returns : goal.returns
returns c = λ f cases h d v. rw c.or.ensures (found_more f cases c.args.g c.args.w h v _ d c.count.ensures c.least_in.ensures)
