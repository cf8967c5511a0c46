-- A node's gate alone says what it is forced to, if it has no operand.
-- Assumes nothing.
use Rattle.groups.proofs.gates.Gates.steady_at.Goals as goal

pub returns : goal.returns
returns c = record { from = c.steady_pair.ensures }
