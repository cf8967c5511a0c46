-- A gate without operands is handed any.
-- Assumes nothing.
use Rattle.groups.proofs.SteadyLaws.{steady_forces}
use Rattle.groups.proofs.gates.steady_pair.Goals as goal

pub returns : goal.returns
returns c = steady_forces c.gate_pair.ensures
