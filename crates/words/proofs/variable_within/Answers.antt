-- `variable_within`: the formula's six words, tested at their 64 places.
-- Assumes nothing.
use Rattle.words.proofs.Tables.{run_below, step_fits, variable_in}
use native.Mathlib.Omega.{arith}
use Rattle.words.proofs.variable_within.Goals as goal

pub overflow_shl-result : goal.overflow_shl-result
overflow_shl-result c = run_below c.args.v c.requires

pub overflow_add-result : goal.overflow_add-result
overflow_add-result c = omega (arith, step_fits c.args.v c.requires)

pub overflow_shl-result-2 : goal.overflow_shl-result-2
overflow_shl-result-2 c = run_below c.args.v c.requires

pub returns : goal.returns
returns c = variable_in c.args.v c.requires
