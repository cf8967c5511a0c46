-- `said`: a node, a value, a time and the semicolon.
-- Assumes nothing.
use mathlib.Core.Path.{refl}
use native.Mathlib.Omega.{arith}
use Rattle.grammar.specs.Items.{IS, AT, letters}
use Rattle.phrases.proofs.Exits.{left_with}
use Rattle.phrases.proofs.Standing.{stands, stands_not}
use Rattle.assertions.proofs.TellRuns.{no_node, no_value, no_time, no_end, told_all}
use Rattle.assertions.proofs.clauses.said.Goals as goal

pub returns-in_err-node : goal.returns-in_err-node
returns-in_err-node c = rw (left_with c.from_residual.result c.from_residual.ensures.1) (record { says = no_node c.skip.ensures c.in_err-node.ensures.says })

pub returns-in_err-value : goal.returns-in_err-value
unfolding letters
returns-in_err-value c =
    rw (left_with c.from_residual-in_err-value.result c.from_residual-in_err-value.ensures.1)
    (record { says = no_value c.skip.ensures c.in_ok-node.ensures.says.1 (c.in_err-value.ensures.counted IS refl).says })

pub labelled-requires-2 : goal.labelled-requires-2
unfolding letters
labelled-requires-2 c = ((c.in_ok-value.ensures.counted IS refl).says.1.inside, omega arith)

pub returns-in_err-time : goal.returns-in_err-time
unfolding letters
returns-in_err-time c =
    rw (left_with c.from_residual-in_err-time.result c.from_residual-in_err-time.ensures.1)
    (record { says = no_time c.skip.ensures c.in_ok-node.ensures.says.1 (c.in_ok-value.ensures.counted IS refl).says (c.in_err-time.ensures.counted AT refl).says })

pub skip-end-requires : goal.skip-end-requires
unfolding letters
skip-end-requires c = (c.in_ok-time.ensures.counted AT refl).says.1.inside

pub returns-then-not-is_at : goal.returns-then-not-is_at
unfolding letters
returns-then-not-is_at c =
    record { says = no_end c.skip.ensures c.in_ok-node.ensures.says.1 (c.in_ok-value.ensures.counted IS refl).says (c.in_ok-time.ensures.counted AT refl).says c.skip-end.ensures (stands_not c.is_at.ensures c.if-not-is_at.true) }

pub returns : goal.returns
unfolding letters
returns c =
    record { says = told_all c.skip.ensures c.in_ok-node.ensures.says.1 (c.in_ok-value.ensures.counted IS refl).says (c.in_ok-time.ensures.counted AT refl).says c.skip-end.ensures (stands c.is_at.ensures c.if-not-is_at.false) }

pub invariant_of-result : goal.invariant_of-result
unfolding letters
invariant_of-result c = record { binary = (c.in_ok-value.ensures.counted IS refl).says.0; in_time = (c.in_ok-time.ensures.counted AT refl).says.0 }
