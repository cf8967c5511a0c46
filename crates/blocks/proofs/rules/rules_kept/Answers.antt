-- `rules_kept` goes through the three stages as the table does.
-- Assumes nothing.
use Rattle.std.proofs.Common.{rules, arith}
use Rattle.stored.specs.Rules.{node_ok, expression_ok, clause_ok}
use Rattle.stored.proofs.CheckedLaws.{checking}
use Rattle.blocks.specs.Steps.{spot}
use Rattle.blocks.proofs.rules.rules_kept.Goals as goal

pub returns-in_err-unless_each_record : goal.returns-in_err-unless_each_record
returns-in_err-unless_each_record c =
    let gates = c.unless_each_record.ensures (λ i. node_ok c.args.layout.size.n c.args.nodes.bytes.now (spot c.args.nodes.first i)) (λ i r h e. search rules) in
    record { is = λ next. grind (arith, checking, gates) }

pub returns-in_err-unless_each_record-2 : goal.returns-in_err-unless_each_record-2
returns-in_err-unless_each_record-2 c =
    let z = c.args.layout.size in
    let gates = c.unless_each_record.ensures (λ i. node_ok z.n c.args.nodes.bytes.now (spot c.args.nodes.first i)) (λ i r h e. search rules) in
    let guards = c.unless_each_record-2.ensures (λ i. expression_ok z.k i c.args.expressions.bytes.now (spot c.args.expressions.first i)) (λ i r h e. search rules) in
    record { is = λ next. rw (← c.first_expressions.ensures.0) (grind (arith, checking, gates, guards)) }

pub returns : goal.returns
returns c =
    let z = c.args.layout.size in
    let gates = c.unless_each_record.ensures (λ i. node_ok z.n c.args.nodes.bytes.now (spot c.args.nodes.first i)) (λ i r h e. search rules) in
    let guards = c.unless_each_record-2.ensures (λ i. expression_ok z.k i c.args.expressions.bytes.now (spot c.args.expressions.first i)) (λ i r h e. search rules) in
    let clauses = c.unless_each_record-3.ensures (λ i. clause_ok z.n z.e c.args.clauses.bytes.now (spot c.args.clauses.first i)) (λ i r h e. search rules) in
    record { is = λ next. rw (← c.first_clauses.ensures.0, ← c.first_expressions.ensures.0) (grind (arith, checking, gates, guards, clauses)) }
