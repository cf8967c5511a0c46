-- An expectation leaves all as it was, and a stimulus narrows its node.
-- Assumes nothing.
use Rattle.std.proofs.Common.{refl, sym, ◌∙◌, ◌<◌, length, slice_index_or, arith}
use borrow.Author.Rules.{rules}
use borrow.Author.Tests.{eq-eqb}
use denote.Enum.Bare.{same_true, same_false}
use Rattle.meaning.specs.contracts.Side.{the_type}
use Rattle.meaning.specs.Jobs.{on}
use Rattle.groups.proofs.StimulusLaws.{not_expectation, stimulates_not, stimulates_one}
use Rattle.groups.proofs.group.Group.narrow_by.Goals as goal

pub returns-then-eq : goal.returns-then-eq
returns-then-eq c = stimulates_not _ _ _ c.args.clause (same_true the_type (search rules) _ _ (sym c.eq.ensures ∙ c.if-eq.true))

pub returns : goal.returns
unfolding on
returns c =
    let s = c.args.self.now in
    let p = s.gates.now.plan.now in
    let k = c.args.clause in
    let room : k.node < length c.args.row.now = omega (arith, c.requires.node, p.decoded.n_most, c.told-row) in
    let narrowed = rw (c.from-node.ensures, c.from.ensures) at c.narrow-new.ensures in
    rw c.from-node.ensures
    (stimulates_one _ _ k.time k c.args.row.now (slice_index_or s.guards k.guard 0) (not_expectation _ (same_false the_type _ _ (sym c.eq.ensures ∙ c.if-eq.false)))
    (eq-eqb k.time k.time refl) c.requires.node room (λ i l. s.guarded.at i l k.guard c.requires.guard) narrowed c.collided.ensures)
