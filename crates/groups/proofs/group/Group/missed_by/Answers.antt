-- A stimulus is not missed, and an expectation is compared with its node.
-- Assumes nothing.
use Rattle.std.proofs.Common.{refl, sym, ◌∙◌, slice_index_or}
use borrow.Author.Rules.{rules}
use borrow.Author.Tests.{eq-eqb}
use denote.Enum.Bare.{same_true, same_false}
use Rattle.meaning.specs.contracts.Side.{the_type}
use Rattle.meaning.specs.Jobs.{on}
use Rattle.groups.proofs.ExpectLaws.{not_stimulus, expects_not, expects_one}
use Rattle.groups.proofs.group.Group.missed_by.Goals as goal

pub returns-then-eq : goal.returns-then-eq
returns-then-eq c = expects_not _ _ _ c.args.clause (same_true the_type (search rules) _ _ (sym c.eq.ensures ∙ c.if-eq.true))

pub returns : goal.returns
unfolding on
returns c =
    let s = c.args.self.now in
    let k = c.args.clause in
    let differs = rw c.from.ensures at c.differs.ensures in
    rw c.from-2.ensures
    (expects_one _ _ k.time k (slice_index_or s.guards k.guard 0) (not_stimulus _ (same_false the_type _ _ (sym c.eq.ensures ∙ c.if-eq.false)))
    (eq-eqb k.time k.time refl) c.requires.node (λ i l. s.guarded.at i l k.guard c.requires.guard) differs)
