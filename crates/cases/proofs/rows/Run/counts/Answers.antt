-- The bit of the guard's word is its truth in the case.
-- Assumes nothing.
use Rattle.std.proofs.Common.{◌≡◌, refl, sym, true, get_or, ◌/◌, ◌%◌, ◌^◌, rules}
use denote.Enum.Bare.{same_true}
use lib.Bits.{and_mask}
use Rattle.meaning.specs.contracts.Side.{the_type}
use Rattle.meaning.specs.declared.Side.{Side}
use Rattle.meaning.specs.declared.Side.TheVariants.{Stimulus, Expectation}
use Rattle.meaning.specs.Guards.{bit_of}
use Rattle.meaning.specs.Jobs.{same_side}
use Rattle.cases.proofs.rows.Run.counts.Goals as goal

same : (side : Side) → same_side side side ≡ true
same Stimulus = refl
same Expectation = refl

pub returns-then-eq : goal.returns-then-eq
unfolding bit_of
returns-then-eq c =
    let s = c.args.self.now in
    let word = get_or s.guards c.args.clause.guard 0 in
    let is_side : c.args.clause.side ≡ c.args.side = same_true the_type (search rules) _ _ (sym c.if-eq.ensures) in
    rw (c.from.ensures, and_mask (word / 2 ^ (s.case % 64)) 1, s.guarded.at c.args.clause.guard c.requires, is_side, same c.args.side)
