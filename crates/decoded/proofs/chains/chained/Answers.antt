-- The clauses from the loop's place on are chained.
-- Assumes nothing.
use Rattle.std.proofs.Common.{◌-◌, refl, arith}
use Rattle.decoded.specs.Plans.{clause_of}
use Rattle.decoded.proofs.ChainLaws.{chain_none, chain_down}
use Rattle.decoded.proofs.chains.chained.Goals as goal

pub loop-i-init : goal.loop-i-init
loop-i-init c = chain_none (clause_of c.args.clauses.now) c.args.c _ _ refl (omega arith)

pub loop-i-preserved : goal.loop-i-preserved
loop-i-preserved c =
    let l = c.requires.times (c.loop-i.i - 1) (omega arith) in
    chain_down (clause_of c.args.clauses.now) c.args.c (omega arith) c.loop-i.invariant c.from-t.ensures (omega (arith, c.from-t.ensures)) refl refl
