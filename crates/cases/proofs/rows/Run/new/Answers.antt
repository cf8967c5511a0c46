-- The words of the case's group guard it at its place.
-- Assumes nothing.
use Rattle.std.proofs.Common.{◌≡◌, ◌+◌, ◌*◌, ◌/◌, ◌%◌, subst, arith}
use Rattle.guards.specs.Guarded.{Guarded}
use Rattle.guards.proofs.GuardLaws.{guarded}
use Rattle.decoded.specs.Meant.{job_in}
use Rattle.cases.proofs.rows.Run.new.Goals as goal

pub invariant_of-result : goal.invariant_of-result
invariant_of-result c =
    let p = c.args.plan.now in
    let x = c.args.case in
    let words = c.guard_words.result in
    let same : 64 * (x / 64) + x % 64 ≡ x = omega arith in
    record {
      guarded = subst (Guarded (job_in p) p.size.e words (x % 64)) same (guarded p (x / 64) words (x % 64) (omega arith) c.guard_words.ensures);
      before = record { shows = λ t e. absurd (omega arith) };
    }
