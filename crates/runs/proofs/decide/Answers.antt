-- The counts and the least cases decide the job.
-- Assumes nothing.
use Rattle.std.proofs.Common.{sym, ◌∙◌, arith}
use Rattle.decoded.specs.Meant.{job_in}
use Rattle.runs.proofs.DecideLaws.{counts_fit, decided_is, holds_is}
use Rattle.runs.proofs.decide.Goals as goal

pub counts_of-counts-requires : goal.counts_of-counts-requires
counts_of-counts-requires c =
    let fit = counts_fit (job_in c.args.plan.now) c.count_cases-counted.ensures.failing c.count_cases-counted.ensures.empty in
    omega (arith, fit, c.cases.ensures)

pub returns-in-Some : goal.returns-in-Some
returns-in-Some c =
    let counts = c.counts_of-counts.ensures in
    decided_is (job_in c.args.plan.now) c.count_cases-counted.ensures.failing c.count_cases-counted.ensures.empty c.counts_of-counts.result
    (counts.0 ∙ c.cases.ensures) (counts.1 ∙ c.cases.ensures) counts.2 counts.3 (sym c.or.ensures ∙ c.in-Some.is) c.case_answer.ensures c.decided.ensures

pub returns-in-None : goal.returns-in-None
returns-in-None c =
    let counts = c.counts_of-counts.ensures in
    holds_is (job_in c.args.plan.now) c.count_cases-counted.ensures.failing c.count_cases-counted.ensures.empty c.counts_of-counts.result
    (counts.0 ∙ c.cases.ensures) (counts.1 ∙ c.cases.ensures) counts.2 counts.3 (sym c.or.ensures ∙ c.in-None.is)
