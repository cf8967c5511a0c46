-- What reading refuses is refused, then a case that is none, and any other is answered.
-- Assumes nothing.
use Rattle.std.proofs.Common.{sym, ◌∙◌, ap}
use Rattle.std.proofs.lemmas.Result.{err_from_is_err_and}
use Rattle.meaning.specs.Stated.{stated_case}
use Rattle.runs.proofs.OperationLaws.{case_refused, case_table, failed, passed}
use Rattle.runs.proofs.one_case.Goals as goal

pub returns-in_err-plan : goal.returns-in_err-plan
returns-in_err-plan c =
    let p = err_from_is_err_and c.from_residual.result c.from_residual.ensures.1 in
    rw (p.1, p.2) (case_refused c.args.job.now c.in_err-plan.ensures c.args.case)

pub returns-in_err-known_case : goal.returns-in_err-known_case
returns-in_err-known_case c =
    let p = err_from_is_err_and c.from_residual-in_err-known_case.result c.from_residual-in_err-known_case.ensures.1 in
    rw (p.1, p.2) (sym (case_table c.args.job.now c.in_ok-plan.plan c.in_ok-plan.ensures c.args.case c.known_case.ensures ∙ failed _ c.in_err-known_case.was))

pub returns : goal.returns
returns c =
    ap stated_case c.case_answer.ensures ∙ sym (case_table c.args.job.now c.in_ok-plan.plan c.in_ok-plan.ensures c.args.case c.known_case.ensures ∙ passed _ c.in_ok-known_case.was)
