-- What reading refuses is refused, and any other job is decided.
-- Assumes nothing.
use Rattle.std.proofs.lemmas.Result.{err_from_is_err_and}
use Rattle.runs.proofs.OperationLaws.{check_refused, check_given}
use Rattle.runs.proofs.check.Goals as goal

pub returns-in_err-make_ready : goal.returns-in_err-make_ready
returns-in_err-make_ready c =
    let p = err_from_is_err_and c.from_residual.result c.from_residual.ensures.1 in
    rw (p.1, p.2) (check_refused c.args.job.now c.in_err-make_ready.ensures)

pub returns : goal.returns
returns c = check_given c.args.job.now _ c.in_ok-make_ready.ensures c.decide.ensures
