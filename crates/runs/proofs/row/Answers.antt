-- What reading refuses is refused, then the four tests of a row, and what passes them is written.
-- Assumes nothing.
use Rattle.std.proofs.Common.{sym, ◌∙◌, ap, refl, ◌++◌, length, drop, arith}
use Rattle.std.proofs.lemmas.List.{length-take-le}
use Rattle.std.proofs.lemmas.Result.{err_from_is_err_and}
use borrow.Author.Tests.{leb-true}
use Rattle.stored.proofs.CheckedLaws.{passed_whole}
use Rattle.runs.proofs.OperationLaws.{row_refused, row_kept, row_table, row_given, failed, passed, whole_failed, whole_passed, row_length}
use Rattle.runs.proofs.row.Goals as goal

pub returns-in_err-plan : goal.returns-in_err-plan
returns-in_err-plan c =
    let p = err_from_is_err_and c.from_residual.result c.from_residual.ensures.1 in
    rw (p.1, p.2) (row_refused c.args.job.now c.in_err-plan.ensures c.args.case c.args.time _)

pub returns-in_err-known_case : goal.returns-in_err-known_case
returns-in_err-known_case c =
    let p = err_from_is_err_and c.from_residual-in_err-known_case.result c.from_residual-in_err-known_case.ensures.1 in
    let table = row_table c.args.job.now c.in_ok-plan.plan c.in_ok-plan.ensures c.args.case c.args.time c.args.out.now c.known_case.ensures refl refl in
    rw (p.1, p.2) (row_kept c.args.job.now c.args.case c.args.time c.args.out.now _ (table ∙ failed _ c.in_err-known_case.was))

pub returns-in_err-unless : goal.returns-in_err-unless
returns-in_err-unless c =
    let p = err_from_is_err_and c.from_residual-in_err-unless.result c.from_residual-in_err-unless.ensures.1 in
    let table = row_table c.args.job.now c.in_ok-plan.plan c.in_ok-plan.ensures c.args.case c.args.time c.args.out.now c.known_case.ensures c.unless.ensures refl in
    rw (p.1, p.2) (row_kept c.args.job.now c.args.case c.args.time c.args.out.now _ (table ∙ passed _ c.in_ok-known_case.was ∙ failed _ c.in_err-unless.was))

pub returns-in_err-unless-2 : goal.returns-in_err-unless-2
returns-in_err-unless-2 c =
    let p = err_from_is_err_and c.from_residual-in_err-unless-2.result c.from_residual-in_err-unless-2.ensures.1 in
    let table = row_table c.args.job.now c.in_ok-plan.plan c.in_ok-plan.ensures c.args.case c.args.time c.args.out.now c.known_case.ensures c.unless.ensures c.unless-2.ensures in
    rw (p.1, p.2)
    (row_kept c.args.job.now c.args.case c.args.time c.args.out.now _ (table ∙ passed _ c.in_ok-known_case.was ∙ passed _ c.in_ok-unless.was ∙ failed _ c.in_err-unless-2.was))

pub case_row-requires : goal.case_row-requires
case_row-requires c = let timely = leb-true _ _ (passed_whole 12 _ c.unless.ensures c.in_ok-unless.was) in omega arith

pub returns-in_default : goal.returns-in_default
returns-in_default c =
    let table = row_table c.args.job.now c.in_ok-plan.plan c.in_ok-plan.ensures c.args.case c.args.time c.args.out.now c.known_case.ensures c.unless.ensures c.unless-2.ensures in
    let asked = table ∙ passed _ c.in_ok-known_case.was ∙ passed _ c.in_ok-unless.was ∙ passed _ c.in_ok-unless-2.was in
    rw c.whole.ensures (row_kept c.args.job.now c.args.case c.args.time c.args.out.now _ (asked ∙ whole_failed 14 _ c.in_default.ensures))

pub slice_bounds-copy_from_slice-end : goal.slice_bounds-copy_from_slice-end
slice_bounds-copy_from_slice-end c = leb-true _ _ (passed_whole 13 _ c.unless-2.ensures c.in_ok-unless-2.was)

pub slice_bounds-copy_from_slice-end-2 : goal.slice_bounds-copy_from_slice-end-2
slice_bounds-copy_from_slice-end-2 c = sym (length-take-le _ _ (leb-true _ _ (passed_whole 13 _ c.unless-2.ensures c.in_ok-unless-2.was)))

pub copy_from_slice-requires : goal.copy_from_slice-requires
copy_from_slice-requires c =
    length-take-le _ _ (leb-true _ _ (passed_whole 13 _ c.unless-2.ensures c.in_ok-unless-2.was)) ∙ sym (ap length c.in-Some.ensures.1 ∙ row_length _ _ _ _)

pub returns : goal.returns
returns c =
    let table = row_table c.args.job.now c.in_ok-plan.plan c.in_ok-plan.ensures c.args.case c.args.time c.args.out.now c.known_case.ensures c.unless.ensures c.unless-2.ensures in
    let asked = table ∙ passed _ c.in_ok-known_case.was ∙ passed _ c.in_ok-unless.was ∙ passed _ c.in_ok-unless-2.was in
    row_given c.args.job.now c.in_ok-plan.plan c.in_ok-plan.ensures c.args.case c.args.time c.args.out.now (asked ∙ whole_passed 14 _ c.in-Some.ensures.0) (ap (λ l. l ++ drop c.in_ok-plan.plan.size.n c.args.out.now) (c.copy_from_slice.ensures.after ∙ c.in-Some.ensures.1))
