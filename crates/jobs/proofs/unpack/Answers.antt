-- `unpack` reads, and then asks for room before it writes any list.
-- Assumes nothing.
use Rattle.std.proofs.Common.{arith}
use Rattle.std.proofs.lemmas.Result.{err_from_is_err_and}
use Rattle.jobs.proofs.UnpackLaws.{unpack_refused, unpack_short, unpack_fits, unpack_done}
use Rattle.jobs.proofs.unpack.Goals as goal

pub returns-in_err-layout : goal.returns-in_err-layout
returns-in_err-layout c =
    let p = err_from_is_err_and c.from_residual.result c.from_residual.ensures.1 in
    rw (p.1, p.2) (unpack_refused _ _ _ _ _ c.in_err-layout.ensures)

pub returns-in_err-unless : goal.returns-in_err-unless
returns-in_err-unless c =
    let p = err_from_is_err_and c.from_residual-in_err-unless.result c.from_residual-in_err-unless.ensures.1 in
    rw (p.1, p.2) (unpack_short _ _ _ _ c.in_ok-layout.layout.size c.in_ok-layout.ensures c.room_ok.ensures c.unless.ensures _ c.in_err-unless.was)

pub copy_records-requires : goal.copy_records-requires
copy_records-requires c =
    let z = c.in_ok-layout.layout.size in
    let fits = unpack_fits c.args.job.now c.args.nodes.now c.args.expressions.now c.args.clauses.now z c.in_ok-layout.ensures c.room_ok.ensures c.unless.ensures c.in_ok-unless.was in
    omega (arith, fits)

pub copy_records-requires-2 : goal.copy_records-requires-2
copy_records-requires-2 c =
    let z = c.in_ok-layout.layout.size in
    let fits = unpack_fits c.args.job.now c.args.nodes.now c.args.expressions.now c.args.clauses.now z c.in_ok-layout.ensures c.room_ok.ensures c.unless.ensures c.in_ok-unless.was in
    omega (arith, fits)

pub copy_records-requires-3 : goal.copy_records-requires-3
copy_records-requires-3 c =
    let z = c.in_ok-layout.layout.size in
    let fits = unpack_fits c.args.job.now c.args.nodes.now c.args.expressions.now c.args.clauses.now z c.in_ok-layout.ensures c.room_ok.ensures c.unless.ensures c.in_ok-unless.was in
    omega (arith, fits)

pub returns : goal.returns
returns c =
    unpack_done c.args.job.now c.args.nodes.now c.args.expressions.now c.args.clauses.now c.in_ok-layout.layout.size c.in_ok-layout.ensures c.room_ok.ensures c.unless.ensures c.in_ok-unless.was
    c.first_expressions.ensures.0 c.first_clauses.ensures.0 c.copy_records.ensures c.copy_records-2.ensures c.copy_records-3.ensures
