-- `pack` goes through the table of packing before it writes.
-- Assumes nothing.
use Rattle.std.proofs.Common.{arith, refl}
use Rattle.std.proofs.lemmas.Result.{err_from_is_err_and}
use Rattle.stored.specs.Operations.{records_for}
use Rattle.jobs.proofs.PackLaws.{limits_narrow, limits_small, pack_refused, pack_done, pack_start, pack_table, pack_fits}
use Rattle.jobs.proofs.pack.Goals as goal

pub returns-in_err-unless : goal.returns-in_err-unless
returns-in_err-unless c =
    let r = records_for c.args.k c.args.nodes.now c.args.expressions.now c.args.clauses.now in
    let p = err_from_is_err_and c.from_residual.result c.from_residual.ensures.1 in
    let start = pack_start r c.args.out.now (c.lists_ok.ensures _) c.unless.ensures refl refl in
    rw (p.1, p.2) (pack_refused r _ _ (grind (arith, start)))

pub returns-in_err-unless-2 : goal.returns-in_err-unless-2
returns-in_err-unless-2 c =
    let r = records_for c.args.k c.args.nodes.now c.args.expressions.now c.args.clauses.now in
    let p = err_from_is_err_and c.from_residual-in_err-unless-2.result c.from_residual-in_err-unless-2.ensures.1 in
    let start = pack_start r c.args.out.now (c.lists_ok.ensures _) c.unless.ensures c.limits_ok.ensures c.unless-2.ensures in
    rw (p.1, p.2) (pack_refused r _ _ (grind (arith, start)))

pub invariant_of-layout : goal.invariant_of-layout
invariant_of-layout c = record { narrow = limits_narrow _ c.limits_ok.ensures c.unless-2.ensures c.in_ok-unless-2.was }

pub returns-in_err-rules_kept : goal.returns-in_err-rules_kept
returns-in_err-rules_kept c =
    let r = records_for c.args.k c.args.nodes.now c.args.expressions.now c.args.clauses.now in
    let p = err_from_is_err_and c.from_residual-in_err-rules_kept.result c.from_residual-in_err-rules_kept.ensures.1 in
    let kept = rw (c.in_row.ensures.bytes, c.in_row.ensures.first, c.in_row-2.ensures.bytes, c.in_row-2.ensures.first, c.in_row-3.ensures.bytes, c.in_row-3.ensures.first) at c.rules_kept.ensures in
    let table = pack_table r c.args.out.now (c.lists_ok.ensures _) c.unless.ensures c.limits_ok.ensures c.unless-2.ensures kept refl refl in
    rw (p.1, p.2) (pack_refused r _ _ (grind (arith, table)))

pub invariant_of-records : goal.invariant_of-records
invariant_of-records c = record { counted = record { small = limits_small _ c.limits_ok.ensures c.unless-2.ensures c.in_ok-unless-2.was; is = refl } }

pub returns-in_err-unless-3 : goal.returns-in_err-unless-3
returns-in_err-unless-3 c =
    let r = records_for c.args.k c.args.nodes.now c.args.expressions.now c.args.clauses.now in
    let p = err_from_is_err_and c.from_residual-in_err-unless-3.result c.from_residual-in_err-unless-3.ensures.1 in
    let kept = rw (c.in_row.ensures.bytes, c.in_row.ensures.first, c.in_row-2.ensures.bytes, c.in_row-2.ensures.first, c.in_row-3.ensures.bytes, c.in_row-3.ensures.first) at c.rules_kept.ensures in
    let table = pack_table r c.args.out.now (c.lists_ok.ensures _) c.unless.ensures c.limits_ok.ensures c.unless-2.ensures kept c.size-bytes.ensures.0 c.unless-3.ensures in
    rw (p.1, p.2) (pack_refused r _ _ (grind (arith, table)))

pub write-requires : goal.write-requires
write-requires c =
    let r = records_for c.args.k c.args.nodes.now c.args.expressions.now c.args.clauses.now in
    pack_fits r c.args.out.now c.size-bytes.ensures.0 c.unless-3.ensures c.in_ok-unless-3.was

pub returns : goal.returns
returns c =
    let r = records_for c.args.k c.args.nodes.now c.args.expressions.now c.args.clauses.now in
    let kept = rw (c.in_row.ensures.bytes, c.in_row.ensures.first, c.in_row-2.ensures.bytes, c.in_row-2.ensures.first, c.in_row-3.ensures.bytes, c.in_row-3.ensures.first) at c.rules_kept.ensures in
    let table = pack_table r c.args.out.now (c.lists_ok.ensures _) c.unless.ensures c.limits_ok.ensures c.unless-2.ensures kept c.size-bytes.ensures.0 c.unless-3.ensures in
    pack_done r c.args.out.now (grind (arith, table)) c.size-bytes.ensures.0 c.write.ensures
