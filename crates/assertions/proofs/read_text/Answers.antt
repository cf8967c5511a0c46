-- `read_text`: the limits, the text, the room; then both lists are written.
-- Assumes nothing.
use Rattle.std.proofs.lemmas.Result.{err_from_is_err_and}
use Rattle.assertions.proofs.AnswerLaws.{limits_few, refused_text, refused_room, written}
use Rattle.assertions.proofs.read_text.Goals as goal

pub invariant_of-whole_text : goal.invariant_of-whole_text
invariant_of-whole_text c =
    let (few_k, few_n) = limits_few c.args.k c.args.n c.in_limits.ensures c.if-not-in_limits.false in
    record { few_variables = few_k; few_nodes = few_n }

pub returns-in_err-whole_text : goal.returns-in_err-whole_text
returns-in_err-whole_text c =
    let p = err_from_is_err_and c.from_residual.result c.from_residual.ensures.1 in
    rw (p.1, p.2) (refused_text c.args.k c.args.n c.in_limits.ensures c.if-not-in_limits.false c.in_err-whole_text.ensures.says)

pub returns-then-not-has_room : goal.returns-then-not-has_room
returns-then-not-has_room c =
    refused_room c.args.k c.args.n c.in_limits.ensures c.if-not-in_limits.false c.in_ok-whole_text.ensures.says (rw (c.bytes-es.ensures, c.bytes-cs.ensures) at c.has_room.ensures) c.if-not-has_room.true

pub returns : goal.returns
returns c =
    written c.args.k c.args.n c.in_limits.ensures c.if-not-in_limits.false c.in_ok-whole_text.ensures.says (rw (c.bytes-es.ensures, c.bytes-cs.ensures) at c.has_room.ensures) c.if-not-has_room.false
    (rw c.bytes-es.ensures at c.put_front.ensures.put) (rw c.bytes-cs.ensures at c.put_front-2.ensures.put) c.count.ensures.0 c.count-2.ensures.0
