-- `make_ready`: what reading promises lets the lists be decoded, and the plan be made of them.
-- Assumes nothing.
use Rattle.std.proofs.Common.{◌∙◌, arith}
use Rattle.std.proofs.lemmas.List.{get_or-replicate}
use Rattle.ready.proofs.ReadyLaws.{accepted, narrow, means_is, decoded_is, ready_of}
use Rattle.ready.proofs.make_ready.Goals as goal

pub invariant_of-layout : goal.invariant_of-layout
invariant_of-layout c = record { narrow = narrow c.args.job.now _ (accepted c.args.job.now c.sizes.ensures c.in_ok-size.was) }

-- each list holds what a record of zeros says
pub decode_list-requires : goal.decode_list-requires
decode_list-requires c = (omega arith, ((omega arith, omega arith), λ i d l. get_or-replicate 1008 i _ d l ∙ c.decode-nodes.ensures))

pub decode_list-requires-2 : goal.decode_list-requires-2
decode_list-requires-2 c = (omega arith, ((omega (arith, c.first_expressions-e1.ensures.1), omega arith), λ i d l. get_or-replicate 504 i _ d l ∙ c.decode-expressions.ensures))

pub decode_list-requires-3 : goal.decode_list-requires-3
decode_list-requires-3 c = (omega arith, ((omega (arith, c.first_clauses-c1.ensures.1), omega arith), λ i d l. get_or-replicate 504 i _ d l ∙ c.decode-clauses.ensures))

pub new-requires : goal.new-requires
new-requires c =
    decoded_is c.args.job.now _ (accepted c.args.job.now c.sizes.ensures c.in_ok-size.was) _ _ _ _ _ c.first_expressions-e1.ensures.0 c.first_clauses-c1.ensures.0 (omega arith) (omega arith) (omega arith)
    c.decode_list.ensures c.decode_list-2.ensures c.decode_list-3.ensures

pub returns : goal.returns
returns c =
    let read = accepted c.args.job.now c.sizes.ensures c.in_ok-size.was in
    ready_of c.new.ensures.size c.new.ensures.nodes c.new.ensures.expressions c.new.ensures.clauses read
    (means_is c.args.job.now _ read _ _ _ _ _ c.first_expressions-e1.ensures.0 c.first_clauses-c1.ensures.0 (omega arith) (omega arith) (omega arith)
    c.decode_list.ensures c.decode_list-2.ensures c.decode_list-3.ensures)
