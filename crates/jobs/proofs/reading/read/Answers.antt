-- `read` goes through the table of reading.
-- Assumes nothing.
use Rattle.std.proofs.Common.{rules, arith, refl}
use Rattle.stored.specs.Layout.{header_sizes}
use Rattle.stored.specs.Reading.{sum_ok, number_ok, block_ok, rest_ok, accepted_as}
use Rattle.blocks.proofs.Spots.{rules_read}
use Rattle.jobs.proofs.ReadLaws.{read_table}
use Rattle.jobs.proofs.reading.read.Goals as goal

pub returns-in_err-unless : goal.returns-in_err-unless
returns-in_err-unless c =
    let s = c.args.s.now in
    let table = read_table s c.length_ok.ensures c.unless.ensures refl refl refl refl refl refl refl refl in
    grind (arith, table)

pub returns-in_err-unless_each_block : goal.returns-in_err-unless_each_block
returns-in_err-unless_each_block c =
    let s = c.args.s.now in
    let sums = c.unless_each_block.ensures (sum_ok s) (λ i r h e. search rules) in
    let table = read_table s c.length_ok.ensures c.unless.ensures sums refl refl refl refl refl refl refl in
    grind (arith, table)

pub returns-in_err-unless_each_block-2 : goal.returns-in_err-unless_each_block-2
returns-in_err-unless_each_block-2 c =
    let s = c.args.s.now in
    let sums = c.unless_each_block.ensures (sum_ok s) (λ i r h e. search rules) in
    let numbers = c.unless_each_block-2.ensures (number_ok s) (λ i r h e. search rules) in
    let table = read_table s c.length_ok.ensures c.unless.ensures sums numbers refl refl refl refl refl refl in
    grind (arith, table)

pub returns-in_err-unless-2 : goal.returns-in_err-unless-2
returns-in_err-unless-2 c =
    let s = c.args.s.now in
    let sums = c.unless_each_block.ensures (sum_ok s) (λ i r h e. search rules) in
    let numbers = c.unless_each_block-2.ensures (number_ok s) (λ i r h e. search rules) in
    let table = read_table s c.length_ok.ensures c.unless.ensures sums numbers c.header_ok.ensures c.unless-2.ensures refl refl refl refl in
    grind (arith, table)

pub returns-in_err-unless-3 : goal.returns-in_err-unless-3
returns-in_err-unless-3 c =
    let s = c.args.s.now in
    let sums = c.unless_each_block.ensures (sum_ok s) (λ i r h e. search rules) in
    let numbers = c.unless_each_block-2.ensures (number_ok s) (λ i r h e. search rules) in
    let table = read_table s c.length_ok.ensures c.unless.ensures sums numbers c.header_ok.ensures c.unless-2.ensures c.count_ok.ensures c.unless-3.ensures refl refl in
    grind (arith, table)

pub returns-in_err-unless_each_block-3 : goal.returns-in_err-unless_each_block-3
returns-in_err-unless_each_block-3 c =
    let s = c.args.s.now in
    let sums = c.unless_each_block.ensures (sum_ok s) (λ i r h e. search rules) in
    let numbers = c.unless_each_block-2.ensures (number_ok s) (λ i r h e. search rules) in
    let blocks = c.unless_each_block-3.ensures (block_ok s) (λ i r h e. search rules) in
    let table = read_table s c.length_ok.ensures c.unless.ensures sums numbers c.header_ok.ensures c.unless-2.ensures c.count_ok.ensures c.unless-3.ensures blocks refl in
    grind (arith, table)

pub returns-in_err-unless_each_block-4 : goal.returns-in_err-unless_each_block-4
returns-in_err-unless_each_block-4 c =
    let s = c.args.s.now in
    let sums = c.unless_each_block.ensures (sum_ok s) (λ i r h e. search rules) in
    let numbers = c.unless_each_block-2.ensures (number_ok s) (λ i r h e. search rules) in
    let blocks = c.unless_each_block-3.ensures (block_ok s) (λ i r h e. search rules) in
    let rests = c.unless_each_block-4.ensures (rest_ok s) (λ i r h e. search rules) in
    let table = read_table s c.length_ok.ensures c.unless.ensures sums numbers c.header_ok.ensures c.unless-2.ensures c.count_ok.ensures c.unless-3.ensures blocks rests in
    grind (arith, table)

pub returns-in_err-rules_kept : goal.returns-in_err-rules_kept
returns-in_err-rules_kept c =
    let s = c.args.s.now in
    let sums = c.unless_each_block.ensures (sum_ok s) (λ i r h e. search rules) in
    let numbers = c.unless_each_block-2.ensures (number_ok s) (λ i r h e. search rules) in
    let blocks = c.unless_each_block-3.ensures (block_ok s) (λ i r h e. search rules) in
    let rests = c.unless_each_block-4.ensures (rest_ok s) (λ i r h e. search rules) in
    let table = read_table s c.length_ok.ensures c.unless.ensures sums numbers c.header_ok.ensures c.unless-2.ensures c.count_ok.ensures c.unless-3.ensures blocks rests in
    let kept = rw (c.in_blocks-nodes.ensures.bytes, c.in_blocks-nodes.ensures.first, c.in_blocks-expressions.ensures.bytes, c.in_blocks-expressions.ensures.first, c.in_blocks-clauses.ensures.bytes, c.in_blocks-clauses.ensures.first) at c.rules_kept.ensures in
    let rules_of = rules_read s c.of_header-layout.result.size c.of_header-layout.ensures c.first_expressions.ensures.0 c.first_clauses.ensures.0 kept (accepted_as (header_sizes s)) in
    grind (arith, table, rules_of)

pub returns : goal.returns
returns c =
    let s = c.args.s.now in
    let sums = c.unless_each_block.ensures (sum_ok s) (λ i r h e. search rules) in
    let numbers = c.unless_each_block-2.ensures (number_ok s) (λ i r h e. search rules) in
    let blocks = c.unless_each_block-3.ensures (block_ok s) (λ i r h e. search rules) in
    let rests = c.unless_each_block-4.ensures (rest_ok s) (λ i r h e. search rules) in
    let table = read_table s c.length_ok.ensures c.unless.ensures sums numbers c.header_ok.ensures c.unless-2.ensures c.count_ok.ensures c.unless-3.ensures blocks rests in
    let kept = rw (c.in_blocks-nodes.ensures.bytes, c.in_blocks-nodes.ensures.first, c.in_blocks-expressions.ensures.bytes, c.in_blocks-expressions.ensures.first, c.in_blocks-clauses.ensures.bytes, c.in_blocks-clauses.ensures.first) at c.rules_kept.ensures in
    let rules_of = rules_read s c.of_header-layout.result.size c.of_header-layout.ensures c.first_expressions.ensures.0 c.first_clauses.ensures.0 kept (accepted_as (header_sizes s)) in
    grind (arith, table, rules_of)
