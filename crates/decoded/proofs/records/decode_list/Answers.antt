-- A record more is decoded, and what stands past them all says what a record of zeros does.
-- Assumes nothing.
use Rattle.std.proofs.Common.{◌≡◌, sym, ◌∙◌, [], ◌*◌, ◌+◌, ◌<◌, slice_index_or, slice_set, arith}
use Rattle.std.proofs.lemmas.List.{get_or-set_same, get_or-set_other}
use native.Mathlib.Decide.{dec_lt}
use lib.ListN.{length-set}
use borrow.Author.Count.{below_more}
use Rattle.scans.specs.Lists.{list_of}
use Rattle.scans.proofs.Lists.{list_of_past}
use Rattle.stored.specs.Layout.{record_byte}
use Rattle.decoded.proofs.records.decode_list.Goals as goal

pub loop-i-init : goal.loop-i-init
loop-i-init g c = record { long = c.told-list; done = λ k d l. absurd (omega arith); rest = λ k d l m. c.requires.zeros k d m }

pub loop-i-preserved : goal.loop-i-preserved
loop-i-preserved g c =
    let before = c.loop-i.invariant in
    let xs = c.loop-i.list in
    let i = c.loop-i.i in
    let new = c.record.result in
    record {
      long = length-set xs i new ∙ before.long;
      done = λ k d. below_more (λ k. slice_index_or (slice_set xs i new) k d ≡ g.R.Decode.value_at (list_of (record_byte c.args.job.now c.args.first) (8 * c.args.count)) (8 * k)) i
          (λ k l. get_or-set_other xs i k new d (λ e. omega arith) ∙ before.done k d l)
          (get_or-set_same xs i new d (omega (arith, before.long, c.min-i-end.ensures)) ∙ c.record.ensures c.args.count (omega (arith, c.min-i-end.ensures)))
          k;
      rest = λ k d l m. get_or-set_other xs i k new d (λ e. omega arith) ∙ before.rest k d (omega arith) m;
    }

pub returns : goal.returns
returns g c i d l = go (dec_lt i c.args.count)
  where
    go : Dec (i < c.args.count) → slice_index_or c.loop-i.list i d ≡ g.R.Decode.value_at (list_of (record_byte c.args.job.now c.args.first) (8 * c.args.count)) (8 * i)
    go (yes k) = c.loop-i.invariant.done i d (omega (arith, c.min-i-end.ensures))
    go (no k) =
        let list = list_of (record_byte c.args.job.now c.args.first) (8 * c.args.count) in
        c.loop-i.invariant.rest i d (omega (arith, c.min-i-end.ensures)) l
        ∙ g.R.Decode.laws [] list 0 (8 * i) (λ f m. sym (list_of_past (record_byte c.args.job.now c.args.first) (8 * c.args.count) (8 * i + f) (omega arith)))
