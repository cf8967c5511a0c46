-- Each record before the loop's place is what the job has there, and each other what a record of zeros says.
-- Assumes nothing.
use Rattle.std.proofs.Common.{◌≡◌, ℕ, [], ◌*◌, ◌<◌, ◌≤◌, length, slice_index_or}
use Rattle.scans.specs.Lists.{list_of}
use Rattle.stored.specs.Layout.{record_byte}
use Rattle.decoded.proofs.records.decode_list.Given as goal

abbrev pub invariant-loop-i : goal.invariant-loop-i
invariant-loop-i g l = record {
  long : length l.list ≡ g.row.N;
  done : (k : ℕ) (d : g.row.R.Denot) → k < l.i → slice_index_or l.list k d ≡ g.R.Decode.value_at (list_of (record_byte l.job l.first) (8 * l.count)) (8 * k);
  rest : (k : ℕ) (d : g.row.R.Denot) → l.i ≤ k → k < g.row.N → slice_index_or l.list k d ≡ g.R.Decode.value_at [] 0;
}
