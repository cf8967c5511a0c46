-- The table of reading, test by test.
-- Assumes nothing.
use Rattle.std.specs.Prelude.{Result}
use Rattle.std.proofs.Common.{◌≡◌, ℕ, ◌/◌, Bool, List, length}
use Rattle.scans.specs.Refusals.{whole, in_order}
use Rattle.stored.specs.declared.Refusal.{Refusal}
use Rattle.stored.specs.Layout.{header_sizes, records_of}
use Rattle.stored.specs.Reading.{length_ok, sum_ok, number_ok, header_ok, count_ok, block_ok, rest_ok, per_block, record_stages, refused, accepted_as, read_answer}
use Rattle.stored.specs.Checked.{checked, followed}
use Rattle.stored.proofs.CheckedLaws.{checked_first}

-- each test is followed by the next, and the last by the records' rules
pub read_table : (s : List ℕ) {lengths sums numbers header count blocks rests : Result Unit Refusal} {l h c : Bool}
    → l ≡ length_ok (length s) → lengths ≡ checked (whole 1 l)
    → sums ≡ checked (per_block 2 (length s / 512) (sum_ok s))
    → numbers ≡ checked (per_block 3 (length s / 512) (number_ok s))
    → h ≡ header_ok s → header ≡ checked (whole 4 h)
    → c ≡ count_ok s (length s / 512) → count ≡ checked (whole 5 c)
    → blocks ≡ checked (per_block 6 (length s / 512) (block_ok s))
    → rests ≡ checked (per_block 7 (length s / 512) (rest_ok s))
    → read_answer s
    ≡ followed lengths (followed sums (followed numbers (followed header (followed count (followed blocks (followed rests (in_order refused (record_stages (records_of s)) (accepted_as (header_sizes s)))))))))
unfolding read_answer
read_table s l e1 e2 e3 h e4 c e5 e6 e7 = rw (e1, l, e2, e3, e4, h, e5, c, e6, e7) (simp checked_first)
