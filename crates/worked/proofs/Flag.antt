-- The flag job's bytes are what its records are stored as.
-- Assumes nothing.
use mathlib.Core.Path.{◌≡◌, refl}
use Rattle.scans.specs.Lists.{list_of}
use Rattle.stored.specs.Bytes.{word_sum}
use Rattle.stored.specs.Layout.{kind_of, used_of, plain_byte, check_word, block_byte, stored}
use Rattle.worked.specs.Jobs.{flag_bytes, flag_records}

pub flag_stored : flag_bytes ≡ stored flag_records
unfolding flag_records flag_bytes word_sum list_of kind_of used_of plain_byte check_word block_byte stored
flag_stored = refl
