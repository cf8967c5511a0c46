-- `tell`: the first of the ten numbers is the word's, and each byte is one of theirs.
-- Assumes nothing.
use Rattle.std.proofs.Common.{◌≡◌, ℕ, ◌/◌, ◌%◌, ap, ◌∙◌, get_or, length-set, arith}
use Rattle.std.proofs.lemmas.List.Edits.{fill_by_more}
use Rattle.scans.specs.Lists.{list_of}
use Rattle.scans.proofs.Lists.{list_of_is}
use Rattle.stored.specs.Bytes.{digit}
use Rattle.boundary.specs.Answer.{ten_numbers, bytes_of}
use Rattle.boundary.proofs.TellingLaws.{low_byte}
use Rattle.boundary.proofs.telling.tell.Goals as goal

pub returns-clause-result_is : goal.returns-clause-result_is
unfolding ten_numbers list_of
returns-clause-result_is g c = ap (λ l. get_or l 0 0) c.numbers-numbers.ensures

pub returns-clause-room_is : goal.returns-clause-room_is
unfolding bytes_of
returns-clause-room_is g c =
    list_of_is _ c.loop-i.room (λ k h. c.loop-i.invariant.1 k (omega arith)) ∙ ap (list_of _) c.loop-i.invariant.0 ∙ ap bytes_of c.numbers-numbers.ensures

pub loop-i-preserved : goal.loop-i-preserved
loop-i-preserved g c =
    let i = c.loop-i.i in
    let byte = λ (k : ℕ). digit (get_or c.numbers-numbers.result (k / 4) 0) (k % 4) in
    let is : get_or c.to_le_bytes.result (i % 4) 0 ≡ byte i = ap (λ l. get_or l (i % 4) 0) c.to_le_bytes.ensures ∙ low_byte (get_or c.numbers-numbers.result (i / 4) 0) (i % 4) (omega arith) in
    (length-set _ _ _ ∙ c.loop-i.invariant.0, rw is (fill_by_more byte c.loop-i.room i 0 (omega arith) c.loop-i.invariant.1))
