-- One test of a table by itself: what a function answers that makes it, so that the next test can follow.
-- Assumes nothing.
use Rattle.std.specs.Prelude.{Result, Ok, Err}
use Rattle.stored.specs.declared.Refusal.{Refusal}
use Rattle.scans.specs.First.{first_bad}
use Rattle.scans.specs.Refusals.{Stage, unless_at}
use Rattle.meaning.specs.Stated.{Stated}
use Rattle.stored.specs.Reading.{refused}

-- a stage's refusal, at the first place where it fails
unfoldable pub checked : Stage → Result Unit Refusal
checked st = unless_at (first_bad st.ok st.count) (λ i. Err (record { number = st.number; block = st.block i; «record» = st.slot i })) (Ok tt)

-- what is answered once a test has been made: its refusal, or what comes next
abbrev pub followed : Result Unit Refusal → Stated → Stated
followed (Ok _) next = next
followed (Err r) next = refused r.number r.block r.«record»
