-- The lines that 01 prints, and one of each other kind.
-- Assumes nothing.
use mathlib.Core.Path.{◌≡◌, refl}
use Rattle.meaning.specs.declared.JobAnswer.TheVariants.{Holds, Fails, Vacant}
use Rattle.texts.specs.Texts.{text}
use Rattle.texts.specs.Decimals.{digits, decimal}
use Rattle.lines.specs.Lines.{field, counts, place, value, missed, verdict_line, refusal_line}

-- the flag job, P8 and P9 of 01
pub flag_fails : verdict_line (Fails (record { cases = 2; passing = 1; failing = 1; empty = 0 }) 0 1 1 0 2) ≡ text "FAILS cases=2 passing=1 failing=1 empty=0 case=0 time=1 node=1 wanted=0 found=X\n"
unfolding digits decimal field counts place value missed verdict_line
flag_fails = refl

pub flag_holds : verdict_line (Holds (record { cases = 2; passing = 2; failing = 0; empty = 0 })) ≡ text "HOLDS cases=2 passing=2 failing=0 empty=0\n"
unfolding digits decimal field counts verdict_line
flag_holds = refl

pub flag_vacant : verdict_line (Vacant (record { cases = 2; passing = 1; failing = 0; empty = 1 }) 1 1 1) ≡ text "VACANT cases=2 passing=1 failing=0 empty=1 case=1 time=1 node=1\n"
unfolding digits decimal field counts place verdict_line
flag_vacant = refl

-- all cases of twelve variables fail, at the last time and node
pub most_fails : verdict_line (Fails (record { cases = 4096; passing = 0; failing = 4096; empty = 0 }) 0 255 1007 1 0) ≡ text "FAILS cases=4096 passing=0 failing=4096 empty=0 case=0 time=255 node=1007 wanted=1 found=0\n"
unfolding digits decimal field counts place value missed verdict_line
most_fails = refl

pub refused_gate : refusal_line 8 1 0 ≡ text "REFUSED 8 block=1 record=0\n"
unfolding digits decimal field refusal_line
refused_gate = refl
