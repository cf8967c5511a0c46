-- `tell`: the line is that of what check answered.
-- Assumes nothing.
use Rattle.std.specs.Prelude.{Ok, Err}
use Rattle.kelpanvil.proofs.tell.Goals as goal

pub returns-in-Ok : goal.returns-in-Ok
returns-in-Ok c = record { answer = Ok c.in-Ok.answer; answers = c.in-Ok.ensures; given = c.verdict_line.ensures.0; fits = c.verdict_line.ensures.1 }

pub returns-in-Err : goal.returns-in-Err
returns-in-Err c = record { answer = Err c.in-Err.refusal; answers = c.in-Err.ensures; given = c.refusal_line.ensures.0; fits = c.refusal_line.ensures.1 }
