-- `kelpanvil_text`: the answer told, and the lists as read_text leaves them.
-- Assumes nothing.
use mathlib.Core.Path.{refl}
use Rattle.scans.proofs.Bools.{both_ways}
use Rattle.boundary.proofs.TellingLaws.{told, room_there}
use Rattle.boundary.proofs.wordings.kelpanvil_text.Goals as goal

pub returns : goal.returns
returns c =
    let room = c.in-Some.ensures.cases.enough in
    record {
      tried = λ _. record { read = c.read_text.result; answered = c.read_text.ensures; told = told _ room refl c.tell.ensures.result_is c.tell.ensures.room_is };
      untried = λ h. both_ways (room_there _ room) h;
    }
