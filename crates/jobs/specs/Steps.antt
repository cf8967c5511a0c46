-- What the inner functions promise.
-- Assumes nothing.
use Rattle.std.specs.Prelude.{Result, Ok, Err}
use Rattle.stored.specs.declared.Size.{Size}
use Rattle.stored.specs.declared.Refusal.{Refusal}
use Rattle.blocks.specs.declared.layout.Layout.{Layout}

-- reading's answer, with the sizes in place of the layout that they give
abbrev pub sizes_read : Result Layout Refusal → Result Size Refusal
sizes_read (Ok layout) = Ok layout.size
sizes_read (Err r) = Err r
