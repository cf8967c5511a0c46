-- Sizes as 16 bits can say them.
-- Assumes nothing.
use Rattle.std.specs.Prelude.{◌<◌}
use Rattle.stored.specs.declared.Size.{Size}

pub record Narrow (z : Size) : Type 0 where
  pub n : z.n < 65536
  pub e : z.e < 65536
  pub c : z.c < 65536
