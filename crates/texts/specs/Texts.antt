-- A text as bytes.
-- Assumes nothing.
use Rattle.std.specs.Prelude.{List, [], ◌∷◌, ℕ}
use Prim.Native.Char.{code}
use Prim.Native.String.{String, [] as none, ◌∷◌ as ◌then◌}

-- a byte for each character; the texts of a line are ASCII
abbrev pub text : String → List ℕ
text none = []
text (c then rest) = code c ∷ text rest
