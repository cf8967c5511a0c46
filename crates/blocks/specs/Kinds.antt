-- The kinds of blocks: their numbers, and which blocks are of which kind.
-- Assumes nothing.
use Rattle.std.specs.Prelude.{ℕ, ◌<◌, ◌≤◌}
use Rattle.stored.specs.declared.Size.{Size}
use Rattle.stored.specs.Layout.{first_expressions, first_clauses}
use Rattle.blocks.specs.declared.layout.Kind.{Kind}
use Rattle.blocks.specs.declared.layout.Kind.TheVariants.{Header, Nodes, Expressions, Clauses}

abbrev pub number_of : Kind → ℕ
number_of Header = 1
number_of Nodes = 2
number_of Expressions = 3
number_of Clauses = 4

-- block b stands among the blocks of this kind
abbrev pub Standing : Size → ℕ → Kind → Type 0
Standing z b Header = b < 1
Standing z b Nodes = (1 ≤ b) × (b < first_expressions z)
Standing z b Expressions = (1 ≤ b) × (first_expressions z ≤ b) × (b < first_clauses z)
Standing z b Clauses = (1 ≤ b) × (first_expressions z ≤ b) × (first_clauses z ≤ b)
