-- The records that are stored, as the layout has them.
-- Assumes nothing.
use Rattle.storing.specs.declared.Records.{Records}
use Rattle.stored.specs.Layout as Layout
use Rattle.stored.specs.Operations.{records_for}

abbrev pub records_in : Records → Layout.Records
records_in r = records_for r.layout.size.k r.nodes.now r.expressions.now r.clauses.now
