use mathlib.Core.Path.{sym}
use Rattle.model.proofs.Sums.{reads_within, reads_above}
use Rattle.cells.proofs.reads.Goals as goal

pub returns-then-x-le-CEILING : goal.returns-then-x-le-CEILING
returns-then-x-le-CEILING c = sym (reads_within _ c.if-x-le-CEILING.true)

pub returns-else-x-le-CEILING : goal.returns-else-x-le-CEILING
returns-else-x-le-CEILING c = sym (reads_above _ c.if-x-le-CEILING.false)
