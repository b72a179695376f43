use mathlib.Core.Path.{◌∙◌}
use Rattle.cells.proofs.Counts.{counts_min}
use Rattle.cells.proofs.count_of.Goals as goal

pub returns : goal.returns
returns c = c.min.ensures ∙ counts_min c.args.x
