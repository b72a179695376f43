-- The invariant: the cells passed hold the least over the modes.
use mathlib.Core.Path.{◌≡◌}
use mathlib.Core.List.{◌++◌, map}
use lib.ListN.{drop}
use Rattle.model.specs.Turns.{each_from}
use Rattle.model.specs.Cells.{least}
use Rattle.cells.specs.inner.Rows.{held, row_reads}
use Rattle.cells.proofs.fill_run.Given as goal

abbrev pub invariant-loop-i : goal.invariant-loop-i
invariant-loop-i l = l.cells ≡ each_from (least (map held l.modes) (row_reads l.fn.next)) l.column l.i ++ drop l.i l.initial.cells
