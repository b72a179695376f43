-- The invariant of the loop over the tasks is `AtTask`; that of the loop over a task's modes: nothing found or taken yet, and no mode
-- before j keeps the cell's cost.
use Prim.Native.Nat.{◌≤◌}
use mathlib.Core.Path.{◌≡◌}
use mathlib.Core.List.{map}
use Rattle.model.specs.Taking.{lowest}
use Rattle.cells.specs.inner.Rows.{held, row_reads}
use Rattle.taking.proofs.Tracing.{AtTask}
use Rattle.taking.proofs.trace.Given as goal

abbrev pub invariant-tasks : goal.invariant-tasks
invariant-tasks l =
    (l.i-iterator.iter.size ≡ l.width)
    × AtTask l.checked.table.now l.cells l.checked.header.tasks l.checked.header.cores l.used l.found.items l.i-iterator.count l.column
    l.i-iterator.iter.rest.now l.row

abbrev pub invariant-loop-j : goal.invariant-loop-j
invariant-loop-j l =
    (l.found ≡ l.initial.found) × (l.column ≡ l.initial.column)
    × (l.j ≤ lowest (map held l.mode-items) (row_reads l.next) l.initial.column l.cell)
