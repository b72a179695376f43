-- The invariant: all fit exactly when the tasks left fit in the cores left.
use mathlib.Core.Path.{◌≡◌}
use lib.Dec.{leb}
use Rattle.model.specs.inner.Fitting.{least_cores}
use Rattle.choices.specs.Tasks.{tasks_of_table}
use Rattle.whole.proofs.Rests.{fits_from}
use Rattle.whole.proofs.fits.Given as goal

abbrev pub invariant-loop-task : goal.invariant-loop-task
invariant-loop-task l =
    leb (least_cores (tasks_of_table l.checked.table.now)) l.checked.header.cores ≡ fits_from l.checked.table.now l.task l.left
