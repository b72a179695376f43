-- The invariant: the modes passed are loaded.
use mathlib.Core.Path.{◌≡◌}
use mathlib.Core.List.{map}
use Rattle.model.specs.Turns.{each_from}
use Rattle.table.specs.Numbers.{task_numbers_in}
use Rattle.cells.specs.inner.Rows.{held}
use Rattle.choices.specs.inner.Modes.{mode_of}
use Rattle.choices.proofs.load_modes.Given as goal

abbrev pub invariant-loop-j : goal.invariant-loop-j
invariant-loop-j l = map held l.modes.items ≡ each_from (mode_of l.common (task_numbers_in l.block)) 0 l.j
