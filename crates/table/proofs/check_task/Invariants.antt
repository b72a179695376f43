-- The invariant: the rows of the modes passed are not given.
use mathlib.Core.Path.{◌≡◌}
use Prim.Native.Nat.{◌-◌}
use Rattle.answer.specs.Order.{first}
use Rattle.model.specs.Turns.{each_from}
use Rattle.block.specs.Layout.{figures_in}
use Rattle.block.specs.Tests.{modes_rows}
use Rattle.table.specs.Said.{the_task}
use Rattle.table.specs.Order.{task_said, whole_task_rows}
use Rattle.table.proofs.check_task.Given as goal

abbrev pub invariant-loop-mode : goal.invariant-loop-mode
invariant-loop-mode l =
    (the_task l.task ≡ task_said l.block)
    × (first (whole_task_rows l.common l.number l.at l.block) (task_said l.block)
    ≡ first (modes_rows l.at l.common (each_from (figures_in l.block) l.mode (l.task.modes - l.mode))) (task_said l.block))
