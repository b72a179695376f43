-- The invariant: the rows of the tasks passed are not given.
use mathlib.Core.Path.{◌≡◌}
use Prim.Native.Nat.{◌-◌}
use Rattle.answer.specs.Order.{first}
use Rattle.table.specs.Said.{the_header}
use Rattle.table.specs.Order.{header_block, header_said, tasks_rows, table_said}
use Rattle.table.proofs.check.Given as goal

abbrev pub invariant-loop-task : goal.invariant-loop-task
invariant-loop-task l =
    (the_header l.header ≡ header_said (header_block l.table))
    × (table_said l.table
    ≡ first (tasks_rows l.table l.header.common l.task (l.header.tasks - l.task)) (header_said (header_block l.table)))
