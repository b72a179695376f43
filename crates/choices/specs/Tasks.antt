-- A table as the planner sees it: each task the list of its choices, by the rules for one mode.
use Rattle.std.specs.Prelude.{ℕ, List}
use Rattle.model.specs.Rules.{cores_of, demand_of, cost_of}
use Rattle.model.specs.Turns.{each_from}
use Rattle.model.specs.Plan.{Choice, Task}
use Rattle.model.specs.Workspace.{cell_count}
use Rattle.block.specs.Tests.{allows}
use Rattle.table.specs.Numbers.{TaskNumbers, Numbers, numbers_in}

-- the cores of mode j of a task
abbrev pub cores_at : TaskNumbers → ℕ → ℕ
cores_at t j = cores_of (t.figures j).work (t.figures j).span (t.figures j).period

-- its demand, with the common period H
abbrev pub demand_at : ℕ → TaskNumbers → ℕ → ℕ
demand_at H t j = demand_of (t.figures j).work (t.figures j).period H

-- its cost: mode 0 is the nominal mode, whether permitted or not
abbrev pub cost_at : ℕ → TaskNumbers → ℕ → ℕ
cost_at H t j = cost_of t.elasticity (demand_at H t 0) (demand_at H t j)

-- the mode as the planner sees it
abbrev pub choice_of : ℕ → TaskNumbers → ℕ → Choice
choice_of H t j = record { permitted = allows t.permitted j; need = cores_at t j; cost = cost_at H t j }

-- the task, and the tasks of a table
unfoldable pub task_of : ℕ → TaskNumbers → Task
task_of H t = each_from (choice_of H t) 0 t.modes

unfoldable pub tasks_of : Numbers → List Task
tasks_of t = each_from (λ i. task_of t.common (t.task i)) 0 t.tasks

-- those of a table's bytes, with its cores m and the cells W of its workspace
abbrev pub tasks_of_table : List ℕ → List Task
tasks_of_table bytes = tasks_of (numbers_in bytes)

abbrev pub cores_of_table : List ℕ → ℕ
cores_of_table bytes = (numbers_in bytes).cores

abbrev pub cells_of_table : List ℕ → ℕ
cells_of_table bytes = cell_count (numbers_in bytes).tasks (numbers_in bytes).cores
