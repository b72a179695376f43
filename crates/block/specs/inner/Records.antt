-- The numbers of a block together, as the code holds them.
use Rattle.std.specs.Prelude.{ℕ, List}
use Rattle.block.specs.declared.Header.{Header}
use Rattle.block.specs.declared.Task.{Task}
use Rattle.block.specs.Layout.{tasks_in, cores_in, common_in, elasticity_in, modes_in, permitted_in}

-- those of a header
abbrev pub header_in : List ℕ → Header
header_in block = record { tasks = tasks_in block; cores = cores_in block; common = common_in block }

-- those of a task: of its elasticity and of its modes
abbrev pub task_in : List ℕ → Task
task_in block = record { elasticity = elasticity_in block; modes = modes_in block; permitted = permitted_in block }
