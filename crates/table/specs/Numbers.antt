-- The numbers of a table, as asking gives them: of each task below their count, and of each mode below the task's mode count.
use Rattle.std.specs.Prelude.{ℕ, List}
use Rattle.model.specs.Turns.{each_from}
use Rattle.model.specs.declared.Figures.{Figures}
use Rattle.block.specs.Layout.{tasks_in, cores_in, common_in, elasticity_in, modes_in, permitted_in, figures_in, flat}
use Rattle.table.specs.Order.{header_block, task_block}

pub record TaskNumbers : Type 0 where
  pub elasticity : ℕ
  pub modes : ℕ
  pub permitted : ℕ
  pub figures : ℕ → Figures

-- its figures, three numbers for each mode in turn, as they are lent to the writer
abbrev pub figures_of : TaskNumbers → List ℕ
figures_of t = flat (each_from t.figures 0 t.modes)

pub record Numbers : Type 0 where
  pub tasks : ℕ
  pub cores : ℕ
  pub common : ℕ
  pub task : ℕ → TaskNumbers

-- those that bytes hold
abbrev pub task_numbers_in : List ℕ → TaskNumbers
task_numbers_in block =
    record { elasticity = elasticity_in block; modes = modes_in block; permitted = permitted_in block; figures = figures_in block }

abbrev pub numbers_in : List ℕ → Numbers
numbers_in bytes =
    let block = header_block bytes in
    record { tasks = tasks_in block; cores = cores_in block; common = common_in block; task = λ i. task_numbers_in (task_block bytes i) }
