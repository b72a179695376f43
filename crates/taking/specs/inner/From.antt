-- Taking the plan past the table's checks and those of what is lent.
use Rattle.std.specs.Prelude.{ℕ, List}
use Rattle.model.specs.Taking.{take_rows}
use Rattle.choices.specs.Tasks.{tasks_of_table, cores_of_table}
use Rattle.taking.specs.Said.{Taken}
use Rattle.taking.specs.Take.{cell_of, TookBy}

abbrev pub TookFrom : List ℕ → List ℕ → List ℕ → Taken → List ℕ → Type 0
TookFrom bytes cells before r after = TookBy (take_rows (cell_of bytes cells) (tasks_of_table bytes) (cores_of_table bytes)) bytes cells before r after
