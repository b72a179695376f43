-- Taking the plan: from any contents of the workspace, just what those cells say.
use Rattle.std.specs.Prelude.{ℕ, List, [], ◌∷◌, ◌++◌, ltb, length, drop}
use Rattle.answer.specs.Said.{plan}
use Rattle.answer.specs.Order.{Row, row, Outcome}
use Rattle.model.specs.Workspace.{cell_in}
use Rattle.model.specs.Taking.{used, take_rows, take_modes}
use Rattle.table.specs.Order.{table_rows}
use Rattle.table.specs.Numbers.{numbers_in}
use Rattle.choices.specs.Tasks.{tasks_of_table, cores_of_table, cells_of_table}
use Rattle.taking.specs.Said.{Taken, said}

-- the cell in row i at column c, as it reads
abbrev pub cell_of : List ℕ → List ℕ → ℕ → ℕ → ℕ
cell_of bytes cells i c = cell_in (numbers_in bytes).tasks (numbers_in bytes).cores cells i c

-- after the table's checks 15: the workspace, then the output, which needs n bytes, is too short
unfoldable pub lent_rows : List ℕ → ℕ → ℕ → List Row
lent_rows bytes cells out =
    table_rows bytes
    ++ row 15 0 (ltb cells (cells_of_table bytes))
    ∷ row 15 0 (ltb out (numbers_in bytes).tasks)
    ∷ []

-- then 16, 17: progress above W, below W
abbrev pub progress_rows : ℕ → ℕ → List Row
progress_rows W p = row 16 0 (ltb W p) ∷ row 17 0 (ltb p W) ∷ []

-- then 14 and 18
unfoldable pub taking_rows : List ℕ → List ℕ → ℕ → ℕ → List Row
taking_rows bytes cells p out =
    lent_rows bytes (length cells) out
    ++ (progress_rows (cells_of_table bytes) p
    ++ take_rows (cell_of bytes cells) (tasks_of_table bytes) (cores_of_table bytes))

-- the modes, one byte per task, and the rest of the buffer as it was
abbrev pub with_modes : List ℕ → List ℕ → List ℕ
with_modes modes out = modes ++ drop (length modes) out

-- by these rows: the answer, cores used and cost, and the whole output afterwards
abbrev pub TookBy : List Row → List ℕ → List ℕ → List ℕ → Taken → List ℕ → Type 0
TookBy rows bytes cells before r after =
    let cell = cell_of bytes cells in
    let m = cores_of_table bytes in
    Outcome rows (plan (used (cell 0) m) (cell 0 m)) before (with_modes (take_modes cell (tasks_of_table bytes) m) before) (said r) after

-- by all of them
abbrev pub TookPlan : List ℕ → List ℕ → ℕ → List ℕ → Taken → List ℕ → Type 0
TookPlan bytes cells p before r after = TookBy (taking_rows bytes cells p (length before)) bytes cells before r after
