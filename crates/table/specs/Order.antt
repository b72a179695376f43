-- The blocks of a table, and the order of its refusals: 1; header 2, 3, 4, 5, 6, 7; then each task block in turn 2, 3, 8, 9, 10, 6, and
-- its modes in turn 11, 12, 13. Asking gives 19 after them.
use Rattle.std.specs.Prelude.{ℕ, zero, suc, ◌+◌, ◌*◌, ◌%◌, ◌≡◌, Bool, not, ◌||◌, List, [], ◌∷◌, ◌++◌, eqb, leb, length, take, drop}
use Rattle.answer.specs.Said.{Said, header, task, figures}
use Rattle.answer.specs.Order.{Row, row, first}
use Rattle.model.specs.Turns.{each_from}
use Rattle.block.specs.Bytes.{check_of}
use Rattle.model.specs.declared.Figures.{Figures}
use Rattle.block.specs.Layout.{kind_in, check_in, edition_in, tasks_in, cores_in, common_in, header_unused, elasticity_in, modes_in, permitted_in, task_number_in, task_unused, figures_in}
use Rattle.block.specs.Tests.{wrong_limits, wrong_shape, wrong_permitted, modes_rows}

-- block k of the bytes: blocks of 512 bytes, counted from 0
unfoldable pub block_at : ℕ → List ℕ → List ℕ
block_at k bytes = take 512 (drop (512 * k) bytes)

-- the header, and the block of task i
abbrev pub header_block : List ℕ → List ℕ
header_block bytes = block_at 0 bytes

abbrev pub task_block : List ℕ → ℕ → List ℕ
task_block bytes i = block_at (i + 1) bytes

-- 2 and 3: check wrong, kind wrong for this block
abbrev pub wrong_check : List ℕ → Bool
wrong_check block = not (eqb (check_of block) (check_in block))

abbrev pub wrong_kind : ℕ → List ℕ → Bool
wrong_kind kind block = not (eqb (kind_in block) kind)

-- ---- header
abbrev pub header_rows : List ℕ → List Row
header_rows block =
    row 2 0 (wrong_check block)
    ∷ row 3 0 (wrong_kind 1 block)
    ∷ row 4 0 (not (eqb (edition_in block) 1))
    ∷ row 5 0 (wrong_limits (tasks_in block) (cores_in block) (common_in block))
    ∷ row 6 0 (header_unused block)
    ∷ []

abbrev pub header_said : List ℕ → Said
header_said block = header (tasks_in block) (cores_in block) (common_in block)

-- ---- a task block: the task number has to be i, and a refusal names the place `at`
abbrev pub task_rows : ℕ → ℕ → List ℕ → List Row
task_rows i at block =
    row 2 at (wrong_check block)
    ∷ row 3 at (wrong_kind 2 block)
    ∷ row 8 at (not (eqb (task_number_in block) i))
    ∷ row 9 at (wrong_shape (elasticity_in block) (modes_in block))
    ∷ row 10 at (wrong_permitted (permitted_in block) (modes_in block))
    ∷ row 6 at (task_unused block)
    ∷ []

abbrev pub task_said : List ℕ → Said
task_said block = task (elasticity_in block) (modes_in block) (permitted_in block)

abbrev pub figures_said : Figures → Said
figures_said f = figures f.work f.span f.period

-- and its modes
unfoldable pub whole_task_rows : ℕ → ℕ → ℕ → List ℕ → List Row
whole_task_rows H i at block = task_rows i at block ++ modes_rows at H (each_from (figures_in block) 0 (modes_in block))

-- ---- the table: 1 and 7 are of its length
abbrev pub wrong_length : List ℕ → Bool
wrong_length bytes = eqb (length bytes) 0 || not (eqb (length bytes % 512) 0)

abbrev pub other_length : List ℕ → ℕ → Bool
other_length bytes n = not (eqb (length bytes) (512 * (n + 1)))

unfoldable pub front_rows : List ℕ → List Row
front_rows bytes =
    row 1 0 (wrong_length bytes)
    ∷ (header_rows (header_block bytes)
    ++ row 7 0 (other_length bytes (tasks_in (header_block bytes)))
    ∷ [])

-- the task blocks in turn, left of them from task i on: each names its block, i + 1
unfoldable pub tasks_rows : List ℕ → ℕ → ℕ → ℕ → List Row
tasks_rows bytes H i zero = []
tasks_rows bytes H i (suc left) = whole_task_rows H i (i + 1) (task_block bytes i) ++ tasks_rows bytes H (i + 1) left

unfoldable pub table_rows : List ℕ → List Row
table_rows bytes = front_rows bytes ++ tasks_rows bytes (common_in (header_block bytes)) 0 (tasks_in (header_block bytes))

-- 19: no such task, no such mode
unfoldable pub ask_task_rows : List ℕ → ℕ → List Row
ask_task_rows bytes i = table_rows bytes ++ row 19 0 (leb (tasks_in (header_block bytes)) i) ∷ []

unfoldable pub ask_mode_rows : List ℕ → ℕ → ℕ → List Row
ask_mode_rows bytes i j = ask_task_rows bytes i ++ row 19 0 (leb (modes_in (task_block bytes i)) j) ∷ []

-- ---- what the three calls answer
abbrev pub table_said : List ℕ → Said
table_said bytes = first (table_rows bytes) (header_said (header_block bytes))

-- accepted by `check`
abbrev pub Accepted : List ℕ → Type 0
Accepted bytes = (n : ℕ) × (m : ℕ) × (H : ℕ) × (table_said bytes ≡ header n m H)

abbrev pub ask_task_said : List ℕ → ℕ → Said
ask_task_said bytes i = first (ask_task_rows bytes i) (task_said (task_block bytes i))

abbrev pub ask_mode_said : List ℕ → ℕ → ℕ → Said
ask_mode_said bytes i j = first (ask_mode_rows bytes i j) (figures_said (figures_in (task_block bytes i) j))
