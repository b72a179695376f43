-- A portion starts at progress p with a budget b. It fills cells p up to the smaller of p + b and W, and answers that smaller number as
-- the new progress. All other cells keep their values.
use Rattle.std.specs.Prelude.{ℕ, ◌≡◌, List, [], ◌∷◌, ◌++◌, ltb, length}
use Rattle.answer.specs.Said.{filled}
use Rattle.answer.specs.Order.{Row, row, Outcome}
use Rattle.model.specs.Workspace.{Rule, cell_rule, Filled as HoldsBelow, advance, portion}
use Rattle.table.specs.Order.{table_rows}
use Rattle.choices.specs.Tasks.{tasks_of_table, cores_of_table, cells_of_table}
use Rattle.portions.specs.Said.{Filling, said}

-- after the table's checks 15: the workspace is too short; 16: progress above W
abbrev pub own_rows : ℕ → ℕ → ℕ → List Row
own_rows W room p = row 15 0 (ltb room W) ∷ row 16 0 (ltb W p) ∷ []

unfoldable pub portion_rows : List ℕ → ℕ → ℕ → List Row
portion_rows bytes room p = table_rows bytes ++ own_rows (cells_of_table bytes) room p

-- the rule of the table's cells
abbrev pub rule_of : List ℕ → Rule
rule_of bytes = cell_rule (tasks_of_table bytes) (cores_of_table bytes)

-- the cells below p hold their defined values
abbrev pub FilledTo : List ℕ → List ℕ → ℕ → Type 0
FilledTo bytes cells p = HoldsBelow (tasks_of_table bytes) (cores_of_table bytes) cells p

-- the answer and the whole workspace afterwards; and the new progress counts cells that hold their defined values where the progress
-- given did
pub record Portioned (bytes before : List ℕ) (p b : ℕ) (r : Filling) (after : List ℕ) : Type 0 where
  pub outcome :
      Outcome (portion_rows bytes (length before) p) (filled (advance (cells_of_table bytes) p b)) before
      (portion (rule_of bytes) (cells_of_table bytes) before p b) (said r) after
  pub counts : (q : ℕ) → said r ≡ filled q → FilledTo bytes before p → FilledTo bytes after q
