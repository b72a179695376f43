-- Laws of the order of a table's refusals. Assumes nothing.
use Prim.Native.Nat.{ℕ, suc, ◌+◌, ◌-◌, ◌≤◌, ◌<◌}
use native.Mathlib.Omega.{arith}
use mathlib.Core.Path.{◌≡◌, ap, ◌∙◌}
use mathlib.Core.Bool.{cond}
use mathlib.Core.List.{List, [], ◌∷◌}
use lib.Dec.{leb}
use Rattle.answer.specs.Said.{Said, refused}
use Rattle.answer.specs.Order.{row, first}
use Rattle.answer.proofs.Rows.{first_append}
use Rattle.model.specs.Turns.{each_from}
use Rattle.block.specs.Layout.{tasks_in, common_in, modes_in, figures_in}
use Rattle.block.specs.Tests.{modes_rows}
use Rattle.table.specs.Order.{header_block, task_block, wrong_length, other_length, header_rows, task_rows, whole_task_rows, front_rows, tasks_rows, table_rows, ask_task_rows, ask_mode_rows}

-- a task's block, then its modes
pub whole_first : (H i at : ℕ) (block : List ℕ) (s : Said)
    → first (whole_task_rows H i at block) s ≡ first (task_rows i at block) (first (modes_rows at H (each_from (figures_in block) 0 (modes_in block))) s)
unfolding whole_task_rows
whole_first H i at block s = first_append (task_rows i at block) (modes_rows at H (each_from (figures_in block) 0 (modes_in block))) s

module _ (bytes : List ℕ) where
  -- the length, the header, the length again
  pub front_first : (s : Said)
      → first (front_rows bytes) s
      ≡ cond (wrong_length bytes) (refused 1 0)
      (first (header_rows (header_block bytes)) (cond (other_length bytes (tasks_in (header_block bytes))) (refused 7 0) s))
  unfolding front_rows
  front_first s =
      ap (cond (wrong_length bytes) (refused 1 0))
      (first_append (header_rows (header_block bytes)) (row 7 0 (other_length bytes (tasks_in (header_block bytes))) ∷ []) s)

  -- the tasks in turn
  pub tasks_more : (H i n : ℕ) (s : Said) → i < n
      → first (tasks_rows bytes H i (n - i)) s
      ≡ first (whole_task_rows H i (i + 1) (task_block bytes i)) (first (tasks_rows bytes H (i + 1) (n - (i + 1))) s)
  unfolding tasks_rows
  tasks_more H i n s p =
      let e : n - i ≡ suc (n - (i + 1)) = omega arith in
      ap (λ (k : ℕ). first (tasks_rows bytes H i k) s) e
      ∙ first_append (whole_task_rows H i (i + 1) (task_block bytes i)) (tasks_rows bytes H (i + 1) (n - (i + 1))) s

  pub tasks_end : (H i n : ℕ) (s : Said) → n ≤ i → first (tasks_rows bytes H i (n - i)) s ≡ s
  unfolding tasks_rows
  tasks_end H i n s p = let e : n - i ≡ 0 = omega arith in ap (λ (k : ℕ). first (tasks_rows bytes H i k) s) e

  -- the front, then the tasks
  pub table_first : (s : Said)
      → first (table_rows bytes) s ≡ first (front_rows bytes) (first (tasks_rows bytes (common_in (header_block bytes)) 0 (tasks_in (header_block bytes))) s)
  unfolding table_rows
  table_first s = first_append (front_rows bytes) (tasks_rows bytes (common_in (header_block bytes)) 0 (tasks_in (header_block bytes))) s

  -- and 19 last
  pub ask_task_first : (i : ℕ) (s : Said)
      → first (ask_task_rows bytes i) s ≡ first (table_rows bytes) (cond (leb (tasks_in (header_block bytes)) i) (refused 19 0) s)
  unfolding ask_task_rows
  ask_task_first i s = first_append (table_rows bytes) (row 19 0 (leb (tasks_in (header_block bytes)) i) ∷ []) s

  pub ask_mode_first : (i j : ℕ) (s : Said)
      → first (ask_mode_rows bytes i j) s ≡ first (ask_task_rows bytes i) (cond (leb (modes_in (task_block bytes i)) j) (refused 19 0) s)
  unfolding ask_mode_rows
  ask_mode_first i j s = first_append (ask_task_rows bytes i) (row 19 0 (leb (modes_in (task_block bytes i)) j) ∷ []) s
