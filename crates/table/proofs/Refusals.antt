-- The numbers and places of a table's refusals, and that they fit a reading. Assumes nothing.
use Prim.Native.Nat.{ℕ, zero, suc, ◌+◌, ◌≤◌, ◌<◌}
use native.Mathlib.Omega.{arith}
use mathlib.Core.List.{List, [], ◌∷◌, ◌++◌}
use lib.Dec.{leb}
use Rattle.answer.specs.Order.{Row, row, OneOf}
use Rattle.answer.proofs.Each.{Each, each_append, Fits, fits_front, one_known}
use Rattle.model.specs.Turns.{each_from}
use Rattle.block.specs.Bytes.{Bytes}
use Rattle.model.specs.declared.Figures.{Figures}
use Rattle.block.specs.Layout.{tasks_in, common_in, modes_in, figures_in}
use Rattle.block.specs.Tests.{figure_rows, modes_rows}
use Rattle.block.proofs.Laid.{number_small}
use Rattle.table.specs.Order.{header_block, task_block, header_rows, task_rows, whole_task_rows, other_length, front_rows, tasks_rows, table_rows, ask_task_rows, ask_mode_rows}
use Rattle.table.specs.Numbers.{numbers_in}
use Rattle.table.proofs.Blocks.{bytes_block}

-- ---- the numbers that the front and a task's block can give
abbrev pub front_numbers : List ℕ
front_numbers = 1 ∷ 2 ∷ 3 ∷ 4 ∷ 5 ∷ 6 ∷ 7 ∷ []

abbrev pub task_numbers : List ℕ
task_numbers = 2 ∷ 3 ∷ 6 ∷ 8 ∷ 9 ∷ 10 ∷ 11 ∷ 12 ∷ 13 ∷ []

module _ (P : ℕ → ℕ → Type 0) where
  pub each_modes : (at : ℕ) → P 11 at × P 12 at × P 13 at → (H : ℕ) (fs : List Figures) → Each P (modes_rows at H fs)
  unfolding modes_rows
  each_modes at p H [] = tt
  each_modes at p H (f ∷ fs) =
      each_append P (figure_rows at H f) (modes_rows at H fs) (p.0, (p.1, (p.2, tt))) (each_modes at p H fs)

  -- those of the front name block 0, and those of task i block i + 1
  module _ (bytes : List ℕ) (front : (k : ℕ) → OneOf front_numbers k → P k 0)
      (task : (i k : ℕ) → i < (numbers_in bytes).tasks → OneOf task_numbers k → P k (i + 1)) where
    of_front : Each P (front_rows bytes)
    unfolding front_rows
    of_front = (
      front 1 tt,
      each_append P (header_rows (header_block bytes)) (row 7 0 (other_length bytes (tasks_in (header_block bytes))) ∷ [])
          (front 2 tt, (front 3 tt, (front 4 tt, (front 5 tt, (front 6 tt, tt))))) (front 7 tt, tt),
    )

    of_task : (H i : ℕ) → i < (numbers_in bytes).tasks → Each P (whole_task_rows H i (i + 1) (task_block bytes i))
    unfolding whole_task_rows
    of_task H i h =
        each_append P (task_rows i (i + 1) (task_block bytes i)) (modes_rows (i + 1) H (each_from (figures_in (task_block bytes i)) 0 (modes_in (task_block bytes i))))
        (task i 2 h tt, (task i 3 h tt, (task i 8 h tt, (task i 9 h tt, (task i 10 h tt, (task i 6 h tt, tt))))))
        (each_modes (i + 1) (task i 11 h tt, task i 12 h tt, task i 13 h tt) H _)

    of_tasks : (H i left : ℕ) → i + left ≤ (numbers_in bytes).tasks → Each P (tasks_rows bytes H i left)
    unfolding tasks_rows
    of_tasks H i zero less = tt
    of_tasks H i (suc left) less =
        each_append P (whole_task_rows H i (i + 1) (task_block bytes i)) (tasks_rows bytes H (i + 1) left) (of_task H i (omega arith))
        (of_tasks H (i + 1) left (omega arith))

    pub each_table : Each P (table_rows bytes)
    unfolding table_rows
    each_table =
        each_append P (front_rows bytes) (tasks_rows bytes (common_in (header_block bytes)) 0 (tasks_in (header_block bytes))) of_front
        (of_tasks (common_in (header_block bytes)) 0 (tasks_in (header_block bytes)) (omega arith))

    -- and those of a call that is lent the table
    pub each_lent : (own : List Row) → Each P own → Each P (table_rows bytes ++ own)
    each_lent own e = each_append P (table_rows bytes) own each_table e

    -- asking gives 19 after them
    module _ (none : P 19 0) where
      pub each_ask_task : (i : ℕ) → Each P (ask_task_rows bytes i)
      unfolding ask_task_rows
      each_ask_task i = each_lent (row 19 0 (leb (tasks_in (header_block bytes)) i) ∷ []) (none, tt)

      pub each_ask_mode : (i j : ℕ) → Each P (ask_mode_rows bytes i j)
      unfolding ask_mode_rows
      each_ask_mode i j = each_append P (ask_task_rows bytes i) (row 19 0 (leb (modes_in (task_block bytes i)) j) ∷ []) (each_ask_task i) (none, tt)

-- ---- they fit a refusal
module _ (bytes : List ℕ) (b : Bytes bytes) where
  pub front_fits : (k : ℕ) → OneOf front_numbers k → Fits k 0
  front_fits = fits_front front_numbers tt

  pub task_fits : (i k : ℕ) → i < (numbers_in bytes).tasks → OneOf task_numbers k → Fits k (i + 1)
  task_fits i k h one =
      (one_known task_numbers tt k one, omega (arith, number_small 2 2 (header_block bytes) (bytes_block 0 bytes b)))
