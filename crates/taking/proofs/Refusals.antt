-- The numbers and places of the refusals of taking the plan. Assumes nothing.
use Prim.Native.Nat.{ℕ, ◌+◌, ◌<◌}
use mathlib.Core.List.{List, [], ◌∷◌, ◌++◌}
use lib.Dec.{ltb}
use lib.ListN.{length}
use Rattle.answer.specs.Order.{row, OneOf}
use Rattle.answer.proofs.Each.{Each, each_append}
use Rattle.model.specs.Taking.{take_rows}
use Rattle.table.specs.Numbers.{numbers_in}
use Rattle.table.proofs.Refusals.{front_numbers, task_numbers, each_lent}
use Rattle.choices.specs.Tasks.{tasks_of_table, cores_of_table, cells_of_table}
use Rattle.taking.specs.Take.{cell_of, lent_rows, progress_rows, taking_rows}

abbrev pub own_numbers : List ℕ
own_numbers = 14 ∷ 15 ∷ 16 ∷ 17 ∷ 18 ∷ []

module _ (P : ℕ → ℕ → Type 0) (bytes : List ℕ) (front : (k : ℕ) → OneOf front_numbers k → P k 0)
    (task : (i k : ℕ) → i < (numbers_in bytes).tasks → OneOf task_numbers k → P k (i + 1)) where
  pub each_room : P 15 0 → (cells out : ℕ) → Each P (lent_rows bytes cells out)
  unfolding lent_rows
  each_room short cells out =
      each_lent P bytes front task (row 15 0 (ltb cells (cells_of_table bytes)) ∷ row 15 0 (ltb out (numbers_in bytes).tasks) ∷ []) (short, (short, tt))

  pub each_taking : ((k : ℕ) → OneOf own_numbers k → P k 0) → (cells : List ℕ) (p out : ℕ) → Each P (taking_rows bytes cells p out)
  unfolding taking_rows take_rows
  each_taking own cells p out =
      each_append P (lent_rows bytes (length cells) out)
      (progress_rows (cells_of_table bytes) p ++ take_rows (cell_of bytes cells) (tasks_of_table bytes) (cores_of_table bytes))
      (each_room (own 15 tt) (length cells) out) (own 16 tt, (own 17 tt, (own 14 tt, (own 18 tt, tt))))
