-- The numbers and places of a portion's refusals. Assumes nothing.
use Prim.Native.Nat.{ℕ, ◌+◌, ◌<◌}
use mathlib.Core.List.{List, [], ◌∷◌}
use Rattle.answer.specs.Order.{OneOf}
use Rattle.answer.proofs.Each.{Each}
use Rattle.table.specs.Numbers.{numbers_in}
use Rattle.table.proofs.Refusals.{front_numbers, task_numbers, each_lent}
use Rattle.choices.specs.Tasks.{cells_of_table}
use Rattle.portions.specs.Portion.{own_rows, portion_rows}

abbrev pub own_numbers : List ℕ
own_numbers = 15 ∷ 16 ∷ []

module _ (P : ℕ → ℕ → Type 0) (bytes : List ℕ) (front : (k : ℕ) → OneOf front_numbers k → P k 0)
    (task : (i k : ℕ) → i < (numbers_in bytes).tasks → OneOf task_numbers k → P k (i + 1)) (own : (k : ℕ) → OneOf own_numbers k → P k 0) where
  pub each_portion : (room p : ℕ) → Each P (portion_rows bytes room p)
  unfolding portion_rows
  each_portion room p = each_lent P bytes front task (own_rows (cells_of_table bytes) room p) (own 15 tt, (own 16 tt, tt))
