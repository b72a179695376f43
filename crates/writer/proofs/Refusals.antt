-- The numbers of the writers' refusals, which all name block 0; and what holds where none of a task's is given. Assumes nothing.
use Prim.Native.Nat.{ℕ, ◌*◌, ◌≤◌}
use mathlib.Core.Path.{◌≡◌}
use mathlib.Core.Bool.{not}
use borrow.Author.Tests.{ltb-false}
use lib.Dec.{eqb}
use mathlib.Core.List.{List, [], ◌∷◌, ◌++◌}
use lib.ListN.{length}
use Rattle.answer.specs.Order.{NoneGiven, OneOf}
use Rattle.answer.proofs.Bools.{or_false}
use Rattle.answer.proofs.Rows.{none_append}
use Rattle.answer.proofs.Each.{Each, each_append}
use Rattle.block.specs.Layout.{threes}
use Rattle.block.specs.Tests.{outside, wrong_shape, modes_rows}
use Rattle.table.proofs.Limits.{inside, is}
use Rattle.table.proofs.Refusals.{each_modes}
use Rattle.writer.specs.Order.{room_rows, write_header_rows, number_rows, write_task_rows}

abbrev pub header_numbers : List ℕ
header_numbers = 5 ∷ 15 ∷ []

abbrev pub task_numbers : List ℕ
task_numbers = 5 ∷ 8 ∷ 9 ∷ 10 ∷ 11 ∷ 12 ∷ 13 ∷ 15 ∷ []

module _ (P : ℕ → ℕ → Type 0) where
  pub each_header : ((k : ℕ) → OneOf header_numbers k → P k 0) → (n m H room : ℕ) → Each P (write_header_rows n m H room)
  unfolding write_header_rows
  each_header p n m H room = (p 5 tt, (p 15 tt, tt))

  pub each_task : ((k : ℕ) → OneOf task_numbers k → P k 0) → (H number E modes permitted : ℕ) (figures : List ℕ) (room : ℕ)
      → Each P (write_task_rows H number E modes permitted figures room)
  unfolding write_task_rows
  each_task p H number E modes permitted figures room =
      each_append P (number_rows H number E modes permitted (length figures)) (modes_rows 0 H (threes figures) ++ room_rows room)
      (p 5 tt, (p 8 tt, (p 9 tt, (p 10 tt, tt))))
      (each_append P (modes_rows 0 H (threes figures)) (room_rows room) (each_modes P 0 (p 11 tt, p 12 tt, p 13 tt) H (threes figures)) (p 15 tt, tt))

-- none is given: there is room, the modes are few, and the figures are three per mode
pub task_passed : (H number E modes permitted : ℕ) (figures : List ℕ) (room : ℕ) → NoneGiven (write_task_rows H number E modes permitted figures room)
    → (512 ≤ room) × (modes ≤ 16) × (length figures ≡ 3 * modes)
unfolding write_task_rows
task_passed H number E modes permitted figures room none =
    let p = none_append (number_rows H number E modes permitted (length figures)) (modes_rows 0 H (threes figures) ++ room_rows room) none in
    let nine = or_false (wrong_shape E modes) (not (eqb (length figures) (3 * modes))) p.0.1.1.0 in
    let shape = or_false (outside 1 10 E) (outside 1 16 modes) nine.0 in
    let last = (none_append (modes_rows 0 H (threes figures)) (room_rows room) p.1).1 in
    (ltb-false _ _ last.0, (inside 1 16 modes shape.1).1, is (length figures) (3 * modes) nine.1)
