-- What the writers write of lawful numbers, and what stands in a buffer that they have written. Assumes nothing.
use Prim.Native.Nat.{ℕ, ◌≤◌, ◌<◌}
use native.Mathlib.Omega.{arith}
use mathlib.Core.Path.{◌≡◌, refl, sym, ap, ◌∙◌}
use mathlib.Core.List.{List, ◌++◌, append-nil}
use borrow.Author.Tests.{lt-leb, le-ltb, eq-eqb}
use lib.ListN.{length, drop, replicate}
use Rattle.answer.specs.Said.{written}
use Rattle.answer.specs.Order.{Row, Outcome, NoneGiven}
use Rattle.answer.proofs.Rows.{append_none}
use Rattle.answer.proofs.Outcomes.{goes, gone}
use Rattle.model.specs.Limits.{most_tasks}
use Rattle.block.specs.Layout.{threes}
use Rattle.block.specs.Tests.{modes_rows}
use Rattle.block.specs.Whole.{header_bytes, task_bytes}
use Rattle.block.proofs.Figures.{threes_flat, length_flat, flat_small}
use Rattle.block.proofs.Round.{HoldsHeader, header_holds, HoldsTask, task_holds}
use Rattle.table.specs.Numbers.{TaskNumbers, figures_of}
use Rattle.table.specs.Lawful.{LawfulHeader, LawfulTask, LawfulFigures}
use Rattle.table.proofs.Limits.{header_passes, common_passes, shape_passes, permitted_passes, figures_small}
use Rattle.table.proofs.Held.{modes_pass}
use Rattle.writer.specs.Order.{number_rows, room_rows, write_header_rows, write_task_rows}
use Rattle.demands.specs.Demand2.{HeaderWrites, TaskWrites}

-- ---- one call: a block is left at the front of every buffer with room
module _ (rows : ℕ → List Row) (made block : List ℕ) where
  abbrev Leaves : Type 0
  Leaves =
      (buffer : List ℕ) → 512 ≤ length buffer
      → Outcome (rows (length buffer)) written buffer (made ++ drop 512 buffer) written (block ++ drop 512 buffer)

  writes : ((room : ℕ) → 512 ≤ room → NoneGiven (rows room)) → block ≡ made → Leaves
  writes none e buffer room =
      goes (rows (length buffer)) written buffer (made ++ drop 512 buffer) (none (length buffer) room) refl
      (ap (λ (b : List ℕ). b ++ drop 512 buffer) e)

  wrote : Leaves → block ≡ made
  wrote w =
      let buffer : List ℕ = replicate 512 0 in
      let same = (gone (rows 512) written buffer (made ++ drop 512 buffer) (λ e. omega (arith, e)) (w buffer (omega arith))).1 in
      sym (append-nil block) ∙ same ∙ append-nil made

-- ---- a header
module _ (n m H : ℕ) (l : LawfulHeader n m H) where
  header_none : (room : ℕ) → 512 ≤ room → NoneGiven (write_header_rows n m H room)
  unfolding write_header_rows
  header_none room h = (header_passes l, (le-ltb room 512 h, tt))

  pub header_made : HoldsHeader n m H (header_bytes n m H)
  header_made = header_holds n m H (omega (arith, l.tasks_high)) (omega (arith, l.cores_high)) (omega (arith, l.common_high))

  pub header_writes : (block : List ℕ) → block ≡ header_bytes n m H → HeaderWrites n m H block
  header_writes block e = writes (write_header_rows n m H) (header_bytes n m H) block header_none e

pub header_wrote : (n m H : ℕ) (block : List ℕ) → HeaderWrites n m H block → block ≡ header_bytes n m H
header_wrote n m H block w = wrote (write_header_rows n m H) (header_bytes n m H) block w

-- ---- a task
-- a task's rows and its block
abbrev rows_of : ℕ → ℕ → TaskNumbers → ℕ → List Row
rows_of H i t room = write_task_rows H i t.elasticity t.modes t.permitted (figures_of t) room

abbrev pub bytes_of : ℕ → TaskNumbers → List ℕ
bytes_of i t = task_bytes i t.elasticity t.modes t.permitted (figures_of t)

module _ (n m H i : ℕ) (t : TaskNumbers) (h : LawfulHeader n m H) (less : i < n) (l : LawfulTask t)
    (each : (j : ℕ) → j < t.modes → LawfulFigures H (t.figures j)) where
  task_none : (room : ℕ) → 512 ≤ room → NoneGiven (rows_of H i t room)
  unfolding write_task_rows
  task_none room r =
      let of_numbers = number_rows H i t.elasticity t.modes t.permitted (length (figures_of t)) in
      let of_modes = modes_rows 0 H (threes (figures_of t)) in
      let numbers : NoneGiven of_numbers = (
        common_passes h,
        (
          lt-leb most_tasks i (omega (arith, h.tasks_high)),
          (rw (shape_passes l, eq-eqb _ _ (length_flat t.figures 0 t.modes)), (permitted_passes l, tt)),
        ),
      ) in
      let modes : NoneGiven of_modes = rw threes_flat (modes_pass 0 H t.figures 0 t.modes (λ k low high. each k (omega arith))) in
      append_none of_numbers (of_modes ++ room_rows room) numbers (append_none of_modes (room_rows room) modes (le-ltb room 512 r, tt))

  pub task_made : HoldsTask i t.elasticity t.modes t.permitted (figures_of t) (bytes_of i t)
  task_made =
      task_holds i t.elasticity t.modes t.permitted (figures_of t)
      (record {
        number = omega (arith, h.tasks_high);
        elasticity = omega (arith, l.elasticity_high);
        mask = l.bits;
        few = l.modes_high;
        words = flat_small t.figures 0 t.modes (λ k low high. figures_small H (t.figures k) h.common_low h.common_high (each k (omega arith)));
        three = length_flat t.figures 0 t.modes;
      })

  pub task_writes : (block : List ℕ) → block ≡ bytes_of i t → TaskWrites H i t block
  task_writes block e = writes (rows_of H i t) (bytes_of i t) block task_none e

pub task_wrote : (H i : ℕ) (t : TaskNumbers) (block : List ℕ) → TaskWrites H i t block → block ≡ bytes_of i t
task_wrote H i t block w = wrote (rows_of H i t) (bytes_of i t) block w
