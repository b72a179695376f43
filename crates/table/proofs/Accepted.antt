-- An accepted table is lawful; and one is accepted exactly where no row is given. Assumes nothing.
use Prim.Native.Nat.{ℕ, zero, suc, ◌+◌, ◌*◌, ◌≤◌, ◌<◌}
use native.Mathlib.Nat.{eq-or-lt_of_le}
use native.Mathlib.Omega.{arith}
use mathlib.Core.Path.{◌≡◌, sym, subst}
use mathlib.Core.List.{List, [], ◌∷◌}
use mathlib.Core.Logic.{⊎_elim, ◌↔◌}
use lib.ListN.{length}
use Rattle.answer.specs.Said.{header}
use Rattle.answer.specs.Order.{row, NoneGiven}
use Rattle.answer.proofs.Rows.{none_append, none_first, first_none}
use Rattle.answer.proofs.Elses.{passed, answered}
use Rattle.model.specs.Turns.{each_from}
use Rattle.block.specs.Bytes.{Bytes}
use Rattle.block.specs.declared.Header.{Header}
use Rattle.block.specs.Layout.{tasks_in, cores_in, common_in, modes_in, task_number_in, figures_in}
use Rattle.block.specs.Tests.{figure_rows, modes_rows}
use Rattle.block.proofs.Laid.{number_small}
use Rattle.table.specs.Said.{the_header}
use Rattle.table.specs.Order.{header_block, task_block, header_rows, header_said, task_rows, whole_task_rows, other_length, front_rows, tasks_rows, table_rows, table_said}
use Rattle.table.specs.Numbers.{task_numbers_in, numbers_in}
use Rattle.table.specs.inner.Accepted.{LawfulTable, LawfulWith, Plannable}
use Rattle.table.proofs.Blocks.{bytes_block}
use Rattle.table.proofs.Limits.{is, header_lawful, task_lawful, figures_lawful}

-- each of the modes, and each of the tasks
modes_none : (at H : ℕ) (block : List ℕ) (left j : ℕ) → NoneGiven (modes_rows at H (each_from (figures_in block) j left))
    → (k : ℕ) → j ≤ k → k < j + left → NoneGiven (figure_rows at H (figures_in block k))
unfolding modes_rows each_from
modes_none at H block zero j p k low high = absurd (omega arith)
modes_none at H block (suc left) j p k low high =
    let r = none_append (figure_rows at H (figures_in block j)) (modes_rows at H (each_from (figures_in block) (j + 1) left)) p in
    ⊎_elim (λ e. subst (λ (x : ℕ). NoneGiven (figure_rows at H (figures_in block x))) e r.0)
    (λ more. modes_none at H block left (j + 1) r.1 k (omega arith) (omega arith))
    (eq-or-lt_of_le low)

whole_none : (H i at : ℕ) (block : List ℕ) → NoneGiven (whole_task_rows H i at block)
    → NoneGiven (task_rows i at block) × NoneGiven (modes_rows at H (each_from (figures_in block) 0 (modes_in block)))
unfolding whole_task_rows
whole_none H i at block p = none_append (task_rows i at block) (modes_rows at H (each_from (figures_in block) 0 (modes_in block))) p

module _ (bytes : List ℕ) where
  tasks_none : (H left i : ℕ) → NoneGiven (tasks_rows bytes H i left) → (k : ℕ) → i ≤ k → k < i + left
      → NoneGiven (whole_task_rows H k (k + 1) (task_block bytes k))
  unfolding tasks_rows
  tasks_none H zero i p k low high = absurd (omega arith)
  tasks_none H (suc left) i p k low high =
      let r = none_append (whole_task_rows H i (i + 1) (task_block bytes i)) (tasks_rows bytes H (i + 1) left) p in
      ⊎_elim (λ e. subst (λ (x : ℕ). NoneGiven (whole_task_rows H x (x + 1) (task_block bytes x))) e r.0)
      (λ more. tasks_none H left (i + 1) r.1 k (omega arith) (omega arith))
      (eq-or-lt_of_le low)

  pub front_none : NoneGiven (front_rows bytes) → NoneGiven (header_rows (header_block bytes)) × (length bytes ≡ 512 * (tasks_in (header_block bytes) + 1))
  unfolding front_rows
  front_none p =
      let r = none_append (header_rows (header_block bytes)) (row 7 0 (other_length bytes (tasks_in (header_block bytes))) ∷ []) p.1 in
      (r.0, is (length bytes) (512 * (tasks_in (header_block bytes) + 1)) r.1.0)

  pub table_none : NoneGiven (table_rows bytes)
      → NoneGiven (front_rows bytes) × NoneGiven (tasks_rows bytes (common_in (header_block bytes)) 0 (tasks_in (header_block bytes)))
  unfolding table_rows
  table_none p = none_append (front_rows bytes) (tasks_rows bytes (common_in (header_block bytes)) 0 (tasks_in (header_block bytes))) p

  pub task_none : NoneGiven (table_rows bytes) → (i : ℕ) → i < tasks_in (header_block bytes)
      → NoneGiven (task_rows i (i + 1) (task_block bytes i)) × NoneGiven
      (modes_rows (i + 1) (common_in (header_block bytes)) (each_from (figures_in (task_block bytes i)) 0 (modes_in (task_block bytes i))))
  task_none p i h =
      whole_none (common_in (header_block bytes)) i (i + 1) (task_block bytes i)
      (tasks_none (common_in (header_block bytes)) (tasks_in (header_block bytes)) 0 (table_none p).1 i (omega arith) (omega arith))

  -- no row is given: the table is within the document's limits
  pub lawful : Bytes bytes → NoneGiven (table_rows bytes) → LawfulTable bytes
  lawful b p =
      let front = front_none (table_none p).0 in
      let block = header_block bytes in
      record {
        long = front.1;
        number = λ i h. is (task_number_in (task_block bytes i)) i (task_none p i h).0.1.1.0;
        numbers = record {
          header = header_lawful (tasks_in block) (cores_in block) (common_in block) front.0.1.1.1.0;
          task = λ i h. task_lawful (task_numbers_in (task_block bytes i)) (number_small 2 4 (task_block bytes i) (bytes_block (i + 1) bytes b))
              (task_none p i h).0.1.1.1.0 (task_none p i h).0.1.1.1.1.0;
          mode = λ i j h g. figures_lawful (i + 1) (common_in block) (figures_in (task_block bytes i) j)
              (modes_none (i + 1) (common_in block) (task_block bytes i) (modes_in (task_block bytes i)) 0 (task_none p i h).1 j (omega arith) (omega arith));
        };
      }

  -- where a header is answered no row is given
  pub answered_none : {n m H : ℕ} → table_said bytes ≡ header n m H → NoneGiven (table_rows bytes)
  answered_none e = first_none (table_rows bytes) (header_said (header_block bytes)) (λ z. omega (arith, z)) (sym e)

  -- a table is accepted exactly where no row is given
  pub accepted_none : (table_said bytes ≡ header_said (header_block bytes)) ↔ NoneGiven (table_rows bytes)
  accepted_none = (answered_none, none_first (table_rows bytes) (header_said (header_block bytes)))

-- for a caller past its `?` on `check`: the table is lawful, and the numbers that it answered are the table's
pub accepted_with : (bytes : List ℕ) (n m H : ℕ) → Bytes bytes → header n m H ≡ table_said bytes → LawfulWith bytes n m H
accepted_with bytes n m H b q =
    let none = passed (table_rows bytes) (header_said (header_block bytes)) (λ z. omega (arith, z)) q in
    let same : header n m H ≡ header_said (header_block bytes) = answered (table_rows bytes) (header_said (header_block bytes)) (λ z. omega (arith, z)) q in
    let tasks : (numbers_in bytes).tasks ≡ n = cc in
    let cores : (numbers_in bytes).cores ≡ m = cc in
    let common : (numbers_in bytes).common ≡ H = cc in
    record { table = lawful bytes b none; tasks = tasks; cores = cores; common = common }

-- and so it can be planned over
pub plannable : {bytes : List ℕ} {n m H : ℕ} → LawfulWith bytes n m H → Plannable bytes n m H
plannable {bytes} {n} {m} {H} w =
    let l = w.table.numbers in
    record {
      tasks = w.tasks;
      cores = w.cores;
      common = w.common;
      header = rw (← w.tasks, ← w.cores, ← w.common) l.header;
      few = λ i h. (l.task i (rw w.tasks h)).modes_high;
      mode = λ i j h g. rw (← w.common) (l.mode i j (rw w.tasks h) g);
    }

pub plans : (bytes : List ℕ) (h : Header) → Bytes bytes → the_header h ≡ table_said bytes → Plannable bytes h.tasks h.cores h.common
plans bytes h b q = plannable (accepted_with bytes h.tasks h.cores h.common b q)
