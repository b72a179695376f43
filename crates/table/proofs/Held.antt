-- A table whose blocks hold lawful numbers is accepted; an accepted table's blocks hold the numbers that asking gives. Assumes nothing.
use Prim.Native.Nat.{ℕ, zero, suc, ◌+◌, ◌*◌, ◌%◌, ◌≤◌, ◌<◌}
use native.Mathlib.Omega.{arith}
use mathlib.Core.Path.{◌≡◌, refl}
use mathlib.Core.List.{List, [], ◌∷◌}
use borrow.Author.Tests.{eq-eqb, ne_eqb, lt-leb}
use lib.ListN.{length}
use Rattle.answer.specs.Order.{row, NoneGiven}
use Rattle.answer.proofs.Rows.{append_none, none_first}
use Rattle.model.specs.Turns.{each_from}
use Rattle.model.specs.declared.Figures.{Figures}
use Rattle.block.specs.Layout.{tasks_in, common_in, modes_in, figures_in}
use Rattle.block.specs.Tests.{figure_rows, modes_rows}
use Rattle.block.proofs.Figures.{flat_same}
use Rattle.block.proofs.Round.{HoldsHeader, HoldsTask}
use Rattle.table.specs.Order.{header_block, task_block, header_rows, task_rows, task_said, figures_said, whole_task_rows, other_length, front_rows, tasks_rows, table_rows, ask_task_rows, ask_mode_rows, ask_task_said, ask_mode_said}
use Rattle.table.specs.Numbers.{TaskNumbers, figures_of, Numbers, numbers_in}
use Rattle.table.specs.Lawful.{LawfulHeader, LawfulTask, LawfulFigures, Lawful}
use Rattle.table.proofs.Blocks.{length_block}
use Rattle.table.proofs.Limits.{is, header_passes, shape_passes, permitted_passes, figures_pass}
use Rattle.table.proofs.Accepted.{front_none, table_none, task_none}

pub record Holds (t : Numbers) (bytes : List ℕ) : Type 0 where
  pub long : length bytes ≡ 512 * (t.tasks + 1)
  pub header : HoldsHeader t.tasks t.cores t.common (header_block bytes)
  pub task : (i : ℕ) → i < t.tasks
      → HoldsTask i (t.task i).elasticity (t.task i).modes (t.task i).permitted (figures_of (t.task i)) (task_block bytes i)

-- ---- lawful numbers are accepted
header_none : {n m H : ℕ} (block : List ℕ) → HoldsHeader n m H block → LawfulHeader n m H → NoneGiven (header_rows block)
header_none block h l = (
  rw (eq-eqb _ _ h.check),
  (
    rw (eq-eqb _ _ h.kind),
    (rw (eq-eqb _ _ h.edition), (rw (h.tasks, h.cores, h.common) (header_passes l), (h.spare, tt))),
  ),
)

-- lawful modes pass, whatever place a refusal would name
pub modes_pass : (at H : ℕ) (figures : ℕ → Figures) (j left : ℕ) → ((k : ℕ) → j ≤ k → k < j + left → LawfulFigures H (figures k))
    → NoneGiven (modes_rows at H (each_from figures j left))
unfolding modes_rows each_from
modes_pass at H figures j zero l = tt
modes_pass at H figures j (suc left) l =
    append_none (figure_rows at H (figures j)) (modes_rows at H (each_from figures (j + 1) left))
    (figures_pass at H (figures j) (l j (omega arith) (omega arith)))
    (modes_pass at H figures (j + 1) left (λ k low high. l k (omega arith) (omega arith)))

module _ (i at H : ℕ) (t : TaskNumbers) (block : List ℕ) (h : HoldsTask i t.elasticity t.modes t.permitted (figures_of t) block) where
  -- the block lists the task's figures
  listing_same : each_from (figures_in block) 0 (modes_in block) ≡ each_from t.figures 0 t.modes
  listing_same = rw h.count (flat_same (each_from (figures_in block) 0 t.modes) (each_from t.figures 0 t.modes) h.listing)

  whole_task_none : LawfulTask t → ((j : ℕ) → j < t.modes → LawfulFigures H (t.figures j)) → NoneGiven (whole_task_rows H i at block)
  unfolding whole_task_rows
  whole_task_none l m =
      let own : NoneGiven (task_rows i at block) = (
        rw (eq-eqb _ _ h.check),
        (
          rw (eq-eqb _ _ h.kind),
          (
            rw (eq-eqb _ _ h.number),
            (rw (h.elasticity, h.count) (shape_passes l), (rw (h.mask, h.count) (permitted_passes l), (h.spare, tt))),
          ),
        ),
      ) in
      append_none (task_rows i at block) (modes_rows at H (each_from (figures_in block) 0 (modes_in block))) own
      (rw listing_same (modes_pass at H t.figures 0 t.modes (λ k low high. m k (omega arith))))

tasks_pass : (bytes : List ℕ) (H i left : ℕ) → ((k : ℕ) → i ≤ k → k < i + left → NoneGiven (whole_task_rows H k (k + 1) (task_block bytes k)))
    → NoneGiven (tasks_rows bytes H i left)
unfolding tasks_rows
tasks_pass bytes H i zero l = tt
tasks_pass bytes H i (suc left) l =
    append_none (whole_task_rows H i (i + 1) (task_block bytes i)) (tasks_rows bytes H (i + 1) left) (l i (omega arith) (omega arith))
    (tasks_pass bytes H (i + 1) left (λ k low high. l k (omega arith) (omega arith)))

module _ (t : Numbers) (bytes : List ℕ) (h : Holds t bytes) (l : Lawful t) where
  front_pass : NoneGiven (front_rows bytes)
  unfolding front_rows
  front_pass =
      let n = h.long in (
        rw (ne_eqb (length bytes) 0 (λ e. omega arith), eq-eqb (length bytes % 512) 0 (omega arith)),
        append_none (header_rows (header_block bytes)) (row 7 0 (other_length bytes (tasks_in (header_block bytes))) ∷ [])
            (header_none (header_block bytes) h.header l.header)
            (rw (h.header.tasks, eq-eqb (length bytes) (512 * (t.tasks + 1)) n), tt),
      )

  pub holds_none : NoneGiven (table_rows bytes)
  unfolding table_rows
  holds_none =
      append_none (front_rows bytes) (tasks_rows bytes (common_in (header_block bytes)) 0 (tasks_in (header_block bytes))) front_pass
      (rw (h.header.common, h.header.tasks)
      (tasks_pass bytes t.common 0 t.tasks
      (λ k low high. whole_task_none k (k + 1) t.common (t.task k) (task_block bytes k) (h.task k (omega arith)) (l.task k (omega arith))
      (λ j less. l.mode k j (omega arith) less))))

-- ---- an accepted table
module _ (bytes : List ℕ) (p : NoneGiven (table_rows bytes)) where
  pub none_holds : Holds (numbers_in bytes) bytes
  none_holds =
      let front = front_none bytes (table_none bytes p).0 in
      let n = tasks_in (header_block bytes) in
      let r = front.0 in
      record {
        long = front.1;
        header = record {
          long = length_block 0 n bytes front.1 (omega arith);
          check = is _ _ r.0;
          kind = is _ _ r.1.0;
          edition = is _ _ r.1.1.0;
          tasks = refl;
          cores = refl;
          common = refl;
          spare = r.1.1.1.1.0;
        };
        task = λ i less.
            let q = (task_none bytes p i less).0 in
            record {
              long = length_block (i + 1) n bytes front.1 (omega arith);
              check = is _ _ q.0;
              kind = is _ _ q.1.0;
              number = is _ _ q.1.1.0;
              elasticity = refl;
              count = refl;
              mask = refl;
              listing = refl;
              spare = q.1.1.1.1.1.0;
            };
      }

  -- asking gives the numbers that stand in the blocks
  task_rows_none : (i : ℕ) → i < tasks_in (header_block bytes) → NoneGiven (ask_task_rows bytes i)
  unfolding ask_task_rows
  task_rows_none i less = append_none (table_rows bytes) (row 19 0 _ ∷ []) p (lt-leb _ _ less, tt)

  pub task_asked : (i : ℕ) → i < tasks_in (header_block bytes) → ask_task_said bytes i ≡ task_said (task_block bytes i)
  task_asked i less = none_first (ask_task_rows bytes i) (task_said (task_block bytes i)) (task_rows_none i less)

  pub mode_asked : (i j : ℕ) → i < tasks_in (header_block bytes) → j < modes_in (task_block bytes i)
      → ask_mode_said bytes i j ≡ figures_said (figures_in (task_block bytes i) j)
  unfolding ask_mode_rows
  mode_asked i j less few =
      none_first (ask_mode_rows bytes i j) (figures_said (figures_in (task_block bytes i) j))
      (append_none (ask_task_rows bytes i) (row 19 0 _ ∷ []) (task_rows_none i less) (lt-leb _ _ few, tt))
