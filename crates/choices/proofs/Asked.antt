-- A mode that was asked for and not refused. Assumes nothing.
use Prim.Native.Nat.{ℕ, ◌+◌, ◌*◌, ◌^◌, ◌≤◌, ◌<◌}
use native.Mathlib.Omega.{arith}
use mathlib.Core.Path.{◌≡◌, refl, sym, ap, ◌∙◌}
use mathlib.Core.Bool.{true}
use mathlib.Core.List.{List, [], ◌∷◌}
use borrow.Author.Tests.{leb-false}
use lib.ListN.{take, drop}
use lib.Seq.{take-take}
use Rattle.answer.specs.Said.{choice}
use Rattle.answer.specs.Order.{row, NoneGiven}
use Rattle.answer.proofs.Rows.{none_append}
use Rattle.model.proofs.Bounds.{cores_most}
use Rattle.block.specs.Bytes.{Bytes, value, number}
use Rattle.block.specs.Layout.{permitted_in}
use Rattle.block.specs.Tests.{allows}
use Rattle.std.proofs.lemmas.List.{drop-take}
use Rattle.table.specs.Order.{block_at, task_block, table_rows, ask_task_rows, ask_mode_rows}
use Rattle.table.specs.Numbers.{TaskNumbers, task_numbers_in, numbers_in}
use Rattle.table.specs.Lawful.{LawfulFigures}
use Rattle.table.specs.inner.Accepted.{LawfulWith}
use Rattle.table.proofs.Limits.{period_short}
use Rattle.table.proofs.Accepted.{lawful, plannable}
use Rattle.choices.specs.Tasks.{cores_at, cost_at}
use Rattle.choices.proofs.Meeting.{meets_at}
use Rattle.choices.proofs.Tables.{cost_limit, block_limits}

-- the common period stands at the same place in the table as in its header
pub common_read : (bytes : List ℕ) → number 4 8 bytes ≡ (numbers_in bytes).common
unfolding number block_at
common_read bytes = ap value (sym (ap (take 4) (drop-take 8 504 bytes) ∙ take-take 4 504 (drop 8 bytes) (omega arith)))

-- the choice by what was found of it: the task's block, the common period, and the cores
pub choice_found : (bytes block : List ℕ) (i j H k : ℕ) → block ≡ take 512 (drop (512 * (i + 1)) bytes) → H ≡ number 4 8 bytes
    → let t = (numbers_in bytes).task i in
    k ≡ cores_at t j
    → choice (allows (permitted_in block) j) k (cost_at H (task_numbers_in block) j) ≡ choice (allows t.permitted j) (cores_at t j) (cost_at (numbers_in bytes).common t j)
unfolding block_at
choice_found bytes block i j H k b h e = rw (b, h, e, common_read bytes)

pub record Asked (bytes : List ℕ) (i j : ℕ) : Type 0 where
  pub lawful : LawfulWith bytes (numbers_in bytes).tasks (numbers_in bytes).cores (numbers_in bytes).common
  pub task : i < (numbers_in bytes).tasks
  pub mode : j < ((numbers_in bytes).task i).modes

pub asked : (bytes : List ℕ) (i j : ℕ) → Bytes bytes → NoneGiven (ask_mode_rows bytes i j) → Asked bytes i j
unfolding ask_mode_rows ask_task_rows
asked bytes i j is none =
    let (before, (mode, rest)) = none_append (ask_task_rows bytes i) (row 19 0 _ ∷ []) none in
    let (table, (task, rest2)) = none_append (table_rows bytes) (row 19 0 _ ∷ []) before in
    record {
      lawful = record { table = lawful bytes is table; tasks = refl; cores = refl; common = refl };
      task = leb-false _ _ task;
      mode = leb-false _ _ mode;
    }

-- its limits
module _ {bytes : List ℕ} {i j : ℕ} (a : Asked bytes i j) where
  abbrev t : TaskNumbers
  t = (numbers_in bytes).task i

  figures_lawful : LawfulFigures (numbers_in bytes).common (t.figures j)
  figures_lawful = a.lawful.table.numbers.mode i j a.task a.mode

  pub modes_few : t.modes ≤ 16
  modes_few = (a.lawful.table.numbers.task i a.task).modes_high

  pub meets_period : meets_at t j ≡ true
  meets_period = figures_lawful.meeting

  pub cores_fit : cores_at t j < 2 ^ 32
  cores_fit =
      let f = figures_lawful in
      let H = a.lawful.table.numbers.header in
      omega (
        arith,
        cores_most (t.figures j).work (t.figures j).span (t.figures j).period,
        f.work_high,
        period_short (numbers_in bytes).common (t.figures j) H.common_low f,
        H.common_high,
      )

  pub cost_fit : cost_at (numbers_in bytes).common t j < 2 ^ 64
  unfolding block_at
  cost_fit = omega (arith, cost_limit (numbers_in bytes).common t j (block_limits (plannable a.lawful) i a.task (task_block bytes i) refl) a.mode)
