use Rattle.std.proofs.Common.{rules}
use mathlib.Core.Path.{◌≡◌, sym, ap, ◌∙◌}
use mathlib.Core.List.{List}
use Prim.Native.Nat.{ℕ, ◌+◌, ◌-◌}
use native.Mathlib.Nat.{sub-zero}
use native.Mathlib.Omega.{arith}
use Rattle.answer.specs.Said.{Said}
use Rattle.answer.specs.Order.{first}
use Rattle.answer.proofs.Elses.{answered, went_on, passed_up}
use Rattle.block.specs.Layout.{tasks_in, common_in}
use Rattle.table.specs.Order.{block_at, header_block, task_block, header_said, task_said, whole_task_rows, front_rows, tasks_rows}
use Rattle.table.specs.Said.{the_header}
use Rattle.table.proofs.Rows.{table_first, tasks_more, tasks_end}
use Rattle.table.proofs.check.Goals as goal

pub returns-in_err-header : goal.returns-in_err-header
returns-in_err-header c =
    let bytes = c.args.table.now in
    let S = header_said (header_block bytes) in
    passed_up the_header (front_rows bytes) _ _ S _ (λ z. omega (arith, z)) c.from_residual.ensures c.in_err-header.ensures ∙ sym (table_first bytes S)

pub loop-task-init : goal.loop-task-init
loop-task-init c =
    let bytes = c.args.table.now in
    let S = header_said (header_block bytes) in
    let g = c.in_ok-header in
    let same = answered (front_rows bytes) S (λ z. omega (arith, z)) g.ensures in
    let n : tasks_in (header_block bytes) ≡ g.header.tasks - 0 = sym (sub-zero g.header.tasks ∙ cc) in
    let h : common_in (header_block bytes) ≡ g.header.common = cc in (
      same,
      table_first bytes S ∙ went_on (front_rows bytes) S (λ z. omega (arith, z)) g.ensures _
          ∙ ap (λ (k : ℕ). first (tasks_rows bytes (common_in (header_block bytes)) 0 k) S) n
          ∙ ap (λ (H : ℕ). first (tasks_rows bytes H 0 (g.header.tasks - 0)) S) h,
    )

-- what was checked is the task's own block
checked : (x : Said) (H i : ℕ) (bytes block : List ℕ) → block ≡ block_at (i + 1) bytes → x ≡ first (whole_task_rows H i (i + 1) block) (task_said block)
    → x ≡ first (whole_task_rows H i (i + 1) (task_block bytes i)) (task_said (task_block bytes i))
checked x H i bytes block e q = q ∙ ap (λ (b : List ℕ). first (whole_task_rows H i (i + 1) b) (task_said b)) e

pub returns-in_err-check_task : goal.returns-in_err-check_task
unfolding block_at
returns-in_err-check_task c =
    let bytes = c.args.table.now in
    let l = c.loop-task in
    let H = c.in_ok-header.header.common in
    let block = task_block bytes l.task in
    passed_up the_header (whole_task_rows H l.task (l.task + 1) block) _ _ (task_said block) _ (λ z. omega (arith, z))
    c.from_residual-in_err-check_task.ensures
    (checked _ H l.task bytes c.task_block.result.now c.task_block.ensures.bytes c.in_err-check_task.ensures)
    ∙ sym (tasks_more bytes H l.task _ (header_said (header_block bytes)) (search rules))
    ∙ sym l.invariant.1

pub loop-task-preserved : goal.loop-task-preserved
unfolding block_at
loop-task-preserved c =
    let bytes = c.args.table.now in
    let l = c.loop-task in
    let H = c.in_ok-header.header.common in
    let block = task_block bytes l.task in (
      l.invariant.0,
      l.invariant.1 ∙ tasks_more bytes H l.task _ (header_said (header_block bytes)) (search rules)
          ∙ went_on (whole_task_rows H l.task (l.task + 1) block) (task_said block) (λ z. omega (arith, z))
          (checked _ H l.task bytes c.task_block.result.now c.task_block.ensures.bytes c.in_ok-check_task.ensures) _,
    )

pub returns : goal.returns
returns c =
    let bytes = c.args.table.now in
    let l = c.loop-task in
    l.invariant.0 ∙ sym (l.invariant.1 ∙ tasks_end bytes c.in_ok-header.header.common l.task _ _ (search rules))
