use Prim.Native.Nat.{◌+◌, ◌*◌, ◌≤◌}
use native.Mathlib.Omega.{arith}
use mathlib.Core.Path.{◌≡◌, sym, ap, ◌∙◌}
use mathlib.Core.List.{map}
use lib.ListN.{length, take, drop}
use Rattle.model.specs.Workspace.{cell_count}
use Rattle.model.proofs.Least.{keeps_true}
use Rattle.cells.specs.inner.Rows.{held}
use Rattle.table.specs.Numbers.{task_numbers_in}
use Rattle.choices.specs.inner.Modes.{modes_of}
use Rattle.choices.proofs.Tables.{block_limits}
use Rattle.taking.proofs.Tracing.{RowAt, at_first, done, all_done, ended, first_row, next_row, stuck, next_mode, step}
use Rattle.taking.proofs.trace.Goals as goal
use Rattle.taking.proofs.trace.Goals.{After-task_block, After-as_slice-mode-items}

pub split_at-requires : goal.split_at-requires
unfolding cell_count
split_at-requires c = omega (arith, c.requires.1)

pub tasks-init : goal.tasks-init
unfolding cell_count
tasks-init c =
    let a = c.args in
    let h = a.checked.header in
    let s = c.split_at.ensures in
    let k = c.rchunks_exact.ensures in
    let room : h.cores + 1 ≤ length c.split_at.result.1.now = omega (arith, c.requires.1, s.back_len) in
    rw (c.into_iter-i-iterator.ensures.into_iter_gives, c.enumerate-i-items.ensures.source, c.enumerate-i-items.ensures.count) (
      k.size,
      at_first a.checked.table.now a.cells.now h.tasks h.cores a.used c.requires.0 c.new-found.ensures
          (first_row h.tasks h.cores _ s.by_index.0 s.front_len k.parts k.remainder_len room),
    )

-- the next row comes
comes : (c : After-task_block)
    → RowAt c.args.cells.now c.args.checked.header.tasks c.args.checked.header.cores (c.tasks.i-iterator.count + 1) c.next.new.self.iter.rest.now c.in-Some.next.now
comes c =
    let s = c.in-Some.ensures.steps.0.2 in
    next_row c.tasks.invariant.1.at_row _ _ s.0 (s.1 ∙ c.tasks.invariant.0)

pub load_modes-requires : goal.load_modes-requires
load_modes-requires c =
    block_limits c.args.checked.plannable c.in-Some.i (omega (arith, c.in-Some.ensures.steps.1, (comes (goal.at.load_modes-requires c).After-task_block).inside)) _ c.task_block.ensures.bytes

pub overflow_sub-column : goal.overflow_sub-column
overflow_sub-column c = (keeps_true _ _ _ _ (sym c.keeps.ensures ∙ c.if-keeps.true)).1

-- the task's modes are loaded
own : (c : After-as_slice-mode-items)
    → map held c.as_slice-mode-items.result.now ≡ modes_of c.args.checked.header.common (task_numbers_in c.task_block.result.now)
own c = ap (map held) c.as_slice-mode-items.ensures.value ∙ c.load_modes.ensures

-- from the block of that task
block : (c : After-task_block) → c.task_block.result.now ≡ take 512 (drop (512 * (c.tasks.i-iterator.count + 1)) c.args.checked.table.now)
block c = rw (← c.in-Some.ensures.steps.1) c.task_block.ensures.bytes

pub loop-j-preserved : goal.loop-j-preserved
loop-j-preserved c =
    let l = c.loop-j.invariant in
    let at = goal.at.loop-j-preserved c in (
      l.0,
      l.1,
      next_mode c.args.checked.plannable c.tasks.invariant.1 (comes at.After-task_block) _ c.reads-cell.ensures _ (block at.After-task_block) _
          (own at.After-as_slice-mode-items) _ l.2 (omega arith) c.mode-item.result c.mode-item.is (rw (← l.1) (sym c.keeps.ensures ∙ c.if-keeps.false)),
    )

pub returns-in-tasks : goal.returns-in-tasks
returns-in-tasks c =
    let at = goal.at.returns-in-tasks c in
    stuck c.args.checked.plannable c.tasks.invariant.1 (comes at.After-task_block) _ c.reads-cell.ensures _ (block at.After-task_block) _
    (own at.After-as_slice-mode-items) _ c.loop-j.invariant.2 (omega arith)

pub tasks-preserved : goal.tasks-preserved
tasks-preserved c =
    let l = c.loop-j.invariant in
    let at = goal.at.tasks-preserved c in
    let s = c.in-Some.ensures.steps in (
      s.0.0 ∙ c.tasks.invariant.0,
      rw (c.push.ensures.items, l.0, l.1, s.2)
          (step c.args.checked.plannable c.tasks.invariant.1 (comes at.After-task_block) _ c.reads-cell.ensures _ (block at.After-task_block) _
          (own at.After-as_slice-mode-items) _ l.2 (omega arith) c.mode-item.result c.mode-item.is
          (rw (← l.1) (sym c.keeps.ensures ∙ c.if-keeps.true))),
    )

pub returns : goal.returns
returns c =
    let l = c.args.checked.plannable in
    let a = c.tasks.invariant.1 in
    let last = ended a.at_row (omega (arith, c.in-None.ensures.steps.0.2.0, c.tasks.invariant.0)) in
    (all_done l a last, done l a last)
