use Rattle.std.proofs.Common.{rules}
use native.Mathlib.Omega.{arith}
use Prim.Native.Nat.{◌+◌, ◌-◌, ◌/◌, ◌<◌}
use Rattle.choices.proofs.Tables.{few_cores, block_limits}
use Rattle.portions.proofs.Rows.{row_within}
use Rattle.portions.proofs.Runs.{zero_run, task_run_lem}
use Rattle.portions.proofs.row_run.Goals as goal

pub returns-then-stretch-eq0 : goal.returns-then-stretch-eq0
returns-then-stretch-eq0 c =
    let a = c.args in
    let h = a.checked.header in
    let w = c.requires in
    let s = c.split_at_mut-before in
    zero_run a.checked.table.now h.tasks h.cores h.common a.checked.plannable a.cells.now s.result.0.now s.result.1.now a.from a.to
    s.ensures.value s.ensures.front_len w.0 w.1 w.2 (omega arith) c.fill.new.self c.if-stretch-eq0.true (c.fill.ensures.after (λ y e. e))

pub overflow_sub-task : goal.overflow_sub-task
overflow_sub-task c = row_within c.args.checked.header.tasks c.args.checked.header.cores c.args.from c.requires.0

pub load_modes-requires : goal.load_modes-requires
load_modes-requires c =
    let a = c.args in
    let h = a.checked.header in
    let i = h.tasks - a.from / (h.cores + 1) in
    let less : i < h.tasks = omega (arith, row_within h.tasks h.cores a.from c.requires.0) in
    block_limits a.checked.plannable i less _ c.task_block-block.ensures.bytes

-- the row is no wider than the widest
pub fill_run-requires : goal.fill_run-requires
fill_run-requires c =
    let few = few_cores c.args.checked.plannable in search rules

pub returns : goal.returns
returns c =
    let a = c.args in
    let h = a.checked.header in
    let w = c.requires in
    let s = c.split_at_mut-before in
    task_run_lem a.checked.table.now h.tasks h.cores h.common a.checked.plannable a.cells.now s.result.0.now s.result.1.now a.from a.to
    s.ensures.value s.ensures.front_len w.0 w.1 w.2 (omega arith) (omega arith) _ c.load_modes.new.modes.items c.as_slice.result.now c.fill_run.new.cells
    c.task_block-block.ensures.bytes c.load_modes.ensures c.as_slice.ensures.value c.fill_run.ensures
