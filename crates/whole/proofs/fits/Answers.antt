use native.Mathlib.Omega.{arith}
use Prim.Native.Nat.{◌<◌}
use mathlib.Core.Path.{sym, ap, ◌∙◌}
use Rattle.table.specs.declared.checked.Checked.{Checked}
use Rattle.table.specs.Numbers.{numbers_in}
use Rattle.table.specs.inner.Accepted.{Plannable}
use Rattle.choices.proofs.Tables.{block_meets}
use Rattle.whole.proofs.Rests.{fits_from, fits_all, fits_end, fits_not, fits_less}
use Rattle.whole.proofs.fits.Goals as goal

-- the table can be planned over, with its own common period
plans : (k : Checked) → Plannable k.table.now k.header.tasks k.header.cores (numbers_in k.table.now).common
plans k = let w = k.plannable in rw w.common w

pub loop-task-init : goal.loop-task-init
loop-task-init c =
    fits_all c.args.checked.table.now c.args.checked.header.cores ∙ ap (fits_from c.args.checked.table.now 0) (sym c.from-left.ensures)

pub least_need-need-requires : goal.least_need-need-requires
least_need-need-requires c =
    let less : c.loop-task.task < c.args.checked.header.tasks = omega (arith, c.loop-task-test.true, c.from-task-end.ensures) in
    block_meets (plans c.args.checked) c.loop-task.task less c.task_block.result.now c.task_block.ensures.bytes

pub returns-in_default : goal.returns-in_default
returns-in_default c =
    let less : c.loop-task.task < c.args.checked.header.tasks = omega (arith, c.loop-task-test.true, c.from-task-end.ensures) in
    sym (c.loop-task.invariant
    ∙ fits_not (plans c.args.checked) c.loop-task.task less c.task_block.result.now c.task_block.ensures.bytes c.least_need-need.result
    c.least_need-need.ensures c.loop-task.left (omega (arith, c.in_default.ensures)))

pub loop-task-preserved : goal.loop-task-preserved
loop-task-preserved c =
    let less : c.loop-task.task < c.args.checked.header.tasks = omega (arith, c.loop-task-test.true, c.from-task-end.ensures) in
    c.loop-task.invariant
    ∙ fits_less (plans c.args.checked) c.loop-task.task less c.task_block.result.now c.task_block.ensures.bytes c.least_need-need.result
    c.least_need-need.ensures c.loop-task.left c.in-Some.ensures.0
    ∙ ap (fits_from c.args.checked.table.now _) (sym c.in-Some.ensures.1)

pub returns : goal.returns
returns c =
    sym (c.loop-task.invariant
    ∙ fits_end (plans c.args.checked) c.loop-task.task c.loop-task.left (omega (arith, c.loop-task-test.false, c.from-task-end.ensures)))
