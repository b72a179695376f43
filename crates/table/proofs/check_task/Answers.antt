use mathlib.Core.Path.{◌≡◌, sym, ap, ◌∙◌}
use Prim.Native.Nat.{ℕ, ◌-◌}
use native.Mathlib.Nat.{sub-zero}
use native.Mathlib.Omega.{arith}
use Rattle.answer.specs.Order.{first}
use Rattle.answer.proofs.Elses.{answered, went_on, passed_up}
use Rattle.model.specs.Turns.{each_from}
use Rattle.block.specs.Layout.{modes_in, figures_in}
use Rattle.block.specs.Tests.{figure_rows, modes_rows}
use Rattle.block.proofs.Figures.{modes_more, modes_end}
use Rattle.table.specs.Said.{the_task}
use Rattle.table.specs.Order.{task_rows, task_said, figures_said}
use Rattle.table.proofs.Rows.{whole_first}
use Rattle.table.proofs.check_task.Goals as goal

pub returns-in_err-task : goal.returns-in_err-task
returns-in_err-task c =
    let a = c.args in
    let S = task_said a.block.now in
    passed_up the_task (task_rows a.number a.at a.block.now) _ _ S _ (λ z. omega (arith, z)) c.from_residual.ensures c.in_err-task.ensures
    ∙ sym (whole_first a.common a.number a.at a.block.now S)

pub loop-mode-init : goal.loop-mode-init
loop-mode-init c =
    let a = c.args in
    let block = a.block.now in
    let S = task_said block in
    let rows = task_rows a.number a.at block in
    let g = c.in_ok-task in
    let same = answered rows S (λ z. omega (arith, z)) g.ensures in
    let n : g.task.modes - 0 ≡ modes_in block = sub-zero g.task.modes ∙ cc in (
      same,
      whole_first a.common a.number a.at block S ∙ went_on rows S (λ z. omega (arith, z)) g.ensures _
          ∙ ap (λ (k : ℕ). first (modes_rows a.at a.common (each_from (figures_in block) 0 k)) S) (sym n),
    )

pub returns-in_err-test_figures : goal.returns-in_err-test_figures
returns-in_err-test_figures c =
    let a = c.args in
    let block = a.block.now in
    let j = c.loop-mode.mode in
    let f = figures_in block j in
    passed_up the_task (figure_rows a.at a.common f) _ _ (figures_said f) _ (λ z. omega (arith, z)) c.from_residual-in_err-test_figures.ensures
    (c.in_err-test_figures.ensures ∙ ap (λ g. first (figure_rows a.at a.common g) (figures_said g)) c.figures_at.ensures)
    ∙ sym (modes_more (figures_in block) a.at a.common j _ (task_said block) c.loop-mode-test.true)
    ∙ sym c.loop-mode.invariant.1

pub loop-mode-preserved : goal.loop-mode-preserved
loop-mode-preserved c =
    let a = c.args in
    let block = a.block.now in
    let l = c.loop-mode in
    let f = figures_in block l.mode in (
      l.invariant.0,
      l.invariant.1 ∙ modes_more (figures_in block) a.at a.common l.mode _ (task_said block) c.loop-mode-test.true
          ∙ went_on (figure_rows a.at a.common f) (figures_said f) (λ z. omega (arith, z))
          (c.in_ok-test_figures.ensures ∙ ap (λ g. first (figure_rows a.at a.common g) (figures_said g)) c.figures_at.ensures) _,
    )

pub returns : goal.returns
returns c =
    let a = c.args in
    let l = c.loop-mode in
    l.invariant.0 ∙ sym (l.invariant.1 ∙ modes_end (figures_in a.block.now) a.at a.common l.mode _ _ c.loop-mode-test.false)
