use mathlib.Core.Path.{◌≡◌, sym, ap, subst, ◌∙◌}
use Prim.Native.Nat.{ℕ, ◌-◌}
use native.Mathlib.Omega.{arith}
use lib.ListN.{length}
use Rattle.answer.specs.Said.{Said, filled}
use Rattle.answer.specs.Order.{first, afterwards}
use Rattle.answer.proofs.Elses.{left_as_it_was, by_reason}
use Rattle.answer.proofs.Outcomes.{joined}
use Rattle.model.specs.Workspace.{fill, advance, cell_count}
use Rattle.table.specs.Order.{header_block, header_said, table_rows}
use Rattle.table.proofs.Accepted.{answered_none, plans}
use Rattle.choices.specs.Tasks.{cells_of_table}
use Rattle.choices.proofs.Tables.{count_is, count_most}
use Rattle.portions.specs.Portion.{own_rows, portion_rows, rule_of}
use Rattle.portions.proofs.Ends.{rest, after, Ends, short, above, done, portioned}
use Rattle.portions.proofs.portion.Goals as goal

pub returns-in_err-header : goal.returns-in_err-header
unfolding portion_rows
returns-in_err-header c =
    let a = c.args in
    let bytes = a.table.now in
    let own = own_rows (cells_of_table bytes) (length a.cells.now) a.progress in
    let r = rest bytes a.cells.now a.progress a.budget in
    let e = after bytes a.cells.now a.progress a.budget in
    portioned bytes a.cells.now a.progress a.budget _ _
    (joined (table_rows bytes) own r a.cells.now e
    (left_as_it_was filled (table_rows bytes) _ _ (header_said (header_block bytes)) (first own r) a.cells.now (afterwards own a.cells.now e)
    (λ z. omega (arith, z)) c.from_residual.ensures c.in_err-header.ensures))

pub invariant_of-checked : goal.invariant_of-checked
invariant_of-checked c =
    let g = c.in_ok-header in
    record { plannable = plans c.args.table.now g.header (λ i. (c.type_inv.table i).fits) g.ensures }

pub overflow_cast-count : goal.overflow_cast-count
overflow_cast-count c =
    let g = c.in_ok-header in
    let w = plans c.args.table.now g.header (λ i. (c.type_inv.table i).fits) g.ensures in
    omega (arith, count_most w, c.cell_count-count.ensures)

pub returns-then-cells-cell_count : goal.returns-then-cells-cell_count
returns-then-cells-cell_count c =
    let a = c.args in
    let g = c.in_ok-header in
    let w = plans a.table.now g.header (λ i. (c.type_inv.table i).fits) g.ensures in
    portioned a.table.now a.cells.now a.progress a.budget _ _
    (subst (λ (x : Said). Ends a.table.now a.cells.now a.progress a.budget x a.cells.now) (sym (by_reason _ _ c.at.ensures))
    (short a.table.now a.cells.now a.progress a.budget (answered_none a.table.now (sym g.ensures)) (omega (arith, count_is w, c.cell_count.ensures, c.if-cells-cell_count.true))))

pub returns-then-count-progress : goal.returns-then-count-progress
returns-then-count-progress c =
    let a = c.args in
    let g = c.in_ok-header in
    let w = plans a.table.now g.header (λ i. (c.type_inv.table i).fits) g.ensures in
    portioned a.table.now a.cells.now a.progress a.budget _ _
    (subst (λ (x : Said). Ends a.table.now a.cells.now a.progress a.budget x a.cells.now) (sym (by_reason _ _ c.at-then-count-progress.ensures))
    (above a.table.now a.cells.now a.progress a.budget (answered_none a.table.now (sym g.ensures)) (omega (arith, count_is w, c.cell_count.ensures, c.if-cells-cell_count.false))
    (omega (arith, count_is w, c.cell_count-count.ensures, c.if-count-progress.true))))

pub fill_rows-requires : goal.fill_rows-requires
fill_rows-requires c =
    let g = c.in_ok-header in
    let w = plans c.args.table.now g.header (λ i. (c.type_inv.table i).fits) g.ensures in
    unfold cell_count in
    omega (arith, c.cell_count-count.ensures, c.cell_count.ensures, c.if-count-progress.false, c.if-cells-cell_count.false, c.min-to.ensures, c.saturating_add.ensures)

pub returns : goal.returns
returns c =
    let a = c.args in
    let g = c.in_ok-header in
    let w = plans a.table.now g.header (λ i. (c.type_inv.table i).fits) g.ensures in
    let to : c.min-to.result ≡ advance (cells_of_table a.table.now) a.progress a.budget =
    omega (arith, count_is w, count_most w, c.cell_count-count.ensures, c.min-to.ensures, c.saturating_add.ensures) in
    portioned a.table.now a.cells.now a.progress a.budget _ _
    (done a.table.now a.cells.now a.progress a.budget (answered_none a.table.now (sym g.ensures)) (omega (arith, count_is w, c.cell_count.ensures, c.if-cells-cell_count.false))
    (omega (arith, count_is w, c.cell_count-count.ensures, c.if-count-progress.false))
    (ap filled to)
    (c.fill_rows.ensures ∙ ap (λ (q : ℕ). fill (rule_of a.table.now) a.cells.now a.progress (q - a.progress)) to))
