use native.Mathlib.Omega.{arith}
use mathlib.Core.Path.{sym, ◌∙◌}
use Rattle.answer.proofs.Elses.{answered, by_reason}
use Rattle.table.specs.Order.{header_block, header_said, table_rows}
use Rattle.table.proofs.Accepted.{answered_none, plans}
use Rattle.choices.proofs.Tables.{count_is}
use Rattle.taking.proofs.Lent.{sent_up, short_workspace, short_output, enough}
use Rattle.taking.proofs.check_lent.Goals as goal

pub returns-in_err-header : goal.returns-in_err-header
returns-in_err-header c =
    sent_up c.args.table.now c.args.cells c.args.out _ _ c.from_residual.ensures c.in_err-header.ensures

pub invariant_of-checked : goal.invariant_of-checked
invariant_of-checked c =
    let g = c.in_ok-header in
    record { plannable = plans c.args.table.now g.header (λ i. (c.type_inv.table i).fits) g.ensures }

pub returns-then-cells-cell_count : goal.returns-then-cells-cell_count
returns-then-cells-cell_count c =
    let a = c.args in
    let g = c.in_ok-header in
    let w = plans a.table.now g.header (λ i. (c.type_inv.table i).fits) g.ensures in
    by_reason _ _ c.at.ensures
    ∙ short_workspace a.table.now a.cells a.out (answered_none a.table.now (sym g.ensures)) (omega (arith, count_is w, c.cell_count.ensures, c.if-cells-cell_count.true))

pub returns-then-out-header : goal.returns-then-out-header
returns-then-out-header c =
    let a = c.args in
    let g = c.in_ok-header in
    let w = plans a.table.now g.header (λ i. (c.type_inv.table i).fits) g.ensures in
    by_reason _ _ c.at-then-out-header.ensures
    ∙ short_output a.table.now a.cells a.out (answered_none a.table.now (sym g.ensures)) (omega (arith, count_is w, c.cell_count.ensures, c.if-cells-cell_count.false))
    (omega (arith, w.tasks, c.if-out-header.true))

pub returns : goal.returns
returns c =
    let a = c.args in
    let g = c.in_ok-header in
    let w = plans a.table.now g.header (λ i. (c.type_inv.table i).fits) g.ensures in
    enough a.table.now a.cells a.out (answered_none a.table.now (sym g.ensures)) (omega (arith, count_is w, c.cell_count.ensures, c.if-cells-cell_count.false))
    (omega (arith, w.tasks, c.if-out-header.false)) (answered (table_rows a.table.now) (header_said (header_block a.table.now)) (λ z. omega (arith, z)) g.ensures)
