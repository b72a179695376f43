use native.Mathlib.Omega.{arith}
use lib.ListN.{length}
use Rattle.answer.proofs.Elses.{by_reason}
use Rattle.model.specs.Workspace.{cell_count}
use Rattle.choices.proofs.Tables.{count_is}
use Rattle.taking.proofs.Lent.{called}
use Rattle.taking.proofs.Exits.{sent_up, above, below, taken}
use Rattle.taking.proofs.take.Goals as goal

pub returns-in_err-header : goal.returns-in_err-header
returns-in_err-header c =
    sent_up c.args.table.now c.args.cells.now c.args.progress c.args.out.now _ _ c.from_residual.ensures c.in_err-header.ensures

pub invariant_of-checked : goal.invariant_of-checked
invariant_of-checked c =
    let a = c.args in
    let g = c.in_ok-header in
    record { plannable = (called a.table.now (length a.cells.now) (length a.out.now) g.header (λ i. (c.type_inv.table i).fits) g.ensures).lawful }

pub returns-then-cell_count-p : goal.returns-then-cell_count-p
returns-then-cell_count-p c =
    let a = c.args in
    let g = c.in_ok-header in
    let l = called a.table.now (length a.cells.now) (length a.out.now) g.header (λ i. (c.type_inv.table i).fits) g.ensures in
    above a.table.now a.cells.now a.progress a.out.now l (by_reason _ _ c.at.ensures) (omega (arith, c.cell_count.ensures, c.if-cell_count-p.true))

pub returns-then-p-cell_count : goal.returns-then-p-cell_count
returns-then-p-cell_count c =
    let a = c.args in
    let g = c.in_ok-header in
    let l = called a.table.now (length a.cells.now) (length a.out.now) g.header (λ i. (c.type_inv.table i).fits) g.ensures in
    below a.table.now a.cells.now a.progress a.out.now l (omega (arith, c.cell_count.ensures, c.if-cell_count-p.false)) (by_reason _ _ c.at-then-p-cell_count.ensures)
    (omega (arith, c.cell_count-2.ensures, c.if-p-cell_count.true))

pub take_from-requires : goal.take_from-requires
unfolding cell_count
take_from-requires c =
    let a = c.args in
    let g = c.in_ok-header in
    let l = called a.table.now (length a.cells.now) (length a.out.now) g.header (λ i. (c.type_inv.table i).fits) g.ensures in
    (omega (arith, count_is l.lawful, l.room), omega (arith, l.lawful.tasks, l.space))

pub returns : goal.returns
returns c =
    let a = c.args in
    let g = c.in_ok-header in
    let l = called a.table.now (length a.cells.now) (length a.out.now) g.header (λ i. (c.type_inv.table i).fits) g.ensures in
    taken a.table.now a.cells.now a.progress a.out.now l (omega (arith, c.cell_count.ensures, c.if-cell_count-p.false))
    (omega (arith, c.cell_count-2.ensures, c.if-p-cell_count.false)) c.take_from.ensures
