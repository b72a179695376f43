use Prim.Native.Nat.{ℕ}
use native.Mathlib.Nat.{sub-zero}
use native.Mathlib.Omega.{arith}
use mathlib.Core.Path.{sym, ap, ◌∙◌}
use lib.Dec.{leb}
use lib.ListN.{length}
use Rattle.answer.proofs.Elses.{by_reason}
use Rattle.model.specs.Workspace.{fill, cell_count}
use Rattle.model.specs.inner.Fitting.{least_cores}
use Rattle.choices.specs.Tasks.{tasks_of_table}
use Rattle.choices.proofs.Tables.{count_is}
use Rattle.portions.specs.Portion.{rule_of}
use Rattle.taking.proofs.Lent.{called}
use Rattle.whole.proofs.Wholes.{sent_up, unfit, planned}
use Rattle.whole.proofs.plan_whole.Goals as goal

pub returns-in_err-header : goal.returns-in_err-header
returns-in_err-header c =
    sent_up c.args.table.now c.args.cells.now c.args.out.now _ _ c.from_residual.ensures c.in_err-header.ensures

pub invariant_of-checked : goal.invariant_of-checked
invariant_of-checked c =
    let a = c.args in
    let g = c.in_ok-header in
    record { plannable = (called a.table.now (length a.cells.now) (length a.out.now) g.header (λ i. (c.type_inv.table i).fits) g.ensures).lawful }

pub returns-then-not-fits : goal.returns-then-not-fits
returns-then-not-fits c =
    let a = c.args in
    let g = c.in_ok-header in
    let l = called a.table.now (length a.cells.now) (length a.out.now) g.header (λ i. (c.type_inv.table i).fits) g.ensures in
    let fits_is = c.fits.ensures ∙ ap (leb (least_cores (tasks_of_table a.table.now))) (sym l.lawful.cores) in
    unfit a.table.now a.cells.now a.out.now l _ (by_reason _ _ c.at.ensures) (sym fits_is ∙ c.if-not-fits.true)

pub fill_rows-requires : goal.fill_rows-requires
unfolding cell_count
fill_rows-requires c =
    let a = c.args in
    let g = c.in_ok-header in
    let l = called a.table.now (length a.cells.now) (length a.out.now) g.header (λ i. (c.type_inv.table i).fits) g.ensures in
    (omega arith, omega (arith, c.cell_count.ensures), omega (arith, count_is l.lawful, l.room, c.cell_count.ensures))

pub take_from-requires : goal.take_from-requires
unfolding cell_count
take_from-requires c =
    let a = c.args in
    let g = c.in_ok-header in
    let l = called a.table.now (length a.cells.now) (length a.out.now) g.header (λ i. (c.type_inv.table i).fits) g.ensures in
    (omega (arith, count_is l.lawful, l.room, c.fill_rows.auto.cells), omega (arith, l.lawful.tasks, l.space))

pub returns : goal.returns
returns c =
    let a = c.args in
    let g = c.in_ok-header in
    let l = called a.table.now (length a.cells.now) (length a.out.now) g.header (λ i. (c.type_inv.table i).fits) g.ensures in
    let fits_is = c.fits.ensures ∙ ap (leb (least_cores (tasks_of_table a.table.now))) (sym l.lawful.cores) in
    planned a.table.now a.cells.now a.out.now l c.fill_rows.new.cells
    (c.fill_rows.ensures ∙ ap (λ (w : ℕ). fill (rule_of a.table.now) a.cells.now 0 w) (sub-zero c.cell_count.result ∙ c.cell_count.ensures ∙ sym (count_is l.lawful)))
    c.take_from.result _ (sym fits_is ∙ c.if-not-fits.false) c.take_from.ensures
