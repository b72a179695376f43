use mathlib.Core.Path.{refl, ◌∙◌}
use mathlib.Core.List.{map}
use Prim.Native.Nat.{◌+◌}
use native.Mathlib.Omega.{arith}
use Rattle.model.specs.Cells.{least}
use Rattle.model.proofs.Least.{least_cong}
use Rattle.model.proofs.Turns.{each_put}
use Rattle.cells.specs.inner.Rows.{held, row_reads}
use Rattle.cells.proofs.fill_run.Goals as goal

pub loop-i-init : goal.loop-i-init
unfolding Rattle.model.specs.Turns.each_from
loop-i-init c = refl

pub loop-i-preserved : goal.loop-i-preserved
loop-i-preserved c =
    let a = c.args in
    let l = c.loop-i in
    let t = map held a.modes.now in
    each_put (least t (row_reads a.next.now)) a.column a.cells.now l.cells l.i c.least.result (omega arith)
    (c.least.ensures ∙ least_cong t (row_reads _) (row_reads a.next.now) (a.column + l.i) (λ k low. c.new-held.ensures k (omega arith)))
    l.invariant
