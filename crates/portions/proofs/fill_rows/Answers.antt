use mathlib.Core.Path.{◌∙◌}
use native.Mathlib.Omega.{arith}
use Rattle.model.proofs.Fills.{fill_none, fill_chain}
use Rattle.portions.specs.Portion.{rule_of}
use Rattle.portions.proofs.fill_rows.Goals as goal

pub loop-p-init : goal.loop-p-init
loop-p-init c = (omega arith, omega arith, omega arith, fill_none _ _ _)

pub loop-p-preserved : goal.loop-p-preserved
loop-p-preserved c =
    let a = c.args in (
      omega arith,
      omega arith,
      c.row_run.auto.cells ∙ c.loop-p.invariant.2,
      fill_chain (rule_of a.checked.table.now) a.cells.now c.loop-p.cells c.row_run.new.cells a.from c.loop-p.p c.min-stop.result
          c.loop-p.invariant.0 (omega arith) c.loop-p.invariant.3 c.row_run.ensures,
    )
