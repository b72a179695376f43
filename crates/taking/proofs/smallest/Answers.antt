use Prim.Native.Nat.{ℕ}
use native.Mathlib.Omega.{arith}
use mathlib.Core.Path.{◌≡◌, sym, ap, ◌∙◌}
use Rattle.std.proofs.lemmas.List.{get_or-take, length-take-le}
use Rattle.model.specs.Cells.{reads}
use Rattle.model.proofs.Taking.{used_le}
use Rattle.cells.specs.inner.Rows.{row_reads}
use Rattle.taking.proofs.Searches.{used_here, used_past}
use Rattle.taking.proofs.smallest.Goals as goal
use Rattle.taking.proofs.smallest.Goals.{After-reads}

-- the cell at hand is the row's in this column
at_hand : (c : After-reads) → c.reads.result ≡ row_reads c.args.row.now c.loop-column.column
at_hand c =
    let a = c.args in
    c.reads.ensures
    ∙ ap reads (get_or-take {A = ℕ} a.m a.row.now c.loop-column.column 0 (omega (arith, length-take-le a.m a.row.now (omega arith))))

pub loop-column-preserved : goal.loop-column-preserved
loop-column-preserved c =
    used_past _ _ _ c.loop-column.invariant
    (λ e. c.if-reads-last.false (at_hand (goal.at.loop-column-preserved c).After-reads ∙ e ∙ sym c.reads-last.ensures))

pub returns-then-reads-last : goal.returns-then-reads-last
returns-then-reads-last c =
    used_here _ _ _ c.loop-column.invariant
    (sym (at_hand (goal.at.returns-then-reads-last c).After-reads) ∙ c.if-reads-last.true ∙ c.reads-last.ensures)

pub returns-after-loop-column : goal.returns-after-loop-column
returns-after-loop-column c =
    let a = c.args in
    omega (arith, c.loop-column.invariant, used_le (row_reads a.row.now) a.m, length-take-le a.m a.row.now (omega arith))
