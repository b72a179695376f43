use Prim.Native.Nat.{ℕ}
use mathlib.Core.Path.{ap}
use native.Mathlib.Omega.{arith}
use borrow.Author.Tests.{le-leb, lt-leb}
use lib.Dec.{eqb}
use Rattle.model.specs.Cells.{may}
use Rattle.model.specs.Taking.{keeps}
use Rattle.cells.proofs.mode.Mode.keeps.Goals as goal

pub returns-then-self-column : goal.returns-then-self-column
unfolding keeps may
returns-then-self-column c = simp (le-leb c.args.self.need c.args.column (omega arith)) (ap (λ (x : ℕ). eqb x c.args.cell) c.onward.ensures)

pub returns-else-self-column : goal.returns-else-self-column
unfolding keeps may
returns-else-self-column c = simp (lt-leb _ _ c.if-self-column.false)
