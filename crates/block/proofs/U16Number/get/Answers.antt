use native.Mathlib.Omega.{arith}
use Rattle.block.proofs.Numbers.{halves}
use Rattle.block.proofs.U16Number.get.Goals as goal

pub returns : goal.returns
returns c =
    rw (c.get-low.ensures, c.get-high.ensures, c.saturating_add.ensures) (halves 1 1 c.args.at c.args.block.now (omega arith))
