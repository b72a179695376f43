use mathlib.Core.Path.{ap, ◌∙◌}
use Prim.Native.Nat.{ℕ, ◌+◌, ◌-◌}
use native.Mathlib.Omega.{arith}
use lib.ListN.{get_or}
use Rattle.model.specs.Cells.{reads, onward}
use Rattle.cells.proofs.Counts.{counted, counts_sum}
use Rattle.cells.proofs.mode.Mode.onward.Goals as goal

pub overflow_add-self : goal.overflow_add-self
overflow_add-self c = omega (arith, counted _ _ c.count_of.ensures)

pub returns : goal.returns
unfolding onward
returns c =
    let o = c.args.self in
    c.reads.ensures
    ∙ ap (λ (y : ℕ). reads (o.cost + y)) c.count_of.ensures
    ∙ counts_sum o.cost (get_or c.args.next.now (c.args.column - o.need) 0)
