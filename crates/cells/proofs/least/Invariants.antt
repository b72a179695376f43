-- The invariant: the least so far, and what the modes left offer, give the least of all.
use mathlib.Core.Path.{◌≡◌}
use Prim.Native.Nat.{◌+◌}
use lib.ListN.{drop}
use Rattle.std.specs.List.{fold}
use Rattle.model.specs.Cells.{ceiling}
use Rattle.cells.proofs.Counts.{lesser}
use Rattle.cells.proofs.least.Given as goal

abbrev pub invariant-loop-mode : goal.invariant-loop-mode
invariant-loop-mode l =
    fold (lesser l.next.counts l.column) l.best (drop l.mode-index l.modes) ≡ fold (lesser l.next.counts l.column) (ceiling + 1) l.modes
