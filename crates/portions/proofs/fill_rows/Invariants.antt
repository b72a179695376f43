-- The invariant: the cells are what the rule fills up to p.
use mathlib.Core.Path.{◌≡◌}
use Prim.Native.Nat.{◌-◌, ◌≤◌}
use lib.ListN.{length}
use Rattle.model.specs.Workspace.{fill}
use Rattle.portions.specs.Portion.{rule_of}
use Rattle.portions.proofs.fill_rows.Given as goal

abbrev pub invariant-loop-p : goal.invariant-loop-p
invariant-loop-p l =
    (l.from ≤ l.p) × (l.p ≤ l.to) × (length l.cells ≡ length l.initial.cells) × (l.cells ≡ fill (rule_of l.checked.table.now) l.initial.cells l.from (l.p - l.from))

abbrev pub decreases-loop-p : goal.decreases-loop-p
decreases-loop-p l = l.to - l.p
