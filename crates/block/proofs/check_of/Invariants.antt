-- The invariant: the sum is that of the offsets passed.
use Prim.Native.Nat.{◌*◌, ◌≤◌}
use mathlib.Core.Path.{◌≡◌}
use Rattle.block.specs.Bytes.{weighed}
use Rattle.block.proofs.check_of.Given as goal

abbrev pub invariant-loop-i : goal.invariant-loop-i
invariant-loop-i l = (l.sum ≤ 129540 * l.i) × (l.sum ≡ weighed l.i l.block)
