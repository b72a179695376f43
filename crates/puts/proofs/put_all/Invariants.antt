-- The invariant: the numbers passed stand there.
use mathlib.Core.Path.{◌≡◌}
use lib.ListN.{take, replicate}
use Rattle.block.specs.Bytes.{laid}
use Rattle.puts.specs.inner.Puts.{over}
use Rattle.puts.proofs.put_all.Given as goal

abbrev pub invariant-loop-i : goal.invariant-loop-i
invariant-loop-i l = l.out ≡ over l.initial.out l.at (laid (replicate l.i 4) (take l.i l.figures))
