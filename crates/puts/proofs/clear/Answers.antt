use mathlib.Core.Path.{◌≡◌}
use mathlib.Core.List.{append_assoc}
use Prim.Native.Nat.{◌-◌}
use lib.ListN.{replicate, length-replicate}
use lib.Seq.{drop-drop}
use Rattle.std.proofs.Common.{rules}
use Rattle.puts.specs.inner.Puts.{over}
use Rattle.puts.proofs.clear.Goals as goal

pub returns : goal.returns
unfolding over
returns c =
    let zeros : c.fill.new.self ≡ replicate (508 - c.args.from) 0 = search rules in
    rw zeros (simp (append_assoc, length-replicate, drop-drop))
