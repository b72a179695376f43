use mathlib.Core.Path.{◌≡◌}
use Prim.Native.Nat.{◌%◌}
use mathlib.Core.List.{[], ◌∷◌}
use native.Mathlib.Nat.{mod-eq_of_lt}
use borrow.Author.Rules.{rules}
use lib.Seq.{sets-eq}
use Rattle.block.specs.Bytes.{as_bytes}
use Rattle.puts.specs.inner.Puts.{over}
use Rattle.puts.proofs.U8Put.put.Goals as goal

pub returns : goal.returns
unfolding as_bytes over
returns c =
    let x = c.args.self in
    let small : x % 256 ≡ x = mod-eq_of_lt (search rules) in
    rw small (sets-eq (x ∷ []) c.args.out.now c.args.at c.requires)
