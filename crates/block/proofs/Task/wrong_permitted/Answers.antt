use Prim.Native.Nat.{◌+◌, ◌-◌, ◌^◌, ◌<◌}
use mathlib.Core.Path.{◌≡◌, sym}
use native.Mathlib.Omega.{arith}
use borrow.Author.Rules.{rules}
use borrow.Author.Tests.{ne_eqb}
use Rattle.std.proofs.lemmas.Bool.{le-ltb}
use Rattle.block.specs.Tests.{any_allowed}
use Rattle.block.proofs.Masks.{any_from, none_zero}
use Rattle.block.proofs.Task.wrong_permitted.Goals as goal

pub returns-then-self-eq0 : goal.returns-then-self-eq0
returns-then-self-eq0 c =
    let p = c.args.self.permitted in
    rw (none_zero p (search rules), c.if-self-eq0.true)

pub returns-then-self-lt16 : goal.returns-then-self-lt16
returns-then-self-lt16 c =
    let p = c.args.self.permitted in
    let m = c.args.self.modes in
    let whole : 16 - m + m ≡ 16 = omega arith in
    let small : p < 2 ^ (16 - m + m) = rw whole (search rules) in
    rw (none_zero p (search rules), ne_eqb p 0 c.if-self-eq0.false) (sym (any_from p m (16 - m) small))

pub returns-else-self-lt16 : goal.returns-else-self-lt16
unfolding any_allowed
returns-else-self-lt16 c =
    let p = c.args.self.permitted in
    let m = c.args.self.modes in
    let none : 16 - m ≡ 0 = omega arith in
    rw (none_zero p (search rules), ne_eqb p 0 c.if-self-eq0.false, le-ltb m 16 c.if-self-lt16.false, none)
