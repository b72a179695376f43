use Prim.Native.Nat.{ℕ, min}
use mathlib.Core.Path.{◌≡◌, refl, ◌∙◌, ap}
use native.Mathlib.Omega.{arith}
use lib.ListN.{length, get_or, length-take}
use lib.Seq.{get_or-take}
use Rattle.block.specs.Bytes.{weighed, check_of}
use Rattle.block.proofs.Checks.{weighed_more, weighed_all, term_small}
use Rattle.block.proofs.check_of.Goals as goal

pub loop-i-init : goal.loop-i-init
unfolding weighed
loop-i-init c = (omega arith, refl)

pub loop-i-preserved : goal.loop-i-preserved
loop-i-preserved c =
    let i = c.loop-i.i in
    let s = c.args.block.now in
    let n = length-take c.min-end.result s in
    let e = get_or-take c.min-end.result s i 0 (omega arith) in
    let small = term_small i (get_or s i 0) (omega arith) (c.type_inv.block i).fits in
    rw (e, weighed_more) (omega arith, omega arith)

pub returns : goal.returns
unfolding check_of
returns c =
    let s = c.args.block.now in
    let n = length-take c.min-end.result s in
    let e : c.loop-i.i ≡ min 508 (length s) = omega arith in
    c.loop-i.invariant.1 ∙ ap (λ (k : ℕ). weighed k s) e ∙ weighed_all 508 s
