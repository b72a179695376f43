use mathlib.Core.Path.{sym, ◌∙◌}
use native.Mathlib.Omega.{arith}
use Rattle.block.specs.Bytes.{laid}
use Rattle.puts.proofs.Puts.{over_none, word_more}
use Rattle.puts.proofs.put_all.Goals as goal

pub loop-i-init : goal.loop-i-init
unfolding laid
loop-i-init c = sym (over_none _ _)

pub loop-i-preserved : goal.loop-i-preserved
loop-i-preserved c =
    let s = c.args in
    let l = c.loop-i in
    c.put.ensures ∙ rw l.invariant (word_more s.out.now s.at l.i s.figures.now (omega arith) (omega arith))
