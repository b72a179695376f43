-- By the three cases of what is left.
use Rattle.table.proofs.Blocks.{block_rest, block_whole}
use mathlib.Core.Path.{refl}
use native.Mathlib.Omega.{arith}
use Rattle.table.proofs.block_from.Goals as goal

pub returns-then-len-start-le512 : goal.returns-then-len-start-le512
returns-then-len-start-le512 c =
    let a = c.args in
    record { bytes = block_rest a.bytes.now a.start c.if-len-start-le512.true; whose = refl; place = omega arith }

pub returns : goal.returns
returns c =
    let a = c.args in
    record { bytes = block_whole a.bytes.now a.start; whose = refl; place = omega arith }
