use Rattle.puts.proofs.Filled.{closed}
use native.Mathlib.Omega.{arith}
use Rattle.puts.proofs.finish.Goals as goal

pub returns : goal.returns
returns c =
    let z = closed c.args.out.now c.args.from c.requires.0 (omega (arith, c.requires.1)) in
    cc z
