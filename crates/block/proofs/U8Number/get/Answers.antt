use Rattle.block.proofs.Numbers.{number_one}
use borrow.Author.Rules.{rules}
use Rattle.block.proofs.U8Number.get.Goals as goal

pub returns : goal.returns
returns c = rw number_one (search rules)
