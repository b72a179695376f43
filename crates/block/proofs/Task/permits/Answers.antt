use Rattle.std.proofs.lemmas.Bool.{le-ltb}
use borrow.Author.Rules.{rules}
use mathlib.Core.Path.{◌∙◌}
use Rattle.block.proofs.Masks.{allows_bit, allows_none}
use Rattle.block.proofs.Task.permits.Goals as goal

pub returns-then-j-lt16 : goal.returns-then-j-lt16
returns-then-j-lt16 c = allows_bit c.args.self.permitted c.args.j

pub returns-else-j-lt16 : goal.returns-else-j-lt16
returns-else-j-lt16 c = le-ltb c.args.j 16 c.if-j-lt16.false ∙ allows_none c.args.self.permitted c.args.j (search rules) c.if-j-lt16.false
