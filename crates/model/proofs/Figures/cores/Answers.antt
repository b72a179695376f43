-- The quotient is the document's, rounded up.
use Rattle.std.proofs.Common.{rules, ◌-◌}
use Rattle.model.proofs.Rules.{ceil_is}
use Rattle.model.proofs.Figures.cores.Goals as goal

pub returns : goal.returns
returns c =
    let up = ceil_is (c.args.self.work - c.args.self.span) (c.args.self.period - c.args.self.span) (search rules) in search rules
