-- The cost of a mode fits 64 bits, as `cost_most` says.
use Rattle.std.proofs.Common.{rules}
use Rattle.model.proofs.Bounds.{cost_most}
use Rattle.model.proofs.cost.Goals as goal

pub overflow_mul-result-2 : goal.overflow_mul-result-2
overflow_mul-result-2 c =
    let most = cost_most c.args.elasticity c.args.nominal c.args.demand (search rules) (search rules) in search rules
