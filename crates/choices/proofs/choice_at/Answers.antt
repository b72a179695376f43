use native.Mathlib.Omega.{arith}
use mathlib.Core.Path.{ap}
use Rattle.block.specs.declared.Task.{Task}
use Rattle.table.specs.Numbers.{task_numbers_in}
use Rattle.choices.proofs.Prices.{demand_is, priced}
use Rattle.choices.proofs.Tables.{demand_limit}
use Rattle.choices.proofs.choice_at.Goals as goal

pub cost-requires : goal.cost-requires
cost-requires c =
    let a = c.args in
    let t = task_numbers_in a.block.now in (
      rw (demand_is a.common a.block.now 0 _ _ c.demand.ensures c.figures_at-2.ensures) (demand_limit a.common t 0 c.requires.0 (omega (arith, c.requires.1))),
      rw (demand_is a.common a.block.now a.j _ _ c.demand-demand.ensures c.figures_at.ensures) (demand_limit a.common t a.j c.requires.0 c.requires.1),
    )

pub returns : goal.returns
returns c =
    let a = c.args in
    let price =
    priced a.common (task_numbers_in a.block.now) a.j c.cost.ensures (ap (λ (x : Task). x.elasticity) c.read-task.ensures)
    (demand_is a.common a.block.now 0 _ _ c.demand.ensures c.figures_at-2.ensures)
    (demand_is a.common a.block.now a.j _ _ c.demand-demand.ensures c.figures_at.ensures) in
    rw (c.permits.ensures, c.read-task.ensures, price)
