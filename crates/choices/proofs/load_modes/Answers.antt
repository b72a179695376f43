use Prim.Native.Nat.{ℕ, ◌≤◌, ◌<◌}
use native.Mathlib.Nat.{zero-add}
use native.Mathlib.Numerals.{add-one}
use native.Mathlib.Omega.{arith}
use mathlib.Core.Path.{ap, ap₂, ◌∙◌}
use mathlib.Core.Bool.{true}
use mathlib.Core.List.{List, [], ◌∷◌, ◌++◌, map}
use Rattle.std.proofs.lemmas.List.{length-map, map-append}
use lib.ListN.{length}
use Rattle.model.specs.declared.Figures.{Figures}
use Rattle.block.specs.declared.Task.{Task}
use Rattle.model.specs.Plan.{Choice}
use Rattle.model.specs.Turns.{each_from}
use Rattle.model.proofs.Turns.{each_length, each_more}
use Rattle.model.proofs.Bounds.{cost_most}
use Rattle.cells.specs.inner.Rows.{held}
use Rattle.table.specs.Numbers.{task_numbers_in}
use Rattle.choices.specs.inner.Modes.{need_by, mode_of}
use Rattle.choices.proofs.Prices.{demand_is, priced}
use Rattle.choices.proofs.Tables.{demand_limit}
use Rattle.choices.proofs.load_modes.Goals as goal

pub loop-j-init : goal.loop-j-init
unfolding each_from
loop-j-init c = ap (map held) c.clear.ensures

pub cost-requires : goal.cost-requires
cost-requires c =
    let a = c.args in
    let t = task_numbers_in a.block.now in
    let j = c.loop-j.j in
    let h : j < t.modes = rw (← ap (λ (x : Task). x.modes) c.read-task.ensures) c.loop-j-test.true in (
      rw (demand_is a.common a.block.now 0 _ _ c.demand-nominal.ensures c.figures_at.ensures) (demand_limit a.common t 0 c.requires (omega arith)),
      rw (demand_is a.common a.block.now j _ _ c.demand.ensures c.figures_at-figures.ensures) (demand_limit a.common t j c.requires h),
    )

pub invariant_of-push : goal.invariant_of-push
invariant_of-push c =
    let a = c.args in
    let t = task_numbers_in a.block.now in
    let j = c.loop-j.j in
    let h : j < t.modes = rw (← ap (λ (x : Task). x.modes) c.read-task.ensures) c.loop-j-test.true in
    let nominal : c.demand-nominal.result ≤ 6400000 = rw (demand_is a.common a.block.now 0 _ _ c.demand-nominal.ensures c.figures_at.ensures) (demand_limit a.common t 0 c.requires (omega arith)) in
    let demand : c.demand.result ≤ 6400000 = rw (demand_is a.common a.block.now j _ _ c.demand.ensures c.figures_at-figures.ensures) (demand_limit a.common t j c.requires h) in
    record { bounded = rw c.cost.ensures (cost_most _ _ _ nominal demand) }

pub push-requires : goal.push-requires
push-requires c =
    let l = c.loop-j in
    let f = mode_of c.args.common (task_numbers_in c.args.block.now) in (
      omega arith,
      omega (arith, length-map l.modes.items held, ap length l.invariant, each_length f 0 l.j, c.requires.few, ap (λ (x : Task). x.modes) c.read-task.ensures),
    )

pub loop-j-preserved : goal.loop-j-preserved
loop-j-preserved c =
    let a = c.args in
    let l = c.loop-j in
    let t = task_numbers_in a.block.now in
    let price =
    priced a.common t l.j c.cost.ensures (ap (λ (x : Task). x.elasticity) c.read-task.ensures)
    (demand_is a.common a.block.now 0 _ _ c.demand-nominal.ensures c.figures_at.ensures)
    (demand_is a.common a.block.now l.j _ _ c.demand.ensures c.figures_at-figures.ensures) in
    let need =
    c.need_of.ensures
    ∙ ap₂ (λ (p : ℕ) (g : Figures). need_by p l.j g) (ap (λ (x : Task). x.permitted) c.read-task.ensures) c.figures_at-figures.ensures in
    let mode = ap₂ (λ (n v : ℕ). let o : Choice = record { permitted = true; need = n; cost = v } in o) need price in
    ap (map held) c.push.ensures.items
    ∙ map-append held l.modes.items (_ ∷ [])
    ∙ ap₂ (λ (xs : List Choice) (x : Choice). xs ++ (x ∷ [])) l.invariant mode
    ∙ rw (add-one l.j, each_more (mode_of a.common t) 0 l.j, zero-add l.j)
