-- Demand and cost by the numbers that were read. Assumes nothing.
use Prim.Native.Nat.{ℕ}
use mathlib.Core.Path.{◌≡◌, ap, ◌∙◌}
use mathlib.Core.List.{List}
use Rattle.model.specs.declared.Figures.{Figures}
use Rattle.model.specs.Rules.{demand_of, cost_of}
use Rattle.block.specs.Layout.{figures_in}
use Rattle.table.specs.Numbers.{TaskNumbers, task_numbers_in}
use Rattle.choices.specs.Tasks.{demand_at, cost_at}

-- a demand by the figures that were read
pub demand_is : (H : ℕ) (block : List ℕ) (j d : ℕ) (f : Figures) → d ≡ demand_of f.work f.period H → f ≡ figures_in block j
    → d ≡ demand_at H (task_numbers_in block) j
demand_is H block j d f p q = p ∙ ap (λ (g : Figures). demand_of g.work g.period H) q

-- the cost by its parts
pub priced : (H : ℕ) (t : TaskNumbers) (j : ℕ) {r e n d : ℕ} → r ≡ cost_of e n d → e ≡ t.elasticity → n ≡ demand_at H t 0 → d ≡ demand_at H t j
    → r ≡ cost_at H t j
priced H t j c p q r = c ∙ rw (p, q, r)
