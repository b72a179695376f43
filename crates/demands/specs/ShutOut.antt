-- The programs that have to be shut out. Each definition says that what the promises allow is never what such a program does.
use Rattle.std.specs.Prelude.{ℕ, ◌≤◌, ◌≡◌, ◌≢◌, List, get_or, take}
use Rattle.answer.specs.Said.{refused, plan}
use Rattle.model.specs.Plan as plans
use Rattle.model.specs.Workspace.{advance, value_of}
use Rattle.block.specs.Bytes.{Bytes}
use Rattle.table.specs.Numbers.{numbers_in}
use Rattle.choices.specs.Tasks.{tasks_of_table, cores_of_table, cells_of_table}
use Rattle.portions.specs.Portion.{FilledTo}
use Rattle.portions.specs.Runs.{Step}
use Rattle.taking.specs.Said.{Taken, said}
use Rattle.demands.specs.Demand2.{EveryLawfulTableIsAccepted}
use Rattle.table.specs.Order.{Accepted}
use Rattle.demands.specs.Demand3.{NoPortionIsRefused, Asked}

-- one that refuses everything: every lawful table is written and accepted, no portion of it is refused, and where a permitted choice
-- fits, no plan is
abbrev pub NoneRefusesEverything : Type 0
NoneRefusesEverything =
    EveryLawfulTableIsAccepted × NoPortionIsRefused
    × ((bytes out : List ℕ) (r : Taken) (out' : List ℕ) → Asked bytes out r out'
    → (s : List ℕ) → plans.IsSelection (tasks_of_table bytes) s → plans.Fits (tasks_of_table bytes) (cores_of_table bytes) s → (k at : ℕ) → said r ≢ refused k at)

-- one with a constant plan: there are two accepted tables, of as many tasks, for which the modes written differ
abbrev pub NoneHasAConstantPlan : Type 0
NoneHasAConstantPlan =
    (a : List ℕ) × (b : List ℕ) × Bytes a × Bytes b × Accepted a × Accepted b × ((numbers_in a).tasks ≡ (numbers_in b).tasks)
    × ((out out₂ : List ℕ) (r r₂ : Taken) (out' out₂' : List ℕ) → Asked a out r out' → Asked b out₂ r₂ out₂'
    → take (numbers_in a).tasks out' ≢ take (numbers_in b).tasks out₂')

-- one that writes nothing: where a plan is answered, an output that begins with 255 has changed
abbrev pub NoneWritesNothing : Type 0
NoneWritesNothing =
    (bytes out : List ℕ) (r : Taken) (out' : List ℕ) (u v : ℕ) → Asked bytes out r out' → said r ≡ plan u v → get_or out 0 0 ≡ 255 → out' ≢ out

-- one that fills all cells in the first portion and only pretends later: a cell past the new progress that did not hold its defined
-- value still does not
abbrev pub NoneFillsAllAtOnce : Type 0
NoneFillsAllAtOnce =
    (bytes before : List ℕ) (p b : ℕ) (after : List ℕ) (q : ℕ) → Step bytes before p b after q
    → (c : ℕ) → q ≤ c → get_or before c 0 ≢ value_of (tasks_of_table bytes) (cores_of_table bytes) c
    → get_or after c 0 ≢ value_of (tasks_of_table bytes) (cores_of_table bytes) c

-- one that invents progress: it is the smaller of p + b and W, and counts cells that hold their defined values where the progress given
-- did
abbrev pub NoneInventsProgress : Type 0
NoneInventsProgress =
    (bytes before : List ℕ) (p b : ℕ) (after : List ℕ) (q : ℕ) → Step bytes before p b after q
    → (q ≡ advance (cells_of_table bytes) p b) × (FilledTo bytes before p → FilledTo bytes after q)

-- one that invents cores or cost: they are those of the modes written
abbrev pub NoneInventsCoresOrCost : Type 0
NoneInventsCoresOrCost =
    (bytes out : List ℕ) (r : Taken) (out' : List ℕ) (u v : ℕ) → Asked bytes out r out' → said r ≡ plan u v
    → let s = take (numbers_in bytes).tasks out' in
    (u ≡ plans.total_cores (tasks_of_table bytes) s) × (v ≡ plans.total_cost (tasks_of_table bytes) s)

pub record ShutOut : Type 0 where
  pub none_refuses_everything : NoneRefusesEverything
  pub none_has_a_constant_plan : NoneHasAConstantPlan
  pub none_writes_nothing : NoneWritesNothing
  pub none_fills_all_at_once : NoneFillsAllAtOnce
  pub none_invents_progress : NoneInventsProgress
  pub none_invents_cores_or_cost : NoneInventsCoresOrCost
