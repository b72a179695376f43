-- Demand 3: "From progress 0, with workspace enough, the budget spent in any portions, each going on from the progress the last one
-- gave, and nothing else altering table or workspace meanwhile: once every cell is filled, a plan asked for with the last progress and
-- room to receive it uses only permitted modes and no more cores than there are, and no other such choice costs less. Equal costs are
-- settled by document 01's order. 'No plan fits' is said exactly when no permitted choice fits."
use Rattle.std.specs.Prelude.{ℕ, ◌≤◌, ◌≡◌, ◌⊎◌, ◌↔◌, List, length}
use Rattle.answer.specs.Said.{refused, filled}
use Rattle.model.specs.Plan.{NothingFits}
use Rattle.block.specs.Bytes.{Bytes}
use Rattle.table.specs.Numbers.{numbers_in}
use Rattle.choices.specs.Tasks.{tasks_of_table, cores_of_table, cells_of_table}
use Rattle.portions.specs.Said.{Filling}
use Rattle.portions.specs.Said as portions
use Rattle.portions.specs.Portion.{Portioned}
use Rattle.portions.specs.Runs.{Run, RunTo, spent}
use Rattle.taking.specs.Said.{Taken}
use Rattle.taking.specs.Said as taking
use Rattle.taking.specs.Take.{TookPlan}
use Rattle.table.specs.Order.{Accepted}
use Rattle.whole.specs.Whole.{PlanGiven, NoPlanFits}

-- what is answered is the plan with its cores and its cost, or 14; and 14 exactly when no permitted choice fits
pub record RightAnswer (bytes out : List ℕ) (r : Taken) (out' : List ℕ) : Type 0 where
  pub right : ((s : List ℕ) × PlanGiven bytes s out r out') ⊎ NoPlanFits bytes out r out'
  pub exactly : (taking.said r ≡ refused 14 0) ↔ NothingFits (tasks_of_table bytes) (cores_of_table bytes)

-- no portion of the budget is refused on the way
abbrev pub NoPortionIsRefused : Type 0
NoPortionIsRefused =
    (bytes cells : List ℕ) → Accepted bytes → cells_of_table bytes ≤ length cells
    → (budgets filling : List ℕ) (p : ℕ) → Run bytes budgets cells 0 filling p
    → (b : ℕ) (r : Filling) (after : List ℕ) → Portioned bytes filling p b r after → (q : ℕ) × (portions.said r ≡ filled q)

-- from progress 0, with workspace enough, the budget spent in any portions: once every cell is filled, a plan is asked for with the last
-- progress and room to receive it, and r and out' are what the promise of taking allows
pub record Asked (bytes out : List ℕ) (r : Taken) (out' : List ℕ) : Type 0 where
  pub table : Bytes bytes
  pub cells : List ℕ
  pub workspace : cells_of_table bytes ≤ length cells
  pub budgets : List ℕ
  pub filling : List ℕ
  pub portions : Run bytes budgets cells 0 filling (cells_of_table bytes)
  pub room : (numbers_in bytes).tasks ≤ length out
  pub took : TookPlan bytes filling (cells_of_table bytes) out r out'

abbrev pub ThePlanIsRight : Type 0
ThePlanIsRight = (bytes out : List ℕ) (r : Taken) (out' : List ℕ) → Asked bytes out r out' → RightAnswer bytes out r out'

-- nothing of this is empty: lent an accepted table, a workspace with room, any budgets that add up to at least W and an output with room,
-- there is a run with these budgets to W, and an outcome of taking the plan from what it filled; each answer is one that the code's type
-- can hold
pub record Outcomes (bytes cells budgets out : List ℕ) : Type 0 where
  pub portions : RunTo bytes budgets cells (cells_of_table bytes)
  pub answer : Taken
  pub in_type : taking.InType answer
  pub left : List ℕ
  pub took : TookPlan bytes (portions).filling (cells_of_table bytes) out answer left

abbrev pub ThereIsAnOutcome : Type 0
ThereIsAnOutcome =
    (bytes cells budgets out : List ℕ) → Bytes bytes → Accepted bytes → cells_of_table bytes ≤ length cells → cells_of_table bytes ≤ spent budgets
    → (numbers_in bytes).tasks ≤ length out → Outcomes bytes cells budgets out

pub record Demand3 : Type 0 where
  pub plan : ThePlanIsRight
  pub portions : NoPortionIsRefused
  pub not_empty : ThereIsAnOutcome
