-- What `plan_whole` promises: demand 3 in terms of the plan, after the refusals of the table and of what is lent.
use Rattle.std.specs.Prelude.{ℕ, ◌≡◌, ◌⊎◌, List, length}
use Rattle.answer.specs.Said.{Said, refused, plan}
use Rattle.answer.specs.Order.{first, NoneGiven}
use Rattle.model.specs.Plan.{IsPlan, NothingFits, total_cores, total_cost}
use Rattle.model.specs.Workspace.{fill}
use Rattle.choices.specs.Tasks.{tasks_of_table, cores_of_table, cells_of_table}
use Rattle.portions.specs.Portion.{rule_of}
use Rattle.taking.specs.Said.{Taken, said}
use Rattle.taking.specs.Take.{lent_rows, with_modes}

-- the plan s of the table: it is answered with its cores and its cost, and its modes are written, one byte per task
pub record PlanGiven (bytes : List ℕ) (s : List ℕ) (out : List ℕ) (r : Taken) (out' : List ℕ) : Type 0 where
  pub plan_is : IsPlan (tasks_of_table bytes) (cores_of_table bytes) s
  pub answer : said r ≡ plan (total_cores (tasks_of_table bytes) s) (total_cost (tasks_of_table bytes) s)
  pub modes : out' ≡ with_modes s out

-- no permitted choice fits: 14
pub record NoPlanFits (bytes : List ℕ) (out : List ℕ) (r : Taken) (out' : List ℕ) : Type 0 where
  pub nothing : NothingFits (tasks_of_table bytes) (cores_of_table bytes)
  pub answer : said r ≡ refused 14 0
  pub kept : out' ≡ out

-- the table or what is lent is refused, and nothing changes
pub record RefusedFirst (bytes cells out : List ℕ) (r : Taken) (cells' out' : List ℕ) : Type 0 where
  pub answer : (rest : Said) → said r ≡ first (lent_rows bytes (length cells) (length out)) rest
  pub cells_kept : cells' ≡ cells
  pub out_kept : out' ≡ out

-- neither is: every cell is filled and the plan given, or nothing fits and the workspace is as it was
abbrev pub Ends : List ℕ → List ℕ → List ℕ → Taken → List ℕ → List ℕ → Type 0
Ends bytes cells out r cells' out' =
    ((s : List ℕ) × PlanGiven bytes s out r out' × (cells' ≡ fill (rule_of bytes) cells 0 (cells_of_table bytes)))
    ⊎ (NoPlanFits bytes out r out' × (cells' ≡ cells))

pub record Planned (bytes cells out : List ℕ) (r : Taken) (cells' out' : List ℕ) : Type 0 where
  pub none : NoneGiven (lent_rows bytes (length cells) (length out))
  pub ends : Ends bytes cells out r cells' out'

abbrev pub PlannedWhole : List ℕ → List ℕ → List ℕ → Taken → List ℕ → List ℕ → Type 0
PlannedWhole bytes cells out r cells' out' = RefusedFirst bytes cells out r cells' out' ⊎ Planned bytes cells out r cells' out'
