-- A task's modes as its row is filled by them.
use Rattle.std.specs.Prelude.{ℕ, ◌*◌, ◌≤◌, ◌<◌, ◌≡◌, true, cond, ◌&&◌}
use Rattle.model.specs.declared.Figures.{Figures}
use Rattle.model.specs.Rules.{meets, cores_of}
use Rattle.model.specs.Turns.{each_from}
use Rattle.model.specs.Plan.{Choice, Task}
use Rattle.model.specs.Cells.{mark}
use Rattle.model.specs.inner.Fitting.{least_need}
use Rattle.block.specs.Tests.{allows}
use Rattle.table.specs.Numbers.{TaskNumbers}
use Rattle.choices.specs.Tasks.{cost_at, task_of}

-- the need of mode j with these figures: its cores, and a number above every column where it may not be chosen
abbrev pub need_by : ℕ → ℕ → Figures → ℕ
need_by permitted j f =
    cond (allows permitted j && meets f.work f.span f.period) (cores_of f.work f.span f.period) mark

abbrev pub need_at : TaskNumbers → ℕ → ℕ
need_at t j = need_by t.permitted j (t.figures j)

-- the mode as its task's row is filled by it, and all of them in turn
abbrev pub mode_of : ℕ → TaskNumbers → ℕ → Choice
mode_of H t j = record { permitted = true; need = need_at t j; cost = cost_at H t j }

abbrev pub modes_of : ℕ → TaskNumbers → Task
modes_of H t = each_from (mode_of H t) 0 t.modes

-- the least need of a mode that may be chosen, whatever the common period
abbrev pub NeedsLeast : TaskNumbers → ℕ → Type 0
NeedsLeast t r = (H : ℕ) → r ≡ least_need (task_of H t)

-- the limits under which no cost overflows: H is at most 100,000, there are at most 16 modes, and work is at most 64 periods
pub record InLimits (H : ℕ) (t : TaskNumbers) : Type 0 where
  pub common : H ≤ 100000
  pub few : t.modes ≤ 16
  pub work : (j : ℕ) → j < t.modes → (t.figures j).work ≤ 64 * (t.figures j).period

-- each mode meets its period
abbrev pub AllMeet : TaskNumbers → Type 0
AllMeet t = (j : ℕ) → j < t.modes → meets (t.figures j).work (t.figures j).span (t.figures j).period ≡ true
