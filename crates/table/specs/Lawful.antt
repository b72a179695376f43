-- Which numbers a table may have: those of "Numbers and limits", with the rule of the permitted modes and that each mode can meet its
-- period.
use Rattle.std.specs.Prelude.{ℕ, ◌*◌, ◌%◌, ◌^◌, ◌≤◌, ◌<◌, true, false, ◌≡◌}
use Rattle.model.specs.Limits.{most_tasks, most_cores}
use Rattle.model.specs.Rules.{meets}
use Rattle.model.specs.declared.Figures.{Figures}
use Rattle.block.specs.Tests.{allows}
use Rattle.table.specs.Numbers.{TaskNumbers, Numbers}

-- a table has 1 to 32 tasks, 1 to 64 cores and a common period H of 1 to 100,000 ticks
pub record LawfulHeader (n m H : ℕ) : Type 0 where
  pub tasks_low : 1 ≤ n
  pub tasks_high : n ≤ most_tasks
  pub cores_low : 1 ≤ m
  pub cores_high : m ≤ most_cores
  pub common_low : 1 ≤ H
  pub common_high : H ≤ 100000

-- a task has 1 to 16 modes and an elasticity E of 1 to 10; of its permitted modes, 16 bits, at least one bit is set, and none at or
-- beyond the mode count
pub record LawfulTask (t : TaskNumbers) : Type 0 where
  pub modes_low : 1 ≤ t.modes
  pub modes_high : t.modes ≤ 16
  pub elasticity_low : 1 ≤ t.elasticity
  pub elasticity_high : t.elasticity ≤ 10
  pub bits : t.permitted < 2 ^ 16
  pub some : (j : ℕ) × (j < t.modes) × (allows t.permitted j ≡ true)
  pub none_beyond : (j : ℕ) → t.modes ≤ j → allows t.permitted j ≡ false

-- every period divides H; work and span are at least 1, span is at most work, and work is at most 64 periods; the mode meets its period
pub record LawfulFigures (H : ℕ) (f : Figures) : Type 0 where
  pub period_low : 1 ≤ f.period
  pub divides : H % f.period ≡ 0
  pub work_low : 1 ≤ f.work
  pub span_low : 1 ≤ f.span
  pub span_high : f.span ≤ f.work
  pub work_high : f.work ≤ 64 * f.period
  pub meeting : meets f.work f.span f.period ≡ true

pub record Lawful (t : Numbers) : Type 0 where
  pub header : LawfulHeader t.tasks t.cores t.common
  pub task : (i : ℕ) → i < t.tasks → LawfulTask (t.task i)
  pub mode : (i j : ℕ) → i < t.tasks → j < (t.task i).modes → LawfulFigures t.common ((t.task i).figures j)
