-- What holds of the bytes of an accepted table.
use Rattle.std.specs.Prelude.{ℕ, ◌+◌, ◌*◌, ◌≤◌, ◌<◌, List, ◌≡◌, length}
use Rattle.block.specs.Layout.{task_number_in}
use Rattle.table.specs.Order.{task_block}
use Rattle.table.specs.Numbers.{numbers_in}
use Rattle.table.specs.Lawful.{LawfulHeader, LawfulFigures, Lawful}

-- n + 1 blocks, each task's number its position, and lawful numbers
pub record LawfulTable (bytes : List ℕ) : Type 0 where
  pub long : length bytes ≡ 512 * ((numbers_in bytes).tasks + 1)
  pub number : (i : ℕ) → i < (numbers_in bytes).tasks → task_number_in (task_block bytes i) ≡ i
  pub numbers : Lawful (numbers_in bytes)

-- with so many tasks and cores, and this common period
pub record LawfulWith (bytes : List ℕ) (n m H : ℕ) : Type 0 where
  pub table : LawfulTable bytes
  pub tasks : (numbers_in bytes).tasks ≡ n
  pub cores : (numbers_in bytes).cores ≡ m
  pub common : (numbers_in bytes).common ≡ H

-- what planning over it takes for granted: these are its tasks, cores and common period, within their limits, and each mode is within its
-- own
pub record Plannable (bytes : List ℕ) (n m H : ℕ) : Type 0 where
  pub tasks : (numbers_in bytes).tasks ≡ n
  pub cores : (numbers_in bytes).cores ≡ m
  pub common : (numbers_in bytes).common ≡ H
  pub header : LawfulHeader n m H
  pub few : (i : ℕ) → i < n → ((numbers_in bytes).task i).modes ≤ 16
  pub mode : (i j : ℕ) → i < n → j < ((numbers_in bytes).task i).modes → LawfulFigures H (((numbers_in bytes).task i).figures j)
