-- Laws of a table's tasks as the planner sees them. Assumes nothing.
use Prim.Native.Nat.{ℕ, zero, suc, ◌+◌, ◌*◌, ◌≤◌, ◌<◌}
use native.Mathlib.Nat.{zero-add, mul-le-mul}
use native.Mathlib.Omega.{arith}
use native.Mathlib.Decide.{dec_lt}
use mathlib.Core.Path.{◌≡◌, ap, ◌∙◌}
use mathlib.Core.List.{List, []}
use lib.ListN.{length, take, drop, get_or, get_or-eq_default}
use Rattle.model.specs.Turns.{each_from}
use Rattle.model.specs.Limits.{most_tasks, most_cores}
use Rattle.model.specs.Plan.{Task, absent, choice}
use Rattle.model.specs.inner.Costs.{dearest, Limits}
use Rattle.model.specs.Workspace.{cell_count}
use Rattle.model.proofs.Turns.{each_length, each_at}
use Rattle.model.proofs.Bounds.{demand_within, cost_most}
use Rattle.model.proofs.Best.{Priced, few_within}
use Rattle.table.specs.Order.{block_at, task_block}
use Rattle.table.specs.Numbers.{TaskNumbers, task_numbers_in, Numbers, numbers_in}
use Rattle.table.specs.Lawful.{Lawful}
use Rattle.table.specs.inner.Accepted.{LawfulTable, Plannable}
use Rattle.choices.specs.Tasks.{demand_at, cost_at, choice_of, task_of, tasks_of, tasks_of_table, cores_of_table, cells_of_table}
use Rattle.choices.specs.inner.Modes.{InLimits, AllMeet}

-- ---- the tasks of a table, and the modes of a task
pub tasks_length : (t : Numbers) → length (tasks_of t) ≡ t.tasks
unfolding tasks_of
tasks_length t = each_length (λ i. task_of t.common (t.task i)) 0 t.tasks

pub task_at : (t : Numbers) (i : ℕ) → i < t.tasks → get_or (tasks_of t) i [] ≡ task_of t.common (t.task i)
unfolding tasks_of
task_at t i h =
    let f : ℕ → Task = λ k. task_of t.common (t.task k) in
    each_at f [] 0 t.tasks i h ∙ ap f (zero-add i)

pub task_length : (H : ℕ) (t : TaskNumbers) → length (task_of H t) ≡ t.modes
unfolding task_of
task_length H t = each_length (choice_of H t) 0 t.modes

pub choice_at : (H : ℕ) (t : TaskNumbers) (j : ℕ) → j < t.modes → choice (task_of H t) j ≡ choice_of H t j
unfolding task_of
choice_at H t j h = each_at (choice_of H t) absent 0 t.modes j h ∙ ap (choice_of H t) (zero-add j)

-- past the last mode there is none
choice_past : (H : ℕ) (t : TaskNumbers) (j : ℕ) → t.modes ≤ j → choice (task_of H t) j ≡ absent
choice_past H t j h = get_or-eq_default (task_of H t) absent (rw (task_length H t) h)

-- ---- their limits
in_limits : (t : Numbers) (i : ℕ) → Lawful t → i < t.tasks → InLimits t.common (t.task i)
in_limits t i l h =
    record {
      common = l.header.common_high;
      few = (l.task i h).modes_high;
      work = λ j below. (l.mode i j h below).work_high;
    }

-- within them a demand is at most 64 times the largest common period
pub demand_limit : (H : ℕ) (t : TaskNumbers) (j : ℕ) → InLimits H t → j < t.modes → demand_at H t j ≤ 6400000
demand_limit H t j l h = demand_within (t.figures j).work (t.figures j).period H (l.work j h) l.common

-- and a mode costs at most `dearest`
pub cost_limit : (H : ℕ) (t : TaskNumbers) (j : ℕ) → InLimits H t → j < t.modes → cost_at H t j ≤ dearest
cost_limit H t j l h =
    cost_most t.elasticity (demand_at H t 0) (demand_at H t j) (demand_limit H t 0 l (omega arith)) (demand_limit H t j l h)

-- by its choice: nothing past the last mode
choice_limit : (H : ℕ) (t : TaskNumbers) (j : ℕ) → InLimits H t → (choice (task_of H t) j).cost ≤ dearest
choice_limit H t j l = go (dec_lt j t.modes)
  where
    go : Dec (j < t.modes) → (choice (task_of H t) j).cost ≤ dearest
    go (yes h) = rw (choice_at H t j h) (cost_limit H t j l h)
    go (no h) = rw (choice_past H t j (omega arith)) (omega arith)

-- tasks in turn
priced_each : (f : ℕ → Task) (i left : ℕ) → ((k j : ℕ) → i ≤ k → k < i + left → (choice (f k) j).cost ≤ dearest) → Priced (each_from f i left)
unfolding each_from
priced_each f i zero p = tt
priced_each f i (suc left) p =
    ((λ j. p i j (omega arith) (omega arith)), priced_each f (i + 1) left (λ k j low high. p k j (omega arith) (omega arith)))

pub limits : (t : Numbers) → Lawful t → Limits (tasks_of t)
unfolding tasks_of
limits t l =
    few_within (tasks_of t) (rw (tasks_length t) l.header.tasks_high)
    (priced_each (λ i. task_of t.common (t.task i)) 0 t.tasks (λ k j low high. choice_limit t.common (t.task k) j (in_limits t k l (omega arith))))

-- ---- the cells of the largest workspace
abbrev pub most_cells : ℕ
most_cells = (most_tasks + 1) * (most_cores + 1)

-- ---- the cells of its workspace, by the tasks that the planner sees, and by the numbers that its header gave
pub cells_by_tasks : (bytes : List ℕ) → cell_count (length (tasks_of_table bytes)) (cores_of_table bytes) ≡ cells_of_table bytes
cells_by_tasks bytes = ap (λ (k : ℕ). cell_count k (cores_of_table bytes)) (tasks_length (numbers_in bytes))

pub cells_most : (bytes : List ℕ) → LawfulTable bytes → cells_of_table bytes ≤ most_cells
unfolding cell_count
cells_most bytes t =
    let h = t.numbers.header in
    mul-le-mul {n₂ = most_tasks + 1} {m₂ = most_cores + 1} (omega (arith, h.tasks_high)) (omega (arith, h.cores_high))

module _ {bytes : List ℕ} {n m H : ℕ} (w : Plannable bytes n m H) where
  pub count_is : cells_of_table bytes ≡ (n + 1) * (m + 1)
  unfolding cell_count
  count_is = rw (w.tasks, w.cores)

  pub few_tasks : n ≤ most_tasks
  few_tasks = w.header.tasks_high

  pub few_cores : m ≤ most_cores
  few_cores = w.header.cores_high

  pub count_most : (n + 1) * (m + 1) ≤ most_cells
  count_most = mul-le-mul {n₂ = most_tasks + 1} {m₂ = most_cores + 1} (omega (arith, few_tasks)) (omega (arith, few_cores))

  -- and a task's block: its limits, and the task that the planner sees
  module _ (i : ℕ) (less : i < n) (block : List ℕ) (is : block ≡ take 512 (drop (512 * (i + 1)) bytes)) where
    own : block ≡ task_block bytes i
    unfolding block_at
    own = is

    there : i < (numbers_in bytes).tasks
    there = rw w.tasks less

    pub block_limits : InLimits H (task_numbers_in block)
    block_limits =
        rw own (record { common = w.header.common_high; few = w.few i less; work = λ j below. (w.mode i j less below).work_high })

    pub block_meets : AllMeet (task_numbers_in block)
    block_meets = rw own (λ j below. (w.mode i j less below).meeting)

    pub block_task : get_or (tasks_of_table bytes) i [] ≡ task_of H (task_numbers_in block)
    block_task = rw (own, ← w.common) (task_at (numbers_in bytes) i there)
