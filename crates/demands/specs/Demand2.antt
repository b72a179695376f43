-- Demand 2, after its first sentence, which is the rules for one mode (`model/specs/Rules.antt`): "Every lawful table is accepted.
-- Written and read back it gives the same numbers; read and rewritten, the same bytes. A portion fills just the cells it pays for."
use Rattle.std.specs.Prelude.{ℕ, ◌+◌, ◌*◌, ◌≤◌, ◌<◌, ◌≡◌, ◌⊎◌, Ok, List, ◌++◌, length, drop, get_or}
use Rattle.answer.specs.Said.{header, task, figures}
use Rattle.model.specs.Workspace.{advance}
use Rattle.block.specs.Bytes.{Bytes}
use Rattle.table.specs.Order.{header_block, task_block, table_said, Accepted, ask_task_said, ask_mode_said}
use Rattle.table.specs.Numbers.{TaskNumbers, figures_of, Numbers}
use Rattle.table.specs.Lawful.{Lawful}
use Rattle.choices.specs.Tasks.{cells_of_table}
use Rattle.writer.specs.Order.{WroteHeader, WroteTask}
use Rattle.portions.specs.Portion.{rule_of}
use Rattle.portions.specs.Runs.{Step}

-- ---- reading: what `check`, `ask_task` and `ask_mode` answer of these bytes are these numbers
pub record ReadsAs (bytes : List ℕ) (t : Numbers) : Type 0 where
  pub front : table_said bytes ≡ header t.tasks t.cores t.common
  pub each_task : (i : ℕ) → i < t.tasks → ask_task_said bytes i ≡ task (t.task i).elasticity (t.task i).modes (t.task i).permitted
  pub each_mode : (i j : ℕ) → i < t.tasks → j < (t.task i).modes
      → ask_mode_said bytes i j ≡ figures ((t.task i).figures j).work ((t.task i).figures j).span ((t.task i).figures j).period

-- ---- writing: lent any buffer with room, `write_header` answers Ok, leaves this block in its first 512 bytes and the rest as it was;
-- `write_task` likewise
abbrev pub HeaderWrites : ℕ → ℕ → ℕ → List ℕ → Type 0
HeaderWrites n m H block = (buffer : List ℕ) → 512 ≤ length buffer → WroteHeader n m H buffer (Ok tt) (block ++ drop 512 buffer)

abbrev pub TaskWrites : ℕ → ℕ → TaskNumbers → List ℕ → Type 0
TaskWrites H i t block =
    (buffer : List ℕ) → 512 ≤ length buffer
    → WroteTask H i t.elasticity t.modes t.permitted (figures_of t) buffer (Ok tt) (block ++ drop 512 buffer)

-- these bytes are the blocks that the writers write of these numbers, one after another
pub record WrittenAs (t : Numbers) (bytes : List ℕ) : Type 0 where
  pub long : length bytes ≡ 512 * (t.tasks + 1)
  pub front : HeaderWrites t.tasks t.cores t.common (header_block bytes)
  pub each_task : (i : ℕ) → i < t.tasks → TaskWrites t.common i (t.task i) (task_block bytes i)

-- ---- the demand
-- every lawful table is accepted: the writers refuse none of its numbers, and `check` accepts the blocks that they write
abbrev pub EveryLawfulTableIsAccepted : Type 0
EveryLawfulTableIsAccepted =
    (t : Numbers) → Lawful t
    → (bytes : List ℕ) × Bytes bytes × WrittenAs t bytes × (table_said bytes ≡ header t.tasks t.cores t.common)

-- written and read back it gives the same numbers
abbrev pub WrittenAndReadBack : Type 0
WrittenAndReadBack = (t : Numbers) (bytes : List ℕ) → Lawful t → WrittenAs t bytes → ReadsAs bytes t

-- read and rewritten, the same bytes: an accepted table can be asked for all its numbers; of these the writers write each of its blocks
-- again and refuse none, and no other bytes
abbrev pub ReadAndRewritten : Type 0
ReadAndRewritten =
    (bytes : List ℕ) → Bytes bytes → Accepted bytes
    → ((t : Numbers) × ReadsAs bytes t)
    × ((t : Numbers) → ReadsAs bytes t → WrittenAs t bytes × ((other : List ℕ) → WrittenAs t other → other ≡ bytes))

-- a portion fills just the cells it pays for: from progress p at most b of them, each as the rule has it, and every other cell keeps its
-- value
pub record FillsJust (bytes before : List ℕ) (p b : ℕ) (after : List ℕ) (q : ℕ) : Type 0 where
  pub progress : q ≡ advance (cells_of_table bytes) p b
  pub paid : q ≤ p + b
  pub as_many : length after ≡ length before
  pub filled_by_rule : (c : ℕ) → p ≤ c → c < q → get_or after c 0 ≡ rule_of bytes after c
  pub others : (c : ℕ) → (c < p) ⊎ (q ≤ c) → get_or after c 0 ≡ get_or before c 0

abbrev pub APortionFillsJustTheCellsItPaysFor : Type 0
APortionFillsJustTheCellsItPaysFor =
    (bytes before : List ℕ) (p b : ℕ) (after : List ℕ) (q : ℕ) → Step bytes before p b after q → FillsJust bytes before p b after q

pub record Demand2 : Type 0 where
  pub accepted : EveryLawfulTableIsAccepted
  pub read_back : WrittenAndReadBack
  pub rewritten : ReadAndRewritten
  pub portion : APortionFillsJustTheCellsItPaysFor
