-- What the search for the modes finds.
use Rattle.std.specs.Prelude.{ℕ, true, false, ◌≡◌, List, Option, None, Some}
use Rattle.arrayvec.specs.ArrayVec.{ArrayVec}
use Rattle.model.specs.Taking.{trace, all_keep}
use Rattle.choices.specs.Tasks.{tasks_of_table}
use Rattle.taking.specs.Take.{cell_of}

-- from column c of row 0: the modes, one per task, where each task has a mode that keeps its cell's cost, and none where one has none
abbrev pub TracedFrom : List ℕ → List ℕ → ℕ → Option (ArrayVec ℕ) → Type 0
TracedFrom bytes cells c None = all_keep (cell_of bytes cells) 0 (tasks_of_table bytes) c ≡ false
TracedFrom bytes cells c (Some modes) =
    (all_keep (cell_of bytes cells) 0 (tasks_of_table bytes) c ≡ true) × (modes.items ≡ trace (cell_of bytes cells) 0 (tasks_of_table bytes) c)
