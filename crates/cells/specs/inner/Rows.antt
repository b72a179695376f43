-- A mode as it is held, and a row of cells, as the rule takes them.
use Rattle.std.specs.Prelude.{ℕ, ◌+◌, true, List, get_or}
use Rattle.model.specs.Limits.{most_cores}
use Rattle.model.specs.Plan.{Choice}
use Rattle.model.specs.Cells.{reads}
use Rattle.cells.specs.declared.mode.Mode.{Mode}

-- the cells of the widest row: columns 0 up to the cores
abbrev pub widest : ℕ
widest = most_cores + 1

-- a mode that may be chosen wherever its cores allow it
abbrev pub held : Mode → Choice
held o = record { permitted = true; need = o.need; cost = o.cost }

-- the row of these cells, as they read
abbrev pub row_reads : List ℕ → ℕ → ℕ
row_reads row c = reads (get_or row c 0)
