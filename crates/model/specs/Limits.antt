-- "Numbers and limits", as far as sizes follow from them.
use Rattle.std.specs.Prelude.{ℕ}

-- a table has 1 to 32 tasks
abbrev pub most_tasks : ℕ
most_tasks = 32

-- and 1 to 64 cores
abbrev pub most_cores : ℕ
most_cores = 64
