-- How dear modes and plans can be.
use Rattle.std.specs.Prelude.{List, [], ◌∷◌, ℕ, ◌+◌, ◌≤◌, max}
use Rattle.model.specs.Plan.{Task}
use Rattle.model.specs.Cells.{ceiling}

-- one mode costs at most this
abbrev pub dearest : ℕ
dearest = 103219200000000000

-- the dearest mode of a task
unfoldable pub dearest_of : Task → ℕ
dearest_of [] = 0
dearest_of (o ∷ os) = max o.cost (dearest_of os)

-- those of all tasks, added up
unfoldable pub dearest_sum : List Task → ℕ
dearest_sum [] = 0
dearest_sum (t ∷ ts) = dearest_of t + dearest_sum ts

-- the limit under which every plan is within the cost ceiling
abbrev pub Limits : List Task → Type 0
Limits ts = dearest_sum ts ≤ ceiling
