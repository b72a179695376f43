-- Whether a selection fits, by needs alone.
use Rattle.std.specs.Prelude.{cond, List, [], ◌∷◌, ℕ, ◌+◌, min}
use Rattle.model.specs.Plan.{Task}
use Rattle.model.specs.Cells.{mark}

-- the least need of a permitted mode; the mark if none is permitted
unfoldable pub least_need : Task → ℕ
least_need [] = mark
least_need (o ∷ os) = min (cond o.permitted o.need mark) (least_need os)

-- those of all tasks, added up
unfoldable pub least_cores : List Task → ℕ
least_cores [] = 0
least_cores (t ∷ ts) = least_need t + least_cores ts
