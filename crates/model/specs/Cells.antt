-- What a cell of the workspace is defined to hold.
use Rattle.std.specs.Prelude.{Bool, cond, ◌&&◌, List, [], ◌∷◌, ℕ, ◌+◌, ◌-◌, min, leb}
use Rattle.model.specs.Plan.{Choice, Task}

-- 2^64 - 1
abbrev pub mark : ℕ
mark = 18446744073709551615

-- the cost ceiling: a plan costs at most this
abbrev pub ceiling : ℕ
ceiling = 3303014400000000000

-- a number above the cost ceiling reads as the mark
unfoldable pub reads : ℕ → ℕ
reads x = cond (leb x ceiling) x mark

-- a sum above it is written as the mark
unfoldable pub plus : ℕ → ℕ → ℕ
plus a b = cond (leb (a + b) ceiling) (a + b) mark

-- a permitted mode needing at most c cores
unfoldable pub may : Choice → ℕ → Bool
may o c = o.permitted && leb o.need c

-- that mode's cost plus the next row at column c less those cores
unfoldable pub onward : Choice → (ℕ → ℕ) → ℕ → ℕ
onward o next c = plus o.cost (next (c - o.need))

-- what a mode offers there: the mark if it is none of those
abbrev pub offered : Choice → (ℕ → ℕ) → ℕ → ℕ
offered o next c = cond (may o c) (onward o next c) mark

-- the least over the modes; the mark if none may be chosen
unfoldable pub least : Task → (ℕ → ℕ) → ℕ → ℕ
least [] next c = mark
least (o ∷ os) next c = min (offered o next c) (least os next c)

-- the cell at column c of the row that begins the tasks ts: row n is all 0
unfoldable pub best : List Task → ℕ → ℕ
best [] c = 0
best (t ∷ ts) c = least t (best ts) c
