-- The next row, as it is held while a row is filled: its numbers as they count in sums.
use Rattle.std.specs.Prelude.{ℕ, ◌+◌, ◌-◌, cond, List, leb, ltb, get_or, Option, None, Some}
use Rattle.model.specs.Cells.{ceiling}
use Rattle.cells.specs.declared.mode.Mode.{Mode}

-- a number above the cost ceiling counts as the ceiling + 1, so that a cost and a cell are added with no test, and their sum is above the
-- ceiling where the cell is
unfoldable pub counts : ℕ → ℕ
counts x = cond (leb x ceiling) x (ceiling + 1)

-- what a mode offers over such numbers
unfoldable pub offer_of : List ℕ → ℕ → Mode → Option ℕ
offer_of row c o = cond (ltb c o.need) None (Some (o.cost + get_or row (c - o.need) 0))
