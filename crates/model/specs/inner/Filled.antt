-- Rows that hold their defined values; and what is said of any rows.
use Rattle.std.specs.Prelude.{◌≡◌, List, ℕ, ◌≤◌, length, drop}
use Rattle.answer.specs.Said.{Said, plan}
use Rattle.answer.specs.Order.{first}
use Rattle.model.specs.Plan.{Task}
use Rattle.model.specs.Cells.{best}
use Rattle.model.specs.Taking.{used, take_rows}

-- up to column m
abbrev pub RowsHold : (ℕ → ℕ → ℕ) → List Task → ℕ → Type 0
RowsHold rows ts m = (i c : ℕ) → i ≤ length ts → c ≤ m → rows i c ≡ best (drop i ts) c

-- cores used and cost, or the refusal
abbrev pub take_said : (ℕ → ℕ → ℕ) → List Task → ℕ → Said
take_said rows ts m = first (take_rows rows ts m) (plan (used (rows 0) m) (rows 0 m))
