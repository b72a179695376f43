-- The workspace: a run of numbers, which cell is which, the rule by which a cell is filled, and a portion.
use Rattle.std.specs.Prelude.{◌≡◌, cond, List, [], ℕ, zero, suc, ◌+◌, ◌-◌, ◌*◌, ◌/◌, ◌%◌, ◌<◌, min, eqb, length, get_or, set, drop}
use Rattle.model.specs.Plan.{Task}
use Rattle.model.specs.Cells.{reads, least, best}

-- W, of n tasks and m cores
unfoldable pub cell_count : ℕ → ℕ → ℕ
cell_count n m = (n + 1) * (m + 1)

-- cell number p belongs to row n - p / (m + 1), whole part, and column p % (m + 1)
abbrev pub row_of : ℕ → ℕ → ℕ → ℕ
row_of n m p = n - p / (m + 1)

abbrev pub column_of : ℕ → ℕ → ℕ
column_of m p = p % (m + 1)

-- the number of the cell in row i at column c
abbrev pub number_of : ℕ → ℕ → ℕ → ℕ → ℕ
number_of n m i c = (n - i) * (m + 1) + c

-- the cell in row i at column c, as it reads
unfoldable pub cell_in : ℕ → ℕ → List ℕ → ℕ → ℕ → ℕ
cell_in n m ws i c = reads (get_or ws (number_of n m i c) 0)

-- what belongs into a cell of a workspace, by the cells as they are
abbrev pub Rule : Type 0
Rule = List ℕ → ℕ → ℕ

-- row n is all 0; in row i below n the least over the modes of task i, over row i + 1
unfoldable pub cell_rule : List Task → ℕ → Rule
cell_rule ts m ws p =
    cond (eqb (row_of (length ts) m p) (length ts))
    0
    (least (get_or ts (row_of (length ts) m p) []) (cell_in (length ts) m ws (row_of (length ts) m p + 1)) (column_of m p))

-- k cells from p on, each filled by the rule in turn
unfoldable pub fill : Rule → List ℕ → ℕ → ℕ → List ℕ
fill rule ws p zero = ws
fill rule ws p (suc k) = fill rule (set ws p (rule ws p)) (suc p) k

-- the defined value of cell p
unfoldable pub value_of : List Task → ℕ → ℕ → ℕ
value_of ts m p = best (drop (row_of (length ts) m p) ts) (column_of m p)

-- what progress p means: the cells below p hold their defined values
abbrev pub Filled : List Task → ℕ → List ℕ → ℕ → Type 0
Filled ts m ws p = (q : ℕ) → q < p → get_or ws q 0 ≡ value_of ts m q

-- a portion from progress p with budget b: the new progress, and the workspace
abbrev pub advance : ℕ → ℕ → ℕ → ℕ
advance W p b = min (p + b) W

abbrev pub portion : Rule → ℕ → List ℕ → ℕ → ℕ → List ℕ
portion rule W ws p b = fill rule ws p (advance W p b - p)
