-- Taking the plan, for any contents of the workspace: rows i c is the cell in row i at column c, as it reads.
use Rattle.std.specs.Prelude.{◌≡◌, ◌⊎◌, Bool, true, cond, not, ◌&&◌, List, [], ◌∷◌, ℕ, zero, suc, ◌-◌, ltb, eqb, length}
use Rattle.answer.specs.Said.{Said, refused, plan}
use Rattle.answer.specs.Order.{Row, row}
use Rattle.model.specs.Plan.{Choice, Task, choice, IsPlan, NothingFits, total_cores, total_cost}
use Rattle.model.specs.Cells.{mark, may, onward}

-- the first of the k numbers from c on that passes the test, and c + k if none does
unfoldable pub search_from : (ℕ → Bool) → ℕ → ℕ → ℕ
search_from f c zero = c
search_from f c (suc k) = cond (f c) c (search_from f (suc c) k)

-- the smallest column whose cost equals that of column m
abbrev pub used : (ℕ → ℕ) → ℕ → ℕ
used row₀ m = search_from (λ c. eqb (row₀ c) (row₀ m)) 0 m

-- a permitted mode keeps the cost v of the cell at column c: it needs at most c cores, and its cost plus the next row's cell, at c less
-- those cores, equals v
unfoldable pub keeps : (ℕ → ℕ) → ℕ → ℕ → Choice → Bool
keeps next c v o = may o c && eqb (onward o next c) v

-- the number of the first mode that passes the test, and the number of modes if none does
unfoldable pub first_of : (Choice → Bool) → Task → ℕ
first_of f [] = 0
first_of f (o ∷ os) = cond (f o) 0 (suc (first_of f os))

-- the lowest permitted mode that keeps the cell's cost
abbrev pub lowest : Task → (ℕ → ℕ) → ℕ → ℕ → ℕ
lowest t next c v = first_of (keeps next c v) t

-- from row i and column c on, each task in turn gets that mode, and the column falls by its cores
unfoldable pub trace : (ℕ → ℕ → ℕ) → ℕ → List Task → ℕ → List ℕ
trace rows i [] c = []
trace rows i (t ∷ ts) c =
    let j = lowest t (rows (suc i)) c (rows i c) in
    j ∷ trace rows (suc i) ts (c - (choice t j).need)

-- each task has such a mode
unfoldable pub all_keep : (ℕ → ℕ → ℕ) → ℕ → List Task → ℕ → Bool
all_keep rows i [] c = true
all_keep rows i (t ∷ ts) c =
    let j = lowest t (rows (suc i)) c (rows i c) in
    ltb j (length t) && all_keep rows (suc i) ts (c - (choice t j).need)

-- 14: column m of row 0 reads as the mark; 18: no permitted mode keeps a cell's cost
unfoldable pub take_rows : (ℕ → ℕ → ℕ) → List Task → ℕ → List Row
take_rows rows ts m =
    row 14 0 (eqb (rows 0 m) mark)
    ∷ row 18 0 (not (all_keep rows 0 ts (used (rows 0) m)))
    ∷ []

-- the modes
abbrev pub take_modes : (ℕ → ℕ → ℕ) → List Task → ℕ → List ℕ
take_modes rows ts m = trace rows 0 ts (used (rows 0) m)

-- a right answer: the plan, with its cores and its cost; or 14, and no selection fits
abbrev pub Right : List Task → ℕ → Said → List ℕ → Type 0
Right ts m answer s =
    (IsPlan ts m s × (answer ≡ plan (total_cores ts s) (total_cost ts s)))
    ⊎ (NothingFits ts m × (answer ≡ refused 14 0))
