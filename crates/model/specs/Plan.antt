-- The plan: the fitting selection with the least total cost; then the fewest total cores; then the lowest mode number in the first task
-- where two selections differ. It ranges over selections and has no workspace in it.
use Rattle.std.specs.Prelude.{◌≡◌, ◌⊎◌, Bool, false, List, [], ◌∷◌, ℕ, ◌+◌, ◌≤◌, ◌<◌, T, length, get_or}

-- a mode as the planner sees it: permitted or not, the cores that it needs, its cost
pub record Choice : Type 0 where
  pub permitted : Bool
  pub need : ℕ
  pub cost : ℕ

-- a task is the list of its choices: a mode's number is its place
abbrev pub Task : Type 0
Task = List Choice

-- past the last mode none is permitted
abbrev pub absent : Choice
absent = record { permitted = false; need = 0; cost = 0 }

abbrev pub choice : Task → ℕ → Choice
choice t j = get_or t j absent

-- a selection names one permitted mode for each task
abbrev pub IsSelection : List Task → List ℕ → Type 0
IsSelection [] [] = Unit {0}
IsSelection [] (j ∷ s) = ⊥
IsSelection (t ∷ ts) [] = ⊥
IsSelection (t ∷ ts) (j ∷ s) = (j < length t) × T (choice t j).permitted × IsSelection ts s

-- its core counts, added up
unfoldable pub total_cores : List Task → List ℕ → ℕ
total_cores [] s = 0
total_cores (t ∷ ts) [] = 0
total_cores (t ∷ ts) (j ∷ s) = (choice t j).need + total_cores ts s

-- its costs, added up
unfoldable pub total_cost : List Task → List ℕ → ℕ
total_cost [] s = 0
total_cost (t ∷ ts) [] = 0
total_cost (t ∷ ts) (j ∷ s) = (choice t j).cost + total_cost ts s

-- it fits if its core counts add up to at most the cores m
abbrev pub Fits : List Task → ℕ → List ℕ → Type 0
Fits ts m s = total_cores ts s ≤ m

-- x is below y; or they are equal, and the rest decides
abbrev pub Then : ℕ → ℕ → Type 0 → Type 0
Then x y rest = (x < y) ⊎ ((x ≡ y) × rest)

-- the lower mode number in the first task where the two differ; or the two are equal
abbrev pub Lower : List ℕ → List ℕ → Type 0
Lower [] s' = Unit {0}
Lower (j ∷ s) [] = ⊥
Lower (j ∷ s) (k ∷ s') = Then j k (Lower s s')

-- s is as good as s' or better: less cost; then fewer cores; then the lower mode number
abbrev pub AsGood : List Task → List ℕ → List ℕ → Type 0
AsGood ts s s' = Then (total_cost ts s) (total_cost ts s') (Then (total_cores ts s) (total_cores ts s') (Lower s s'))

-- the plan: a fitting selection that is as good as every fitting selection
pub record IsPlan (ts : List Task) (m : ℕ) (s : List ℕ) : Type 0 where
  pub selection : IsSelection ts s
  pub fits : Fits ts m s
  pub best : (s' : List ℕ) → IsSelection ts s' → Fits ts m s' → AsGood ts s s'

-- no selection fits
abbrev pub NothingFits : List Task → ℕ → Type 0
NothingFits ts m = (s : List ℕ) → IsSelection ts s → Fits ts m s → ⊥
