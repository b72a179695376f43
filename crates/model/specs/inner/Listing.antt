-- The plan by listing all selections: what a reader can run.
use Rattle.std.specs.Prelude.{Bool, true, false, cond, ◌&&◌, ◌||◌, List, [], ◌∷◌, ◌++◌, map, ℕ, suc, leb, ltb, eqb}
use Rattle.model.specs.Plan.{Task, total_cores, total_cost}

-- the numbers of the permitted modes, where the first has number i
unfoldable pub numbers : ℕ → Task → List ℕ
numbers i [] = []
numbers i (o ∷ os) = cond o.permitted (i ∷ numbers (suc i) os) (numbers (suc i) os)

-- each of js in front of each of ss
unfoldable pub each : List ℕ → List (List ℕ) → List (List ℕ)
each [] ss = []
each (j ∷ js) ss = map (λ (s : List ℕ). j ∷ s) ss ++ each js ss

unfoldable pub selections : List Task → List (List ℕ)
selections [] = [] ∷ []
selections (t ∷ ts) = each (numbers 0 t) (selections ts)

-- the order among selections, as tests
unfoldable pub then : ℕ → ℕ → Bool → Bool
then x y rest = ltb x y || (eqb x y && rest)

unfoldable pub lower : List ℕ → List ℕ → Bool
lower [] s' = true
lower (j ∷ s) [] = false
lower (j ∷ s) (k ∷ s') = then j k (lower s s')

unfoldable pub as_good : List Task → List ℕ → List ℕ → Bool
as_good ts s s' = then (total_cost ts s) (total_cost ts s') (then (total_cores ts s) (total_cores ts s') (lower s s'))

-- what the listing finds
pub data Listed : Type 0 where
  none : Listed
  some : List ℕ → Listed

unfoldable pub better : List Task → List ℕ → Listed → Listed
better ts s none = some s
better ts s (some r) = cond (as_good ts s r) (some s) (some r)

-- the best of those that fit
unfoldable pub best_of : List Task → ℕ → List (List ℕ) → Listed
best_of ts m [] = none
best_of ts m (s ∷ ss) = cond (leb (total_cores ts s) m) (better ts s (best_of ts m ss)) (best_of ts m ss)

abbrev pub plan_of : List Task → ℕ → Listed
plan_of ts m = best_of ts m (selections ts)
