-- Values in turn.
use Rattle.std.specs.Prelude.{ℕ, zero, suc, ◌+◌, List, [], ◌∷◌}

-- those of f, left of them from j on
unfoldable pub each_from : {A : Type 0} → (ℕ → A) → ℕ → ℕ → List A
each_from f j zero = []
each_from f j (suc left) = f j ∷ each_from f (j + 1) left
