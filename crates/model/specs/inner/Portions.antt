-- Portions with these budgets in turn, each going on from the progress the last one gave.
use Rattle.std.specs.Prelude.{List, [], ◌∷◌, ℕ}
use Rattle.model.specs.Workspace.{Rule, advance, portion}

unfoldable pub progress_after : ℕ → ℕ → List ℕ → ℕ
progress_after W p [] = p
progress_after W p (b ∷ bs) = progress_after W (advance W p b) bs

unfoldable pub portions : Rule → ℕ → List ℕ → ℕ → List ℕ → List ℕ
portions rule W ws p [] = ws
portions rule W ws p (b ∷ bs) = portions rule W (portion rule W ws p b) (advance W p b) bs
