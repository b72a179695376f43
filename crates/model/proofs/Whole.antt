-- From progress 0, in any portions, to the plan. Assumes nothing.
use mathlib.Core.Path.{◌≡◌, ap, ◌∙◌}
use mathlib.Core.List.{List}
use Prim.Native.Nat.{ℕ, ◌≤◌}
use native.Mathlib.Omega.{arith}
use lib.ListN.{length, get_or}
use Rattle.model.specs.Plan.{Task}
use Rattle.model.specs.inner.Costs.{Limits}
use Rattle.model.specs.Workspace.{cell_count, cell_in, cell_rule, fill, Filled}
use Rattle.model.specs.inner.Portions.{progress_after, portions}
use Rattle.model.specs.Taking.{take_modes, Right}
use Rattle.model.specs.inner.Filled.{take_said}
use Rattle.model.proofs.Values.{fill_filled, portions_filled, filled_holds}
use Rattle.model.proofs.Taken.{take_right}

module _ (ts : List Task) (m : ℕ) (ws : List ℕ) (room : cell_count (length ts) m ≤ length ws) where
  -- progress 0 says nothing
  none_filled : Filled ts m ws 0
  none_filled q h = absurd (omega arith)

  -- filled from 0 to W every cell holds its defined value
  pub all_filled : Filled ts m (fill (cell_rule ts m) ws 0 (cell_count (length ts) m)) (cell_count (length ts) m)
  all_filled q h = fill_filled ts m ws 0 (cell_count (length ts) m) none_filled (omega arith) room q (omega arith)

  -- and once portions in any budgets have filled them all, what is taken is right
  pub whole : (bs : List ℕ) → Limits ts → progress_after (cell_count (length ts) m) 0 bs ≡ cell_count (length ts) m
      → (ws' : List ℕ) → ws' ≡ portions (cell_rule ts m) (cell_count (length ts) m) ws 0 bs
      → Right ts m (take_said (cell_in (length ts) m ws') ts m) (take_modes (cell_in (length ts) m ws') ts m)
  whole bs l e ws' same =
      let f = portions_filled ts m ws 0 bs none_filled (omega arith) room in
      take_right (cell_in (length ts) m ws') ts m l
      (filled_holds ts m ws' (λ q h. ap (λ (x : List ℕ). get_or x q 0) same ∙ f q (omega arith)))
