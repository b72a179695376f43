-- What `cores` says of a mode of a task, whether it meets its period or not. Assumes nothing.
use Prim.Native.Nat.{ℕ}
use native.Mathlib.Omega.{arith}
use mathlib.Core.Path.{◌≡◌, refl, ap}
use mathlib.Core.List.{[], ◌∷◌}
use mathlib.Core.Bool.{Bool, true, false, cond, not}
use Rattle.answer.specs.Said.{Said, refused, figures, needs}
use Rattle.answer.specs.Order.{row, first}
use Rattle.answer.proofs.Rows.{kind}
use Rattle.model.specs.Rules.{meets, cores_said}
use Rattle.model.specs.Cells.{mark}
use Rattle.table.specs.Order.{figures_said}
use Rattle.table.specs.Numbers.{TaskNumbers}
use Rattle.choices.specs.Tasks.{cores_at}

abbrev pub meets_at : TaskNumbers → ℕ → Bool
meets_at t j = meets (t.figures j).work (t.figures j).span (t.figures j).period

abbrev pub said_at : TaskNumbers → ℕ → Said
said_at t j = cores_said (t.figures j).work (t.figures j).span (t.figures j).period

-- by whether it does
met : (b : Bool) (k n : ℕ) → needs k ≡ first (row 13 0 (not b) ∷ []) (needs n) → k ≡ cond b n mark
met true k n e = cc
met false k n e = cc

late : (b : Bool) (n : ℕ) → refused 13 0 ≡ first (row 13 0 (not b) ∷ []) (needs n) → b ≡ false
late true n e = absurd (omega (arith, ap kind e))
late false n e = refl

module _ (t : TaskNumbers) (j : ℕ) where
  -- the figures by which it was asked are the mode's
  pub said_same : (C L T : ℕ) → figures C L T ≡ figures_said (t.figures j) → cores_said C L T ≡ said_at t j
  said_same C L T e =
      let work : C ≡ (t.figures j).work = cc in
      let span : L ≡ (t.figures j).span = cc in
      let period : T ≡ (t.figures j).period = cc in
      rw (work, span, period)

  pub said_cores : (k : ℕ) → needs k ≡ said_at t j → k ≡ cond (meets_at t j) (cores_at t j) mark
  said_cores k e = met (meets_at t j) k (cores_at t j) e

  pub said_late : refused 13 0 ≡ said_at t j → meets_at t j ≡ false
  said_late e = late (meets_at t j) (cores_at t j) e
