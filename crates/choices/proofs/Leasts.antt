-- The least need of a task's modes, one after the other. Assumes nothing.
use Prim.Native.Nat.{ℕ, zero, suc, ◌+◌, ◌-◌, ◌≤◌, ◌<◌, min}
use mathlib.Core.Path.{◌≡◌, refl, ◌∙◌}
use mathlib.Core.Bool.{Bool, true, false, cond}
use mathlib.Core.List.{[], ◌∷◌}
use native.Mathlib.Omega.{arith}
use Rattle.std.specs.List.{fold, range_with_len}
use Rattle.model.specs.Turns.{each_from}
use Rattle.model.specs.Plan.{Task}
use Rattle.model.specs.Cells.{mark}
use Rattle.model.specs.inner.Fitting.{least_need}
use Rattle.block.specs.Tests.{allows}
use Rattle.table.specs.Numbers.{TaskNumbers}
use Rattle.choices.specs.Tasks.{cores_at, choice_of, task_of}
use Rattle.choices.specs.inner.Modes.{need_at, AllMeet}
use Rattle.choices.proofs.Loads.{Meets}

pub need_most : (t : Task) → least_need t ≤ mark
unfolding least_need
need_most [] = omega arith
need_most (o ∷ os) = omega (arith, need_most os)

module _ (H : ℕ) (t : TaskNumbers) where
  -- the need held for a mode that meets its period is what it counts for
  pub own : (j : ℕ) → Meets t j → need_at t j ≡ cond (allows t.permitted j) (cores_at t j) mark
  own j m = go (allows t.permitted j) refl
    where
      go : (b : Bool) → allows t.permitted j ≡ b → need_at t j ≡ cond (allows t.permitted j) (cores_at t j) mark
      go true e = rw (e, m)
      go false e = rw e

  -- the least so far, and that of the modes from j on
  abbrev pub lesser : ℕ → ℕ → ℕ
  lesser least j = min least (need_at t j)

  pub fold_left : (left j least : ℕ) → least ≤ mark → ((k : ℕ) → k < j + left → Meets t k)
      → fold lesser least (range_with_len j left) ≡ min least (least_need (each_from (choice_of H t) j left))
  unfolding least_need each_from
  fold_left zero j least h m = omega arith
  fold_left (suc left) j least h m =
      fold_left left (j + 1) (min least (need_at t j)) (omega arith) (λ k l. m k (omega arith)) ∙ omega (arith, own j (m j (omega arith)))

  pub least_is : (count : ℕ) → count ≡ t.modes → AllMeet t → fold lesser mark (range_with_len 0 (count - 0)) ≡ least_need (task_of H t)
  unfolding task_of
  least_is count e m =
      let n : count - 0 ≡ t.modes = omega arith in
      rw n (fold_left t.modes 0 mark (omega arith) (λ k l. m k (omega arith)) ∙ omega (arith, need_most (each_from (choice_of H t) 0 t.modes)))
