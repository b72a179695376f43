-- The document's starred examples, by computing the listing of all selections. Assumes nothing.
use mathlib.Core.Path.{◌≡◌, refl}
use mathlib.Core.Logic.{inl, inr}
use mathlib.Core.List.{List, [], ◌∷◌}
use Prim.Native.Nat.{ℕ}
use Rattle.model.specs.Turns.{each_from}
use Rattle.model.specs.Plan.{IsPlan, NothingFits, total_cores, total_cost}
use Rattle.model.specs.inner.Listing.{some, none, numbers, each, selections, then, lower, as_good, better, best_of, plan_of}
use Rattle.model.proofs.Listing.{plan_of_some, plan_of_none}
use Rattle.block.specs.Tests.{allows}
use Rattle.choices.specs.Tasks.{task_of, tasks_of}
use Rattle.demands.specs.Examples.{task_with, sample_tasks, sample, listing, TheExamplesHold}

found : (m : ℕ) (s : List ℕ) → plan_of (tasks_of (sample m)) m ≡ some s → IsPlan (tasks_of (sample m)) m s
found m s e = (plan_of_some (tasks_of (sample m)) m s).0 e

lost : (m : ℕ) → plan_of (tasks_of (sample m)) m ≡ none → NothingFits (tasks_of (sample m)) m
lost m e = (plan_of_none (tasks_of (sample m)) m).0 e

pub plan_of_5 : IsPlan (tasks_of (sample 5)) 5 (1 ∷ 0 ∷ [])
unfolding allows sample sample_tasks task_with tasks_of task_of each_from total_cores total_cost numbers each selections then lower as_good better best_of
plan_of_5 = found 5 (1 ∷ 0 ∷ []) refl

pub plan_of_6 : IsPlan (tasks_of (sample 6)) 6 (0 ∷ 0 ∷ [])
unfolding allows sample sample_tasks task_with tasks_of task_of each_from total_cores total_cost numbers each selections then lower as_good better best_of
plan_of_6 = found 6 (0 ∷ 0 ∷ []) refl

pub the_examples_hold : TheExamplesHold
unfolding allows listing sample sample_tasks task_with tasks_of task_of each_from total_cores total_cost numbers each selections then lower as_good better best_of
the_examples_hold = (
  refl,
  (
    refl,
    (
      refl,
      (
        refl,
        (
          refl,
          (
            refl,
            (
              refl,
              (
                refl,
                (
                  refl,
                  (
                    inr (lost 2 refl, refl),
                    (inl (found 3 _ refl, refl), (inl (found 5 _ refl, refl), (inl (found 6 _ refl, refl), tt))),
                  ),
                ),
              ),
            ),
          ),
        ),
      ),
    ),
  ),
)
