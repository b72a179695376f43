-- The least needs of the tasks that are left, against the cores that are left. Assumes nothing.
use Prim.Native.Nat.{ℕ, suc, ◌+◌, ◌-◌, ◌*◌, ◌≤◌, ◌<◌}
use native.Mathlib.Nat.{sub-zero}
use native.Mathlib.Omega.{arith}
use mathlib.Core.Path.{◌≡◌, refl, sym, ap, ◌∙◌}
use mathlib.Core.Bool.{Bool, true, false}
use mathlib.Core.List.{List}
use borrow.Author.Tests.{leb-true, leb-false, le-leb, lt-leb}
use lib.Dec.{leb}
use lib.ListN.{take, drop}
use Rattle.model.specs.Turns.{each_from}
use Rattle.model.specs.Plan.{Task}
use Rattle.model.specs.inner.Fitting.{least_need, least_cores}
use Rattle.table.specs.Numbers.{Numbers, numbers_in, task_numbers_in}
use Rattle.table.specs.inner.Accepted.{Plannable}
use Rattle.choices.specs.Tasks.{task_of, tasks_of, tasks_of_table}
use Rattle.choices.specs.inner.Modes.{NeedsLeast}
use Rattle.choices.proofs.Tables.{task_at, block_task}

-- the tasks from task i on
abbrev rest : Numbers → ℕ → List Task
rest t i = each_from (λ k. task_of t.common (t.task k)) i (t.tasks - i)

-- whether they fit in so many cores
abbrev pub fits_from : List ℕ → ℕ → ℕ → Bool
fits_from bytes i left = leb (least_cores (rest (numbers_in bytes) i)) left

pub fits_all : (bytes : List ℕ) (m : ℕ) → leb (least_cores (tasks_of_table bytes)) m ≡ fits_from bytes 0 m
unfolding tasks_of
fits_all bytes m = rw sub-zero

rest_one : (t : Numbers) (i : ℕ) → i < t.tasks → least_cores (rest t i) ≡ least_need (task_of t.common (t.task i)) + least_cores (rest t (i + 1))
unfolding each_from least_cores
rest_one t i h = let one : t.tasks - i ≡ suc (t.tasks - (i + 1)) = omega arith in rw one

rest_end : (t : Numbers) (i : ℕ) → t.tasks ≤ i → least_cores (rest t i) ≡ 0
unfolding each_from least_cores
rest_end t i h = let none : t.tasks - i ≡ 0 = omega arith in rw none

module _ {bytes : List ℕ} {n m : ℕ} (w : Plannable bytes n m (numbers_in bytes).common) where
  pub fits_end : (i left : ℕ) → n ≤ i → fits_from bytes i left ≡ true
  fits_end i left h =
      le-leb (least_cores (rest (numbers_in bytes) i)) left (omega (arith, rest_end (numbers_in bytes) i (omega (arith, w.tasks))))

  -- the need of the next task's block
  module _ (i : ℕ) (less : i < n) (block : List ℕ) (is : block ≡ take 512 (drop (512 * (i + 1)) bytes)) (need : ℕ) (least : NeedsLeast (task_numbers_in block) need) where
    one : least_cores (rest (numbers_in bytes) i) ≡ need + least_cores (rest (numbers_in bytes) (i + 1))
    one =
        let there : i < (numbers_in bytes).tasks = omega (arith, w.tasks) in
        let same : need ≡ least_need (task_of (numbers_in bytes).common ((numbers_in bytes).task i)) =
        least (numbers_in bytes).common ∙ ap least_need (sym (block_task w i less block is) ∙ task_at (numbers_in bytes) i there) in
        omega (arith, rest_one (numbers_in bytes) i there)

    pub fits_not : (left : ℕ) → left < need → fits_from bytes i left ≡ false
    fits_not left h = lt-leb (least_cores (rest (numbers_in bytes) i)) left (omega (arith, one))

    pub fits_less : (left : ℕ) → need ≤ left → fits_from bytes i left ≡ fits_from bytes (i + 1) (left - need)
    fits_less left h = go (fits_from bytes (i + 1) (left - need)) refl
      where
        go : (b : Bool) → fits_from bytes (i + 1) (left - need) ≡ b → fits_from bytes i left ≡ fits_from bytes (i + 1) (left - need)
        go true e =
            let k = leb-true (least_cores (rest (numbers_in bytes) (i + 1))) (left - need) e in
            le-leb (least_cores (rest (numbers_in bytes) i)) left (omega (arith, one)) ∙ sym e
        go false e =
            let k = leb-false (least_cores (rest (numbers_in bytes) (i + 1))) (left - need) e in
            lt-leb (least_cores (rest (numbers_in bytes) i)) left (omega (arith, one)) ∙ sym e
