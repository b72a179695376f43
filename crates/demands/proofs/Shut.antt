-- The programs that are shut out. Assumes nothing.
use Prim.Native.Nat.{ℕ, zero, suc, ◌≤◌, ◌<◌}
use native.Mathlib.Omega.{arith}
use mathlib.Core.Path.{◌≡◌, refl, sym, ap, subst₂, ◌∙◌}
use mathlib.Core.Logic.{◌⊎◌, inl, inr}
use mathlib.Core.List.{List, [], ◌∷◌}
use lib.ListN.{length, get_or, take, drop}
use lib.Seq.{take-append_seam}
use Rattle.answer.specs.Said.{plan}
use Rattle.answer.specs.Order.{NoneGiven}
use Rattle.answer.proofs.Rows.{plan_refused}
use Rattle.model.specs.Plan.{Task, IsSelection, Fits, IsPlan, total_cores, total_cost}
use Rattle.model.proofs.Order.{one_plan}
use Rattle.model.proofs.Best.{selection_length}
use Rattle.block.specs.Bytes.{Bytes}
use Rattle.block.specs.Tests.{allows, any_allowed}
use Rattle.table.specs.Order.{table_rows, Accepted}
use Rattle.table.specs.Numbers.{numbers_in}
use Rattle.table.specs.Lawful.{LawfulTask, LawfulFigures, Lawful}
use Rattle.table.proofs.Limits.{task_lawful, figures_lawful}
use Rattle.table.proofs.Accepted.{answered_none}
use Rattle.choices.specs.Tasks.{tasks_of, tasks_of_table, cores_of_table}
use Rattle.choices.proofs.Tables.{tasks_length, task_at, task_length}
use Rattle.taking.specs.Said.{Taken, said}
use Rattle.taking.specs.Take.{with_modes}
use Rattle.demands.specs.Demand2.{ReadsAs}
use Rattle.whole.specs.Whole.{PlanGiven, NoPlanFits}
use Rattle.demands.specs.Demand3.{Asked}
use Rattle.demands.specs.Examples.{task_with, sample_tasks, sample}
use Rattle.demands.specs.ShutOut.{NoneRefusesEverything, NoneHasAConstantPlan, NoneWritesNothing, NoneFillsAllAtOnce, NoneInventsProgress, NoneInventsCoresOrCost, ShutOut}
use Rattle.demands.proofs.Demand2.{every_lawful_table_is_accepted, written_and_read_back, a_portion_fills_just_the_cells_it_pays_for, tasks_same, cores_same, tasks_read}
use Rattle.demands.proofs.Demand3.{asked_lawful, the_plan_is_right, no_portion_is_refused}
use Rattle.demands.proofs.Examples.{plan_of_5, plan_of_6}

-- ---- a plan that is given
-- unless nothing fits
given_unless : {bytes out : List ℕ} {r : Taken} {out' : List ℕ} → Asked bytes out r out' → (NoPlanFits bytes out r out' → ⊥)
    → (t : List ℕ) × PlanGiven bytes t out r out'
given_unless {bytes} {out} {r} {out'} a some = go (the_plan_is_right bytes out r out' a).right
  where
    go : ((t : List ℕ) × PlanGiven bytes t out r out') ⊎ NoPlanFits bytes out r out' → (t : List ℕ) × PlanGiven bytes t out r out'
    go (inl g) = g
    go (inr n) = absurd (some n)

-- where a permitted choice fits
given : {bytes out : List ℕ} {r : Taken} {out' : List ℕ} → Asked bytes out r out'
    → (s : List ℕ) → IsSelection (tasks_of_table bytes) s → Fits (tasks_of_table bytes) (cores_of_table bytes) s → (t : List ℕ) × PlanGiven bytes t out r out'
given a s l f = given_unless a (λ n. n.nothing s l f)

-- where a plan is answered
answered : {bytes out : List ℕ} {r : Taken} {out' : List ℕ} {u v : ℕ} → Asked bytes out r out' → said r ≡ plan u v
    → (t : List ℕ) × PlanGiven bytes t out r out'
answered a e = given_unless a (λ n. plan_refused e n.answer)

-- its modes are one per task, and they are what is written
modes_written : (bytes s out : List ℕ) (r : Taken) (out' : List ℕ) → PlanGiven bytes s out r out' → take (numbers_in bytes).tasks out' ≡ s
modes_written bytes s out r out' g =
    let n : (numbers_in bytes).tasks ≡ length s = sym (selection_length (tasks_of_table bytes) s g.plan_is.selection ∙ tasks_length (numbers_in bytes)) in
    rw (g.modes, n) (take-append_seam s (drop (length s) out))

-- ---- each program
none_refuses_everything : NoneRefusesEverything
none_refuses_everything =
    (every_lawful_table_is_accepted, no_portion_is_refused, λ bytes out r out' a s l f k at. plan_refused (given a s l f).1.answer)

none_writes_nothing : NoneWritesNothing
none_writes_nothing bytes out r out' u v a e first same =
    let g = answered a e in
    let l = asked_lawful a in
    let some = l.numbers.header.tasks_low in
    let low : length (get_or (tasks_of_table bytes) 0 []) ≤ 16 =
    rw (task_at (numbers_in bytes) 0 some, task_length (numbers_in bytes).common ((numbers_in bytes).task 0)) (l.numbers.task 0 some).modes_high in
    go (tasks_of_table bytes) g.0 (omega (arith, tasks_length (numbers_in bytes), some)) low g.1.plan_is.selection
    (ap (λ (x : List ℕ). get_or x 0 0) (sym g.1.modes ∙ same) ∙ first)
  where
    go : (ts : List Task) (s : List ℕ) → 1 ≤ length ts → length (get_or ts 0 []) ≤ 16 → IsSelection ts s → get_or (with_modes s out) 0 0 ≡ 255 → ⊥
    go [] s many low l e = omega arith
    go (t ∷ ts) [] many low l e = l
    go (t ∷ ts) (j ∷ s) many low l e = omega (arith, l.0)

none_fills_all_at_once : NoneFillsAllAtOnce
none_fills_all_at_once bytes before p b after q s c past other same =
    other (sym ((a_portion_fills_just_the_cells_it_pays_for bytes before p b after q s).others c (inr past)) ∙ same)

none_invents_progress : NoneInventsProgress
none_invents_progress bytes before p b after q s =
    ((a_portion_fills_just_the_cells_it_pays_for bytes before p b after q s).progress, s.allowed.counts q s.gave)

none_invents_cores_or_cost : NoneInventsCoresOrCost
none_invents_cores_or_cost bytes out r out' u v a e =
    let g = answered a e in
    let same : plan u v ≡ plan (total_cores (tasks_of_table bytes) g.0) (total_cost (tasks_of_table bytes) g.0) = sym e ∙ g.1.answer in
    let cores : u ≡ total_cores (tasks_of_table bytes) g.0 = cc in
    let cost : v ≡ total_cost (tasks_of_table bytes) g.0 = cc in
    let modes = modes_written bytes g.0 out r out' g.1 in
    (cores ∙ ap (total_cores (tasks_of_table bytes)) (sym modes), cost ∙ ap (total_cost (tasks_of_table bytes)) (sym modes))

-- ---- the sample with 5 cores and with 6: modes 1 0 and 0 0
sample_lawful : (m : ℕ) → 1 ≤ m → m ≤ 64 → Lawful (sample m)
unfolding allows any_allowed sample sample_tasks task_with
sample_lawful m low high =
    record {
      header = record { tasks_low = omega arith; tasks_high = omega arith; cores_low = low; cores_high = high; common_low = omega arith; common_high = omega arith };
      task = each_task;
      mode = each_mode;
    }
  where
    each_task : (i : ℕ) → i < 2 → LawfulTask ((sample m).task i)
    each_task zero h = task_lawful _ (omega arith) refl refl
    each_task (suc zero) h = task_lawful _ (omega arith) refl refl
    each_task (suc (suc i)) h = absurd (omega arith)

    each_mode : (i j : ℕ) → i < 2 → j < ((sample m).task i).modes → LawfulFigures 1000 (((sample m).task i).figures j)
    each_mode zero zero h k = figures_lawful 0 1000 _ (refl, (refl, (refl, tt)))
    each_mode zero (suc zero) h k = figures_lawful 0 1000 _ (refl, (refl, (refl, tt)))
    each_mode zero (suc (suc j)) h k = absurd (omega arith)
    each_mode (suc zero) zero h k = figures_lawful 0 1000 _ (refl, (refl, (refl, tt)))
    each_mode (suc zero) (suc zero) h k = figures_lawful 0 1000 _ (refl, (refl, (refl, tt)))
    each_mode (suc zero) (suc (suc zero)) h k = figures_lawful 0 1000 _ (refl, (refl, (refl, tt)))
    each_mode (suc zero) (suc (suc (suc j))) h k = absurd (omega arith)
    each_mode (suc (suc i)) j h k = absurd (omega arith)

module _ (m : ℕ) (low : 1 ≤ m) (high : m ≤ 64) where
  abbrev Table : List ℕ
  Table = (every_lawful_table_is_accepted (sample m) (sample_lawful m low high)).0

  table_bytes : Bytes Table
  table_bytes = (every_lawful_table_is_accepted (sample m) (sample_lawful m low high)).1

  table_reads : ReadsAs Table (sample m)
  table_reads = written_and_read_back (sample m) Table (sample_lawful m low high) (every_lawful_table_is_accepted (sample m) (sample_lawful m low high)).2

  accepted : Accepted Table
  accepted = ((sample m).tasks, (sample m).cores, (sample m).common, table_reads.front)

  none : NoneGiven (table_rows Table)
  none = answered_none Table table_reads.front

  two : (numbers_in Table).tasks ≡ 2
  unfolding sample
  two = tasks_same Table table_bytes none (sample m) table_reads

  cores_are : cores_of_table Table ≡ m
  unfolding sample
  cores_are = cores_same Table table_bytes none (sample m) table_reads

  tasks_are : tasks_of_table Table ≡ tasks_of (sample m)
  tasks_are = tasks_read Table table_bytes none (sample m) table_reads

  -- the modes written of it are its plan's
  wrote : (s : List ℕ) → IsPlan (tasks_of (sample m)) m s → (out : List ℕ) (r : Taken) (out' : List ℕ) → Asked Table out r out'
      → take (numbers_in Table).tasks out' ≡ s
  wrote s is out r out' a =
      let own : IsPlan (tasks_of_table Table) (cores_of_table Table) s = subst₂ (λ (ts : List Task) (k : ℕ). IsPlan ts k s) (sym tasks_are) (sym cores_are) is in
      let g = given a s own.selection own.fits in
      modes_written Table g.0 out r out' g.1 ∙ one_plan (tasks_of_table Table) (cores_of_table Table) g.0 s g.1.plan_is own

none_has_a_constant_plan : NoneHasAConstantPlan
none_has_a_constant_plan =
    let a = Table 5 (omega arith) (omega arith) in
    let b = Table 6 (omega arith) (omega arith) in (
      a,
      b,
      table_bytes 5 (omega arith) (omega arith),
      table_bytes 6 (omega arith) (omega arith),
      accepted 5 (omega arith) (omega arith),
      accepted 6 (omega arith) (omega arith),
      two 5 (omega arith) (omega arith) ∙ sym (two 6 (omega arith) (omega arith)),
      λ out out₂ r r₂ out' out₂' x y same.
          let e = sym (wrote 5 (omega arith) (omega arith) (1 ∷ 0 ∷ []) plan_of_5 out r out' x) ∙ same ∙ wrote 6 (omega arith) (omega arith) (0 ∷ 0 ∷ []) plan_of_6 out₂ r₂ out₂' y in
          let z : ◌≡◌ {A = ℕ} 1 0 = ap (λ (s : List ℕ). get_or s 0 0) e in
          omega arith,
    )

pub shut_out : ShutOut
shut_out =
    record {
      none_refuses_everything = none_refuses_everything;
      none_has_a_constant_plan = none_has_a_constant_plan;
      none_writes_nothing = none_writes_nothing;
      none_fills_all_at_once = none_fills_all_at_once;
      none_invents_progress = none_invents_progress;
      none_invents_cores_or_cost = none_invents_cores_or_cost;
    }
