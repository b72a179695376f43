-- Demand 3. Assumes nothing.
use Prim.Native.Nat.{ℕ, ◌-◌, ◌≤◌, ◌<◌, min}
use native.Mathlib.Omega.{arith}
use native.Mathlib.Nat.{mul-le-mul}
use mathlib.Core.Path.{◌≡◌, sym, ap, subst, ◌∙◌}
use mathlib.Core.Logic.{◌⊎◌, inl, inr, ◌↔◌}
use mathlib.Core.List.{List, [], ◌∷◌, ◌++◌}
use borrow.Author.Tests.{le-ltb}
use lib.ListN.{length, get_or}
use Rattle.answer.specs.Said.{refused}
use Rattle.answer.specs.Order.{NoneGiven}
use Rattle.answer.proofs.Rows.{none_first, append_none, plan_refused}
use Rattle.answer.proofs.Outcomes.{beyond}
use Rattle.model.specs.Plan.{NothingFits}
use Rattle.model.specs.Workspace.{cell_count, advance}
use Rattle.model.specs.Taking.{take_rows}
use Rattle.model.specs.inner.Portions.{progress_after}
use Rattle.model.proofs.Fills.{progress_within, portions_fill, fill_length}
use Rattle.table.specs.Order.{table_rows}
use Rattle.table.specs.Numbers.{numbers_in}
use Rattle.table.specs.inner.Accepted.{LawfulTable}
use Rattle.table.proofs.Accepted.{lawful, answered_none}
use Rattle.choices.specs.Tasks.{tasks_of_table, cores_of_table, cells_of_table}
use Rattle.portions.specs.Portion.{own_rows, portion_rows, rule_of, FilledTo}
use Rattle.portions.specs.Runs.{Run, RunTo, spent}
use Rattle.portions.proofs.Laws.{step_went, run_is, there_is_a_run}
use Rattle.taking.specs.Said.{Taken, said}
use Rattle.taking.specs.Take.{cell_of, lent_rows, progress_rows, taking_rows, TookPlan}
use Rattle.taking.specs.inner.From.{TookFrom}
use Rattle.taking.proofs.Settled.{held_in_type}
use Rattle.taking.proofs.Lent.{none_all}
use Rattle.taking.proofs.Settled.{some_taken}
use Rattle.whole.specs.Whole.{PlanGiven, NoPlanFits}
use Rattle.whole.proofs.Filled.{taken}
use Rattle.demands.specs.Demand3.{RightAnswer, NoPortionIsRefused, Asked, ThePlanIsRight, ThereIsAnOutcome, Demand3}

-- ---- over cells that hold their defined values
module _ (bytes cells : List ℕ) (table : LawfulTable bytes) (f : FilledTo bytes cells (cells_of_table bytes)) (none : NoneGiven (table_rows bytes))
    (room : cells_of_table bytes ≤ length cells) (out : List ℕ) (r : Taken) (out' : List ℕ)
    (space : (numbers_in bytes).tasks ≤ length out) (took : TookPlan bytes cells (cells_of_table bytes) out r out') where
  -- none of the rows up to 17 is given, so 14 and 18 decide
  by_cells : TookFrom bytes cells out r out'
  unfolding taking_rows
  by_cells =
      let W = cells_of_table bytes in
      let progress = progress_rows W W in
      let own = take_rows (cell_of bytes cells) (tasks_of_table bytes) (cores_of_table bytes) in
      let same : W ≤ W = omega arith in
      beyond progress own _ out _ (le-ltb _ _ same, (le-ltb _ _ same, tt))
      (beyond (lent_rows bytes (length cells) (length out)) (progress ++ own) _ out _ (none_all bytes (length cells) (length out) none room space) took)

  exactly : ((s : List ℕ) × PlanGiven bytes s out r out') ⊎ NoPlanFits bytes out r out'
      → (said r ≡ refused 14 0) ↔ NothingFits (tasks_of_table bytes) (cores_of_table bytes)
  exactly (inl (s, g)) =
      (λ e. plan_refused g.answer e, λ n. absurd (n s g.plan_is.selection g.plan_is.fits))
  exactly (inr g) = (λ e. g.nothing, λ n. g.answer)

  right_answer : RightAnswer bytes out r out'
  right_answer =
      let t = taken bytes cells table f out r out' by_cells in
      record { right = t; exactly = exactly t }

-- ---- over a run of portions
-- the cells below the progress hold their defined values
run_filled : (bytes budgets before after : List ℕ) (p q : ℕ) → Run bytes budgets before p after q → FilledTo bytes before p → FilledTo bytes after q
run_filled bytes [] before after p q (same, is) f c low = ap (λ (x : List ℕ). get_or x c 0) (sym same) ∙ f c (omega arith)
run_filled bytes (b ∷ bs) before after p q (mid, between, s, run) f c low =
    run_filled bytes bs mid after between q run (s.allowed.counts between s.gave f) c low

-- the workspace stays as long, and the progress within it
run_within : (bytes budgets before after : List ℕ) (q : ℕ) → Run bytes budgets before 0 after q → (length after ≡ length before) × (q ≤ cells_of_table bytes)
run_within bytes bs before after q run =
    let r = run_is bytes bs before after 0 q run in
    let i = progress_within (rule_of bytes) (cells_of_table bytes) 0 bs (omega arith) in (
      ap length (r.0 ∙ portions_fill (rule_of bytes) (cells_of_table bytes) before 0 bs (omega arith))
          ∙ fill_length (rule_of bytes) before 0 (progress_after (cells_of_table bytes) 0 bs - 0),
      omega (arith, r.1, i),
    )

-- there is a cell
some_cell : (n m : ℕ) → 0 < cell_count n m
unfolding cell_count
some_cell n m = mul-le-mul {n₁ = 1} {m₁ = 1} (omega arith) (omega arith)

-- a run that has filled one was of an accepted table
run_accepted : (bytes budgets before after : List ℕ) (q : ℕ) → 0 < q → Run bytes budgets before 0 after q → NoneGiven (table_rows bytes)
run_accepted bytes [] before after q some (same, is) = absurd (omega arith)
run_accepted bytes (b ∷ bs) before after q some (mid, between, s, run) = (step_went s).none

-- what is asked for of filled cells: the table is lawful
asked_none : {bytes out : List ℕ} {r : Taken} {out' : List ℕ} → Asked bytes out r out' → NoneGiven (table_rows bytes)
asked_none {bytes} a =
    run_accepted bytes a.budgets a.cells a.filling (cells_of_table bytes) (some_cell (numbers_in bytes).tasks (numbers_in bytes).cores) a.portions

pub asked_lawful : {bytes out : List ℕ} {r : Taken} {out' : List ℕ} → Asked bytes out r out' → LawfulTable bytes
asked_lawful {bytes} a = lawful bytes a.table (asked_none a)

pub the_plan_is_right : ThePlanIsRight
the_plan_is_right bytes out r out' a =
    let w = run_within bytes a.budgets a.cells a.filling (cells_of_table bytes) a.portions in
    right_answer bytes a.filling (asked_lawful a)
    (run_filled bytes a.budgets a.cells a.filling 0 (cells_of_table bytes) a.portions (λ c low. absurd (omega arith))) (asked_none a)
    (omega (arith, w.0, a.workspace)) out r out' a.room a.took

pub no_portion_is_refused : NoPortionIsRefused
unfolding portion_rows
no_portion_is_refused bytes cells accepted room budgets filling p run b r after o =
    let w = run_within bytes budgets cells filling p run in
    let none = answered_none bytes accepted.3 in
    let long : cells_of_table bytes ≤ length filling = omega (arith, w.0) in (
      advance (cells_of_table bytes) p b,
      o.outcome.says
          ∙ none_first (portion_rows bytes (length filling) p) _
          (append_none (table_rows bytes) (own_rows (cells_of_table bytes) (length filling) p) none (le-ltb _ _ long, (le-ltb _ _ w.1, tt))),
    )

-- ---- and it is there
pub there_is_an_outcome : ThereIsAnOutcome
there_is_an_outcome bytes cells budgets out is accepted room enough space =
    let W : ℕ = cells_of_table bytes in
    let all : min (spent budgets) W ≡ W = omega arith in
    let r = subst (RunTo bytes budgets cells) all (there_is_a_run bytes cells budgets is accepted room) in
    let o = some_taken bytes r.filling W out is in
    record { portions = r; answer = o.answer; in_type = held_in_type o.answer o.held; left = o.left; took = o.allowed }

pub demand_3 : Demand3
demand_3 = record { plan = the_plan_is_right; portions = no_portion_is_refused; not_empty = there_is_an_outcome }
