-- What is taken from cells that hold their defined values: the plan, or 14 and nothing fits. Assumes nothing.
use Prim.Native.Nat.{ℕ, ◌≤◌}
use native.Mathlib.Omega.{arith}
use mathlib.Core.Path.{◌≡◌, sym, ap, subst, ◌∙◌}
use mathlib.Core.Logic.{◌⊎◌, inl, inr}
use mathlib.Core.List.{List}
use lib.ListN.{length, get_or}
use Rattle.answer.proofs.Rows.{kind}
use Rattle.answer.proofs.Outcomes.{gone, unchanged}
use Rattle.model.specs.Workspace.{cell_count, cell_in, fill}
use Rattle.model.specs.Taking.{take_rows, take_modes, Right}
use Rattle.model.specs.inner.Filled.{take_said, RowsHold}
use Rattle.model.proofs.Values.{filled_holds}
use Rattle.model.proofs.Taken.{take_right}
use Rattle.model.proofs.Whole.{all_filled}
use Rattle.table.specs.Numbers.{numbers_in}
use Rattle.table.specs.inner.Accepted.{LawfulTable}
use Rattle.choices.specs.Tasks.{tasks_of_table, cores_of_table, cells_of_table}
use Rattle.choices.proofs.Tables.{tasks_length, cells_by_tasks, limits}
use Rattle.portions.specs.Portion.{rule_of, FilledTo}
use Rattle.taking.specs.Said.{Taken}
use Rattle.taking.specs.Take.{cell_of}
use Rattle.taking.specs.inner.From.{TookFrom}
use Rattle.whole.specs.Whole.{PlanGiven, NoPlanFits}

-- filled from 0 to W they do
pub all_hold : (bytes cells : List ℕ) → cells_of_table bytes ≤ length cells → (e : List ℕ) → e ≡ fill (rule_of bytes) cells 0 (cells_of_table bytes)
    → FilledTo bytes e (cells_of_table bytes)
all_hold bytes cells room e holds c low =
    let n = cells_by_tasks bytes in
    ap (λ (x : List ℕ). get_or x c 0) (holds ∙ ap (fill (rule_of bytes) cells 0) (sym n))
    ∙ all_filled (tasks_of_table bytes) (cores_of_table bytes) cells (omega (arith, n, room)) c (omega (arith, n))

module _ (bytes cells : List ℕ) (table : LawfulTable bytes) (f : FilledTo bytes cells (cells_of_table bytes)) where
  abbrev rows : ℕ → ℕ → ℕ
  rows = cell_of bytes cells

  holds : RowsHold rows (tasks_of_table bytes) (cores_of_table bytes)
  holds =
      subst (λ (n : ℕ). RowsHold (cell_in n (cores_of_table bytes) cells) (tasks_of_table bytes) (cores_of_table bytes)) (tasks_length (numbers_in bytes))
      (filled_holds (tasks_of_table bytes) (cores_of_table bytes) cells
      (subst (λ (n : ℕ). FilledTo bytes cells (cell_count n (cores_of_table bytes))) (sym (tasks_length (numbers_in bytes))) f))

  pub right : Right (tasks_of_table bytes) (cores_of_table bytes) (take_said rows (tasks_of_table bytes) (cores_of_table bytes)) (take_modes rows (tasks_of_table bytes) (cores_of_table bytes))
  right = take_right rows (tasks_of_table bytes) (cores_of_table bytes) (limits (numbers_in bytes) table.numbers) holds

  pub taken : (out : List ℕ) (r : Taken) (out' : List ℕ) → TookFrom bytes cells out r out'
      → ((s : List ℕ) × PlanGiven bytes s out r out') ⊎ NoPlanFits bytes out r out'
  taken out r out' took = go right
    where
      go : Right (tasks_of_table bytes) (cores_of_table bytes) (take_said rows (tasks_of_table bytes) (cores_of_table bytes)) (take_modes rows (tasks_of_table bytes) (cores_of_table bytes))
          → ((s : List ℕ) × PlanGiven bytes s out r out') ⊎ NoPlanFits bytes out r out'
      go (inl (p, e)) =
          let answer = took.says ∙ e in
          inl (
            take_modes rows (tasks_of_table bytes) (cores_of_table bytes),
            record {
              plan_is = p;
              answer = answer;
              modes = (gone (take_rows rows (tasks_of_table bytes) (cores_of_table bytes)) _ out _ (λ z. omega (arith, ap kind answer)) took).1;
            },
          )
      go (inr (n, e)) =
          let answer = took.says ∙ e in
          inr record {
            nothing = n;
            answer = answer;
            kept = unchanged (take_rows rows (tasks_of_table bytes) (cores_of_table bytes)) _ out _ (λ z. omega (arith, ap kind answer)) took;
          }
