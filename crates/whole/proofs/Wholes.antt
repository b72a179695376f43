-- Planning in one call: the outcome at each way out, from the tests that lead there. Assumes nothing.
use Prim.Native.Nat.{ℕ, ◌<◌}
use native.Mathlib.Omega.{arith}
use mathlib.Core.Path.{◌≡◌, refl, ap, ◌∙◌}
use mathlib.Core.Logic.{◌⊎◌, inl, inr}
use mathlib.Core.Bool.{true, false}
use mathlib.Core.List.{List}
use borrow.Author.Tests.{leb-true, leb-false}
use lib.Dec.{leb}
use lib.ListN.{length}
use Rattle.std.specs.Result.{IsErr, IsErrAnd}
use Rattle.answer.specs.Said.{refused, number_of}
use Rattle.answer.specs.declared.Refusal.{Refusal}
use Rattle.answer.specs.Order.{NoneGiven}
use Rattle.answer.proofs.Rows.{kind, stop}
use Rattle.answer.proofs.Elses.{as_it_was}
use Rattle.model.specs.Cells.{mark}
use Rattle.model.specs.Workspace.{fill}
use Rattle.model.specs.inner.Fitting.{least_cores}
use Rattle.model.proofs.Fitting.{nothing_fits}
use Rattle.table.specs.Order.{header_block, header_said}
use Rattle.table.specs.inner.Accepted.{LawfulTable}
use Rattle.choices.specs.Tasks.{tasks_of_table, cores_of_table, cells_of_table}
use Rattle.portions.specs.Portion.{rule_of}
use Rattle.taking.specs.Said.{Taken, the_plan, said}
use Rattle.taking.specs.Take.{lent_rows}
use Rattle.taking.specs.inner.From.{TookFrom}
use Rattle.taking.proofs.Lent.{Says, Lent, none_all}
use Rattle.whole.specs.Whole.{PlanGiven, NoPlanFits, PlannedWhole}
use Rattle.whole.proofs.Filled.{all_hold, taken}

module _ (bytes cells out : List ℕ) where
  -- the table or what is lent is refused: whatever is answered that says so and is no header, and so a refusal that `?` passes up
  pub turned_away : (r : Taken) → (kind (said r) ≡ 1 → ⊥) → Says bytes (length cells) (length out) (said r) → PlannedWhole bytes cells out r cells out
  turned_away r other q =
      inl record {
        answer = λ rest. stop (lent_rows bytes (length cells) (length out)) (header_said (header_block bytes)) rest other q;
        cells_kept = refl;
        out_kept = refl;
      }

  pub sent_up : (r : Refusal) (x : Taken) → IsErr x × IsErrAnd x (λ e. e ≡ r)
      → Says bytes (length cells) (length out) (refused (number_of r.reason) r.at) → PlannedWhole bytes cells out x cells out
  sent_up r x p q =
      let e = as_it_was the_plan r x p in turned_away x (λ z. omega (arith, ap kind e, z)) (e ∙ q)

  -- both are accepted
  module _ {n m H : ℕ} (l : Lent bytes (length cells) (length out) n m H) where
    abbrev table : LawfulTable bytes
    table = l.table

    none_given : NoneGiven (lent_rows bytes (length cells) (length out))
    none_given = none_all bytes (length cells) (length out) l.none l.room l.space

    below : cores_of_table bytes < mark
    below = omega (arith, table.numbers.header.cores_high)

    -- nothing fits
    pub unfit : (r : Taken) → said r ≡ refused 14 0 → leb (least_cores (tasks_of_table bytes)) (cores_of_table bytes) ≡ false
        → PlannedWhole bytes cells out r cells out
    unfit r q e =
        let more = leb-false (least_cores (tasks_of_table bytes)) (cores_of_table bytes) e in
        inr record {
          none = none_given;
          ends = inr (record { nothing = (nothing_fits (tasks_of_table bytes) (cores_of_table bytes) below).1 more; answer = q; kept = refl }, refl);
        }

    -- every cell is filled, and the plan taken
    module _ (e : List ℕ) (holds : e ≡ fill (rule_of bytes) cells 0 (cells_of_table bytes)) where
      pub planned : (r : Taken) (out' : List ℕ) → leb (least_cores (tasks_of_table bytes)) (cores_of_table bytes) ≡ true → TookFrom bytes e out r out'
          → PlannedWhole bytes cells out r e out'
      planned r out' fit o =
          go (taken bytes e table (all_hold bytes cells l.room e holds) out r out' o)
        where
          go : ((s : List ℕ) × PlanGiven bytes s out r out') ⊎ NoPlanFits bytes out r out' → PlannedWhole bytes cells out r e out'
          go (inl (s, g)) = inr record { none = none_given; ends = inl (s, g, holds) }
          go (inr g) =
              absurd (omega (arith, leb-true (least_cores (tasks_of_table bytes)) (cores_of_table bytes) fit, (nothing_fits (tasks_of_table bytes) (cores_of_table bytes) below).0 g.nothing))
