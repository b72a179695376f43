-- The outcome at each way out of taking, from the tests that lead there. Assumes nothing.
use Prim.Native.Nat.{ℕ, ◌+◌, ◌*◌, ◌≤◌, ◌<◌}
use native.Mathlib.Nat.{sub-zero}
use native.Mathlib.Omega.{arith}
use mathlib.Core.Path.{◌≡◌, sym, ap, ap₂, ◌∙◌}
use mathlib.Core.Bool.{Bool, true, false, not}
use mathlib.Core.List.{List, [], ◌∷◌, ◌++◌}
use mathlib.Core.Logic.{◌≢◌}
use borrow.Author.Tests.{lt-ltb, le-ltb, eq-eqb, ne_eqb}
use lib.Dec.{ltb, eqb}
use lib.ListN.{length}
use Rattle.std.proofs.Common.{None, Some}
use Rattle.arrayvec.specs.ArrayVec.{ArrayVec}
use Rattle.std.specs.Result.{IsErr, IsErrAnd}
use Rattle.answer.specs.Said.{Said, refused, plan, number_of}
use Rattle.answer.specs.declared.Refusal.{Refusal}
use Rattle.answer.specs.Order.{Row, row, first, afterwards, Outcome}
use Rattle.answer.proofs.Rows.{kind}
use Rattle.answer.proofs.Elses.{as_it_was}
use Rattle.answer.proofs.Outcomes.{goes, joined, behind, given, stops}
use Rattle.model.specs.Cells.{mark}
use Rattle.model.specs.Taking.{used, trace, all_keep, take_rows, take_modes}
use Rattle.model.proofs.Taking.{used_cong}
use Rattle.cells.specs.inner.Rows.{row_reads}
use Rattle.table.specs.Order.{header_block, header_said}
use Rattle.table.specs.Numbers.{numbers_in}
use Rattle.table.specs.inner.Accepted.{Plannable}
use Rattle.choices.specs.Tasks.{tasks_of_table, cores_of_table, cells_of_table}
use Rattle.choices.proofs.Tables.{count_is}
use Rattle.taking.specs.Said.{Taken, the_plan, said}
use Rattle.taking.specs.Take.{cell_of, lent_rows, progress_rows, taking_rows, with_modes}
use Rattle.taking.specs.inner.Traces.{TracedFrom}
use Rattle.taking.proofs.Tracing.{row_of, row_is}
use Rattle.taking.proofs.Lent.{Says, Lent, none_all}

module _ (bytes cells : List ℕ) (p : ℕ) (before : List ℕ) where
  abbrev Rows : ℕ → ℕ → ℕ
  Rows = cell_of bytes cells

  abbrev M : ℕ
  M = cores_of_table bytes

  -- the rows of the table and of what is lent, those of the progress, and those of the cells
  abbrev Room : List Row
  Room = lent_rows bytes (length cells) (length before)

  abbrev Progress : List Row
  Progress = progress_rows (cells_of_table bytes) p

  abbrev Own : List Row
  Own = take_rows Rows (tasks_of_table bytes) M

  -- what is answered where none is given
  abbrev Rest : Said
  Rest = plan (used (Rows 0) M) (Rows 0 M)

  abbrev After : List ℕ
  After = with_modes (take_modes Rows (tasks_of_table bytes) M) before

  abbrev pub Ends : Said → List ℕ → Type 0
  Ends s e = Outcome (taking_rows bytes cells p (length before)) Rest before After s e

  -- and past the rows of the progress
  abbrev pub From : Said → List ℕ → Type 0
  From s e = Outcome Own Rest before After s e

  -- the table or what is lent is refused, and so is taking, for the same reason: whatever is said of them that is no header, and so a
  -- refusal that `?` passes up
  pub turned_away : {s : Said} → (kind s ≡ 1 → ⊥) → Says bytes (length cells) (length before) s → Ends s before
  unfolding taking_rows
  turned_away other q =
      let further = Progress ++ Own in
      joined Room further Rest before After
      (stops Room (header_said (header_block bytes)) (first further Rest) before (afterwards further before After) other q)

  pub sent_up : (r : Refusal) (x : Taken) → IsErr x × IsErrAnd x (λ e. e ≡ r)
      → Says bytes (length cells) (length before) (refused (number_of r.reason) r.at) → Ends (said x) before
  sent_up r x p q =
      let e = as_it_was the_plan r x p in turned_away (λ z. omega (arith, ap kind e, z)) (e ∙ q)

  module _ {n m H : ℕ} (l : Lent bytes (length cells) (length before) n m H) where
    -- both are accepted
    past_room : {s : Said} {e : List ℕ} → Outcome (Progress ++ Own) Rest before After s e → Ends s e
    unfolding taking_rows
    past_room o = behind Room (Progress ++ Own) Rest before After (none_all bytes (length cells) (length before) l.none l.room l.space) o

    W : cells_of_table bytes ≡ (n + 1) * (m + 1)
    W = count_is l.lawful

    pub above : {s : Said} → s ≡ refused 16 0 → (n + 1) * (m + 1) < p → Ends s before
    above q h = past_room (given [] _ 16 _ tt (lt-ltb (cells_of_table bytes) p (rw W h)) q)

    module _ (high : p ≤ (n + 1) * (m + 1)) where
      not_above : ltb (cells_of_table bytes) p ≡ false
      not_above = le-ltb (cells_of_table bytes) p (rw W high)

      pub below : {s : Said} → s ≡ refused 17 0 → p < (n + 1) * (m + 1) → Ends s before
      below q h = past_room (given (row 16 0 _ ∷ []) _ 17 _ (not_above, tt) (lt-ltb p (cells_of_table bytes) (rw W h)) q)

      -- what is taken is what the call takes
      pub taken : {s : Said} {e : List ℕ} → (n + 1) * (m + 1) ≤ p → From s e → Ends s e
      taken low o = past_room (behind Progress Own Rest before After (not_above, (le-ltb p (cells_of_table bytes) (rw W low), tt)) o)

-- ---- past those tests
module _ {bytes : List ℕ} {n m H : ℕ} (L : Plannable bytes n m H) (cells before : List ℕ)
    (cost : ℕ) (cost_is : cost ≡ row_reads (row_of cells (n * (m + 1)) m) m) where
  -- row 0 starts at n * (m + 1)
  top : (c : ℕ) → c ≤ m → cell_of bytes cells 0 c ≡ row_reads (row_of cells (n * (m + 1)) m) c
  top = row_is (numbers_in bytes).tasks (cores_of_table bytes) n m 0 (n * (m + 1)) cells L.tasks L.cores (rw sub-zero)

  last : cost ≡ cell_of bytes cells 0 (cores_of_table bytes)
  last = cost_is ∙ sym (top m (omega arith)) ∙ ap (cell_of bytes cells 0) (sym L.cores)

  pub marked : {s : Said} → s ≡ refused 14 0 → cost ≡ mark → From bytes cells 0 before s before
  unfolding take_rows
  marked q e = given [] _ 14 _ tt (eq-eqb _ _ (sym last ∙ e)) q

  module _ (e : cost ≢ mark) (u : ℕ) (u_is : u ≡ used (row_reads (row_of cells (n * (m + 1)) m)) m) where
    unmarked : eqb (cell_of bytes cells 0 (cores_of_table bytes)) mark ≡ false
    unmarked = ne_eqb _ _ (λ x. e (last ∙ x))

    column : u ≡ used (cell_of bytes cells 0) (cores_of_table bytes)
    column = u_is ∙ used_cong _ (cell_of bytes cells 0) m (λ c low. sym (top c low)) ∙ ap (used (cell_of bytes cells 0)) (sym L.cores)

    all_is : (b : Bool) → all_keep (cell_of bytes cells) 0 (tasks_of_table bytes) u ≡ b
        → not (all_keep (cell_of bytes cells) 0 (tasks_of_table bytes) (used (cell_of bytes cells 0) (cores_of_table bytes))) ≡ not b
    all_is b f = ap not (ap (all_keep (cell_of bytes cells) 0 (tasks_of_table bytes)) (sym column) ∙ f)

    pub unkept : {s : Said} → s ≡ refused 18 0 → TracedFrom bytes cells u None → From bytes cells 0 before s before
    unfolding take_rows
    unkept q f =
        given (row 14 0 (eqb (cell_of bytes cells 0 (cores_of_table bytes)) mark) ∷ []) [] 18 _ (unmarked, tt) (all_is false f) q

    pub planned : (modes : ArrayVec ℕ) {s : Said} {out : List ℕ} → TracedFrom bytes cells u (Some modes)
        → s ≡ plan u cost → out ≡ with_modes modes.items before
        → From bytes cells 0 before s out
    unfolding take_rows
    planned modes f q o =
        goes (Own bytes cells 0 before) (Rest bytes cells 0 before) before (After bytes cells 0 before)
        (unmarked, (all_is true f.0, tt))
        (q ∙ ap₂ plan column last)
        (o ∙ ap (λ (x : List ℕ). with_modes x before) (f.1 ∙ ap (trace (cell_of bytes cells) 0 (tasks_of_table bytes)) column))
