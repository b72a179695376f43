-- What a portion ends in, from its tests; and that its new progress counts. Assumes nothing.
use mathlib.Core.Path.{◌≡◌, refl, sym, ap, ◌∙◌}
use mathlib.Core.List.{List, [], ◌∷◌}
use Prim.Native.Nat.{ℕ, ◌-◌, ◌≤◌, ◌<◌}
use native.Mathlib.Omega.{arith}
use borrow.Author.Tests.{lt-ltb, le-ltb, ltb-false}
use lib.ListN.{length, get_or}
use Rattle.answer.specs.Said.{Said, refused, filled}
use Rattle.answer.specs.Order.{Row, row, Outcome, NoneGiven}
use Rattle.answer.proofs.Rows.{kind, none_append, none_first}
use Rattle.answer.proofs.Outcomes.{goes, behind, given, gone}
use Rattle.model.specs.Workspace.{advance, portion}
use Rattle.model.proofs.Values.{fill_filled}
use Rattle.table.specs.Order.{table_rows}
use Rattle.choices.specs.Tasks.{tasks_of_table, cores_of_table, cells_of_table}
use Rattle.choices.proofs.Tables.{cells_by_tasks}
use Rattle.portions.specs.Said.{Filling, said}
use Rattle.portions.specs.Portion.{own_rows, portion_rows, rule_of, FilledTo, Portioned}

module _ (bytes before : List ℕ) (p b : ℕ) where
  abbrev pub rest : Said
  rest = filled (advance (cells_of_table bytes) p b)

  abbrev pub after : List ℕ
  after = portion (rule_of bytes) (cells_of_table bytes) before p b

  abbrev pub Ends : Said → List ℕ → Type 0
  Ends s e = Outcome (portion_rows bytes (length before) p) rest before after s e

  -- ---- by its tests
  abbrev own : List Row
  own = own_rows (cells_of_table bytes) (length before) p

  module _ (none : NoneGiven (table_rows bytes)) where
    then_own : {s : Said} {e : List ℕ} → Outcome own rest before after s e → Ends s e
    unfolding portion_rows
    then_own o = behind (table_rows bytes) own rest before after none o

    pub short : length before < cells_of_table bytes → Ends (refused 15 0) before
    short h = then_own (given [] (row 16 0 _ ∷ []) 15 _ tt (lt-ltb _ _ h) refl)

    module _ (room : cells_of_table bytes ≤ length before) where
      pub above : cells_of_table bytes < p → Ends (refused 16 0) before
      above h = then_own (given (row 15 0 _ ∷ []) [] 16 _ (le-ltb _ _ room, tt) (lt-ltb _ _ h) refl)

      pub done : p ≤ cells_of_table bytes → {s : Said} {e : List ℕ} → s ≡ rest → e ≡ after → Ends s e
      done h q l = then_own (goes own rest before after (le-ltb _ _ room, (le-ltb _ _ h, tt)) q l)

  -- ---- a new progress
  pub record Went (q : ℕ) (e : List ℕ) : Type 0 where
    pub none : NoneGiven (table_rows bytes)
    pub room : cells_of_table bytes ≤ length before
    pub within : p ≤ cells_of_table bytes
    pub progress : q ≡ advance (cells_of_table bytes) p b
    pub cells : e ≡ after

  pub went : {s : Said} {e : List ℕ} (q : ℕ) → s ≡ filled q → Ends s e → Went q e
  unfolding portion_rows
  went q same o =
      let five : kind (filled q) ≡ 5 = refl in
      let g = gone (portion_rows bytes (length before) p) rest before after (λ z. omega (arith, ap kind same)) o in
      let n = none_append (table_rows bytes) own g.0 in
      let told : filled q ≡ filled (advance (cells_of_table bytes) p b) =
      sym same ∙ o.says ∙ none_first (portion_rows bytes (length before) p) rest g.0 in
      let is : q ≡ advance (cells_of_table bytes) p b = cc in
      record { none = n.0; room = ltb-false _ _ n.1.0; within = ltb-false _ _ n.1.1.0; progress = is; cells = g.1 }

  -- the cells below it hold their defined values where those below the progress given did
  counted : (q : ℕ) (e : List ℕ) → Went q e → FilledTo bytes before p → FilledTo bytes e q
  counted q e w f c low =
      let n = cells_by_tasks bytes in
      ap (λ (x : List ℕ). get_or x c 0) w.cells
      ∙ fill_filled (tasks_of_table bytes) (cores_of_table bytes) before p (advance (cells_of_table bytes) p b - p) f
      (omega (arith, n, w.within, w.progress)) (omega (arith, n, w.room)) c (omega (arith, w.within, w.progress))

  pub portioned : (r : Filling) (e : List ℕ) → Ends (said r) e → Portioned bytes before p b r e
  portioned r e o = record { outcome = o; counts = λ q same f. counted q e (went q same o) f }
