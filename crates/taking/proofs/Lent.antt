-- The tests of the table and of what is lent: what each way out says, and what holds past them. Assumes nothing.
use Prim.Native.Nat.{ℕ, ◌≤◌, ◌<◌}
use native.Mathlib.Omega.{arith}
use mathlib.Core.Path.{◌≡◌, sym, ap, ◌∙◌}
use mathlib.Core.List.{List, [], ◌∷◌}
use borrow.Author.Tests.{lt-ltb, le-ltb, ltb-false}
use lib.Dec.{ltb}
use Rattle.std.specs.Prelude.{Result}
use Rattle.std.specs.Result.{IsErr, IsErrAnd}
use Rattle.answer.specs.Said.{Said, refused, header, number_of, said_of}
use Rattle.answer.specs.declared.Refusal.{Refusal}
use Rattle.answer.specs.Order.{Row, row, first, NoneGiven}
use Rattle.answer.proofs.Rows.{kind, stop, first_append, append_none, none_append, none_first}
use Rattle.answer.proofs.Elses.{passed, answered, as_it_was}
use Rattle.block.specs.Bytes.{Bytes}
use Rattle.block.specs.declared.Header.{Header}
use Rattle.table.specs.Said.{the_header}
use Rattle.table.specs.Order.{header_block, header_said, table_rows, table_said}
use Rattle.table.specs.Numbers.{numbers_in}
use Rattle.table.specs.inner.Accepted.{LawfulTable, LawfulWith, Plannable}
use Rattle.table.proofs.Accepted.{accepted_with, plannable}
use Rattle.choices.specs.Tasks.{cells_of_table}
use Rattle.taking.specs.Take.{lent_rows}

module _ (bytes : List ℕ) (cells out : ℕ) where
  abbrev own : List Row
  own = row 15 0 (ltb cells (cells_of_table bytes)) ∷ row 15 0 (ltb out (numbers_in bytes).tasks) ∷ []

  abbrev front : Said
  front = header_said (header_block bytes)

  -- what `check_lent` says
  abbrev pub Says : Said → Type 0
  Says s = s ≡ first (lent_rows bytes cells out) front

  then_own : {s : Said} → s ≡ first (table_rows bytes) (first own front) → Says s
  unfolding lent_rows
  then_own e = e ∙ sym (first_append (table_rows bytes) own front)

  -- whatever is no header and is said of the table is said of the call; so is a refusal that `?` passes up
  pub turned_away : {s : Said} → (kind s ≡ 1 → ⊥) → s ≡ table_said bytes → Says s
  turned_away other q = then_own (stop (table_rows bytes) front (first own front) other q)

  pub sent_up : (r : Refusal) (x : Result Header Refusal) → IsErr x × IsErrAnd x (λ e. e ≡ r)
      → refused (number_of r.reason) r.at ≡ table_said bytes → Says (said_of the_header x)
  sent_up r x p q =
      let e = as_it_was the_header r x p in turned_away (λ z. omega (arith, ap kind e, z)) (e ∙ q)

  module _ (none : NoneGiven (table_rows bytes)) where
    past : {s : Said} → s ≡ first own front → Says s
    past e = then_own (e ∙ sym (none_first (table_rows bytes) (first own front) none))

    pub short_workspace : cells < cells_of_table bytes → Says (refused 15 0)
    short_workspace h = past (sym (rw (lt-ltb cells (cells_of_table bytes) h)))

    module _ (room : cells_of_table bytes ≤ cells) where
      pub short_output : out < (numbers_in bytes).tasks → Says (refused 15 0)
      short_output h = past (sym (rw (le-ltb cells (cells_of_table bytes) room, lt-ltb out (numbers_in bytes).tasks h)))

      pub enough : {s : Said} → (numbers_in bytes).tasks ≤ out → s ≡ front → Says s
      enough space e = past (e ∙ sym (rw (le-ltb cells (cells_of_table bytes) room, le-ltb out (numbers_in bytes).tasks space)))

  -- none of their rows is given, both ways
  pub none_all : NoneGiven (table_rows bytes) → cells_of_table bytes ≤ cells → (numbers_in bytes).tasks ≤ out → NoneGiven (lent_rows bytes cells out)
  unfolding lent_rows
  none_all none room space = append_none (table_rows bytes) own none (le-ltb _ _ room, (le-ltb _ _ space, tt))

  pub all_none : NoneGiven (lent_rows bytes cells out) → NoneGiven (table_rows bytes) × (cells_of_table bytes ≤ cells) × ((numbers_in bytes).tasks ≤ out)
  unfolding lent_rows
  all_none none =
      let p = none_append (table_rows bytes) own none in
      (p.0, ltb-false _ _ p.1.0, ltb-false _ _ p.1.1.0)

  -- past them the table is lawful and can be planned over, with room for what it needs
  pub record Lent (n m H : ℕ) : Type 0 where
    pub table : LawfulTable bytes
    pub lawful : Plannable bytes n m H
    pub none : NoneGiven (table_rows bytes)
    pub room : cells_of_table bytes ≤ cells
    pub space : (numbers_in bytes).tasks ≤ out

  -- the table's header then, by which it was checked
  pub header_of : (n m H : ℕ) → Says (header n m H) → header n m H ≡ table_said bytes
  header_of n m H q =
      answered (lent_rows bytes cells out) front (λ z. omega (arith, z)) q
      ∙ sym (none_first (table_rows bytes) front (all_none (passed (lent_rows bytes cells out) front (λ z. omega (arith, z)) q)).0)

  pub lent : (n m H : ℕ) → Bytes bytes → Says (header n m H) → Lent n m H
  lent n m H b q =
      let p = all_none (passed (lent_rows bytes cells out) front (λ z. omega (arith, z)) q) in
      let w : LawfulWith bytes n m H = accepted_with bytes n m H b (header_of n m H q) in
      record { table = w.table; lawful = plannable w; none = p.0; room = p.1; space = p.2 }

  -- for a caller past its `?`: by the header that was answered
  pub called : (h : Header) → Bytes bytes → Says (the_header h) → Lent h.tasks h.cores h.common
  called h b q = lent h.tasks h.cores h.common b q
