-- Each public promise settles its outcome: the answer, and every cell of the lent workspace. At most one is allowed, and of a portion at
-- least one. Assumes nothing.
use Prim.Native.Nat.{ℕ, ◌-◌, ◌^◌, ◌<◌}
use native.Mathlib.Omega.{arith}
use mathlib.Core.List.{List}
use denote.Builtin.{u32}
use denote.Struct.Field.{u32-field}
use denote.Struct.Laws.{u32-laws, u32-copy}
use denote.Param.Laws.{Laws, Told, of_field, field_told}
use denote.Param.Shared.{copy_shared}
use mathlib.Core.Path.{◌≡◌, refl, sym, ap, ◌∙◌}
use lib.ListN.{length}
use Rattle.answer.specs.Said.{filled}
use Rattle.answer.specs.One.{One, AtLeastOne}
use Rattle.std.specs.Prelude.{Ok}
use Rattle.answer.proofs.Rows.{none_append, numbers}
use Rattle.answer.proofs.Settled.{said_one}
use Rattle.answer.proofs.Held.{Held, some_refusal}
use Rattle.answer.proofs.Outcomes.{outcome_one}
use Rattle.answer.proofs.Each.{Fits, fits_front, Some, some, some_long}
use Rattle.model.specs.Workspace.{advance, portion}
use Rattle.model.proofs.Fills.{fill_length}
use Rattle.block.specs.Bytes.{Bytes}
use Rattle.table.specs.Order.{table_rows}
use Rattle.table.proofs.Refusals.{front_fits, task_fits}
use Rattle.table.proofs.Accepted.{lawful}
use Rattle.choices.specs.Tasks.{cells_of_table}
use Rattle.choices.proofs.Tables.{cells_most}
use Rattle.portions.specs.Said.{Filling, said}
use Rattle.portions.specs.Portion.{own_rows, portion_rows, rule_of}
use Rattle.portions.proofs.Refusals.{own_numbers, each_portion}
use Rattle.portions.proofs.Ends.{portioned}
use Rattle.portions.proofs.fill_rows.Kinds as fill_rows_kinds
use Rattle.portions.proofs.fill_rows.Reads as fill_rows_reads
use Rattle.portions.proofs.portion.Kinds as portion_kinds
use Rattle.portions.proofs.portion.Reads as portion_reads

pub fill_rows_one : One fill_rows_kinds.ps fill_rows_kinds.r fill_rows_reads.Post
fill_rows_one κs a x y s t p q = (refl, ap (λ (d : List ℕ). (tt, (d, (tt, (tt, tt))))) (p ∙ sym q))

-- what is said of an answer is the whole of it
pub one_answer : (x y : Filling) → said x ≡ said y → x ≡ y
one_answer = said_one filled (λ p q e. ap (λ s. (numbers s).0) e) (λ p z. omega (arith, z))

pub portion_one : One portion_kinds.ps portion_kinds.r portion_reads.Post
portion_one κs a x y s t p q =
    let o = outcome_one p.outcome q.outcome in (one_answer x y o.0, ap (λ (d : List ℕ). (tt, (d, (tt, (tt, tt))))) o.1)

-- ---- at least one: the new progress is held by the type of 32 bits
abbrev progress_laws : Laws u32
progress_laws = of_field u32-field u32-laws refl (copy_shared u32-field u32-copy)

abbrev progress_told : Told u32
progress_told = field_told u32-field u32-laws

abbrev pub HeldFilling : Filling → Type 0
HeldFilling = Held u32 progress_laws progress_told

pub some_filled : (p : ℕ) → p < 2 ^ 32 → (x : Filling) × HeldFilling x × (said x ≡ filled p)
some_filled p h = (Ok p, (_, (refl, (_, (refl, ((refl, h), tt))))), refl)

module _ (bytes cells : List ℕ) (p b : ℕ) (is : Bytes bytes) where
  abbrev after : List ℕ
  after = portion (rule_of bytes) (cells_of_table bytes) cells p b

  some_portion : Some Fits said HeldFilling (portion_rows bytes (length cells) p) (filled (advance (cells_of_table bytes) p b)) cells after
  unfolding portion_rows
  some_portion =
      some Fits said HeldFilling (portion_rows bytes (length cells) p) (filled (advance (cells_of_table bytes) p b)) cells after
      (each_portion Fits bytes (front_fits bytes is) (task_fits bytes is) (fits_front own_numbers tt) (length cells) p)
      (some_refusal u32 progress_laws progress_told filled)
      (λ none.
      let table = (none_append (table_rows bytes) (own_rows (cells_of_table bytes) (length cells) p) none).0 in
      some_filled (advance (cells_of_table bytes) p b) (omega (arith, cells_most bytes (lawful bytes is table))))

pub portion_some : AtLeastOne portion_kinds.ps portion_kinds.r (λ κs a. Bytes a.0.now) portion_reads.Post
portion_some κs (table, (cells, (p, (b, rest)))) is =
    let o = some_portion table.now cells.now p b is in
    let W = cells_of_table table.now in
    let long = some_long Fits said HeldFilling (portion_rows table.now (length cells.now) p) (filled (advance W p b)) cells.now (after table.now cells.now p b is) o
    (λ none. fill_length (rule_of table.now) cells.now p (advance W p b - p)) in (
      o.answer,
      (tt, (o.left, (tt, (tt, tt)))),
      o.held,
      (tt, (long, (tt, (tt, tt)))),
      portioned table.now cells.now p b o.answer o.left o.allowed,
    )
