-- Each public promise settles its outcome: the answer, and every byte of the lent buffer. At most one is allowed, and at least one.
-- Assumes nothing.
use Prim.Native.Nat.{ℕ, ◌≤◌}
use native.Mathlib.Omega.{arith}
use mathlib.Core.List.{List, [], ◌∷◌, ◌++◌}
use mathlib.Core.Path.{◌≡◌, refl, ap}
use borrow.Author.Tests.{ltb-false}
use lib.ListN.{length, drop, length-append, length-drop}
use Rattle.answer.specs.Said.{written}
use Rattle.answer.specs.Order.{Row, NoneGiven}
use Rattle.answer.specs.One.{One, AtLeastOne}
use Rattle.answer.proofs.Outcomes.{outcome_one}
use mir.Val.{vunit}
use denote.Builtin.{unit}
use denote.Struct.Field.{unit-field}
use denote.Struct.Laws.{unit-laws, unit-copy}
use denote.Param.Laws.{Laws, Told, of_field, field_told}
use denote.Param.Shared.{copy_shared}
use Rattle.std.specs.Prelude.{Ok}
use Rattle.answer.proofs.Settled.{said_one}
use Rattle.answer.proofs.Held.{Held, some_refusal}
use Rattle.answer.proofs.Each.{Each, Fits, fits_front, Some, some, some_long}
use Rattle.block.specs.Whole.{header_bytes, task_bytes}
use Rattle.block.proofs.Round.{header_length, task_length}
use Rattle.writer.specs.Said.{Written, said}
use Rattle.writer.specs.Order.{write_header_rows, write_task_rows}
use Rattle.writer.proofs.Refusals.{header_numbers, task_numbers, each_header, each_task, task_passed}
use Rattle.writer.proofs.write_header.Kinds as write_header_kinds
use Rattle.writer.proofs.write_header.Reads as write_header_reads
use Rattle.writer.proofs.write_task.Kinds as write_task_kinds
use Rattle.writer.proofs.write_task.Reads as write_task_reads

-- what is said of an answer is the whole of it
pub one_answer : (x y : Written) → said x ≡ said y → x ≡ y
one_answer = said_one (λ x. written) (λ x y e. refl) (λ x z. omega (arith, z))

pub write_header_one : One write_header_kinds.ps write_header_kinds.r write_header_reads.Post
write_header_one κs a x y s t p q =
    let o = outcome_one p q in (one_answer x y o.0, ap (λ (d : List ℕ). (tt, (d, tt))) o.1)

pub write_task_one : One write_task_kinds.ps write_task_kinds.r write_task_reads.Post
write_task_one κs a x y s t p q =
    let o = outcome_one p q in (one_answer x y o.0, ap (λ (d : List ℕ). (tt, (tt, (tt, (tt, (d, tt)))))) o.1)

-- ---- at least one: that a block is written is held by the unit type
abbrev unit_laws : Laws unit
unit_laws = of_field unit-field unit-laws refl (copy_shared unit-field unit-copy)

abbrev unit_told : Told unit
unit_told = field_told unit-field unit-laws

abbrev pub HeldWritten : Written → Type 0
HeldWritten = Held unit unit_laws unit_told

pub some_done : (x : Written) × HeldWritten x × (said x ≡ written)
some_done = (Ok tt, (vunit ∷ [], (refl, ((vunit ∷ [], tt), (refl, (refl, tt))))), refl)

-- a block at the front of a buffer with room
module _ (A : List Row) (block before : List ℕ) (each : Each Fits A) (whole : NoneGiven A → (length block ≡ 512) × (512 ≤ length before)) where
  some_written : Some Fits said HeldWritten A written before (block ++ drop 512 before)
  some_written = some Fits said HeldWritten A written before (block ++ drop 512 before) each
      (some_refusal unit unit_laws unit_told (λ x. written)) (λ none. some_done)

  as_long : length some_written.left ≡ length before
  as_long =
      some_long Fits said HeldWritten A written before (block ++ drop 512 before) some_written
      (λ none. let w = whole none in simp (length-append, length-drop) (omega (arith, w)))

header_whole : (n m H room : ℕ) → NoneGiven (write_header_rows n m H room) → (length (header_bytes n m H) ≡ 512) × (512 ≤ room)
unfolding write_header_rows
header_whole n m H room none = (header_length n m H, ltb-false _ _ none.1.0)

pub write_header_some : AtLeastOne write_header_kinds.ps write_header_kinds.r (λ κs a. Unit {0}) write_header_reads.Post
write_header_some κs (h, (out, rest)) lent =
    let n = h.tasks in
    let m = h.cores in
    let H = h.common in
    let rows = write_header_rows n m H (length out.now) in
    let each = each_header Fits (fits_front header_numbers tt) n m H (length out.now) in
    let whole = header_whole n m H (length out.now) in
    let o = some_written rows (header_bytes n m H) out.now each whole in (
      o.answer,
      (tt, (o.left, tt)),
      o.held,
      (tt, (as_long rows (header_bytes n m H) out.now each whole, tt)),
      o.allowed,
    )

pub write_task_some : AtLeastOne write_task_kinds.ps write_task_kinds.r (λ κs a. Unit {0}) write_task_reads.Post
write_task_some κs (H, (number, (t, (figures, (out, rest))))) lent =
    let E = t.elasticity in
    let modes = t.modes in
    let permitted = t.permitted in
    let rows = write_task_rows H number E modes permitted figures.now (length out.now) in
    let block = task_bytes number E modes permitted figures.now in
    let each = each_task Fits (fits_front task_numbers tt) H number E modes permitted figures.now (length out.now) in
    let whole : NoneGiven rows → (length block ≡ 512) × (512 ≤ length out.now) =
    λ none.
    let p = task_passed H number E modes permitted figures.now (length out.now) none in
    (task_length number E modes permitted figures.now p.1, p.0) in
    let o = some_written rows block out.now each whole in (
      o.answer,
      (tt, (tt, (tt, (tt, (o.left, tt))))),
      o.held,
      (tt, (tt, (tt, (tt, (as_long rows block out.now each whole, tt))))),
      o.allowed,
    )
