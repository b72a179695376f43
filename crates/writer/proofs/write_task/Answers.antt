use Rattle.std.proofs.Common.{◌≡◌, refl, arith, ℕ, List, [], ◌++◌, length}
use Rattle.std.specs.Result.{IsErr, IsErrAnd}
use Rattle.answer.specs.Said.{written, refused, number_of}
use Rattle.answer.specs.declared.Refusal.{Refusal}
use Rattle.answer.specs.Order.{Row, first, afterwards, NoneGiven, Outcome}
use Rattle.answer.proofs.Rows.{append_none}
use Rattle.answer.proofs.Elses.{passed, left_as_it_was}
use Rattle.answer.proofs.Outcomes.{goes, joined, behind}
use Rattle.block.specs.Layout.{threes}
use Rattle.block.specs.Tests.{modes_rows}
use Rattle.block.specs.declared.Task.{Task}
use Rattle.writer.specs.Said.{Written, said}
use Rattle.writer.specs.Order.{number_rows, room_rows, write_task_rows}
use Rattle.writer.proofs.write_task.Goals as goal

-- the rows of the numbers
abbrev numbers : ℕ → ℕ → Task → List ℕ → List Row
numbers H number t figures = number_rows H number t.elasticity t.modes t.permitted (length figures)

-- an answer that is no refusal: none of its rows is given
fine : (A : List Row) → written ≡ first A written → NoneGiven A
fine A q = passed A written (λ z. omega (arith, z)) q

-- a refusal by the rows A, behind P: the buffer stays as it was
stopped : (P A B : List Row) (before after : List ℕ) (r : Refusal) (x : Written) → NoneGiven P → IsErr x × IsErrAnd x (λ e. e ≡ r)
    → refused (number_of r.reason) r.at ≡ first A written → Outcome (P ++ (A ++ B)) written before after (said x) before
stopped P A B before after r x none p q =
    behind P (A ++ B) written before after none
    (joined A B written before after
    (left_as_it_was (λ x. written) A r x written (first B written) before (afterwards B before after) (λ z. omega (arith, z)) p q))

pub returns-in_err-test_numbers : goal.returns-in_err-test_numbers
unfolding write_task_rows
returns-in_err-test_numbers c =
    let a = c.args in
    let more = modes_rows 0 a.common (threes a.figures.now) ++ room_rows (length a.out.now) in
    stopped [] (numbers a.common a.number a.task a.figures.now) more _ _ _ _ tt c.from_residual.ensures c.in_err-test_numbers.ensures

pub returns-in_err-test_modes : goal.returns-in_err-test_modes
unfolding write_task_rows
returns-in_err-test_modes c =
    let a = c.args in
    let rows = numbers a.common a.number a.task a.figures.now in
    let modes = modes_rows 0 a.common (threes a.figures.now) in
    stopped rows modes (room_rows (length a.out.now)) _ _ _ _ (fine rows c.in_ok-test_numbers.ensures)
    c.from_residual-in_err-test_modes.ensures c.in_err-test_modes.ensures

pub returns-in_err-test_room : goal.returns-in_err-test_room
unfolding write_task_rows
returns-in_err-test_room c =
    let a = c.args in
    let rows = numbers a.common a.number a.task a.figures.now in
    let modes = modes_rows 0 a.common (threes a.figures.now) in
    stopped (rows ++ modes) (room_rows (length a.out.now)) [] _ _ _ _
    (append_none rows modes (fine rows c.in_ok-test_numbers.ensures) (fine modes c.in_ok-test_modes.ensures))
    c.from_residual-in_err-test_room.ensures c.in_err-test_room.ensures

-- behind all of them the block is written
pub returns : goal.returns
unfolding write_task_rows
returns c =
    let a = c.args in
    let rows = numbers a.common a.number a.task a.figures.now in
    let modes = modes_rows 0 a.common (threes a.figures.now) in
    let room = room_rows (length a.out.now) in
    goes (rows ++ (modes ++ room)) written _ _
    (append_none rows (modes ++ room) (fine rows c.in_ok-test_numbers.ensures)
    (append_none modes room (fine modes c.in_ok-test_modes.ensures) (fine room c.in_ok-test_room.ensures)))
    refl c.fill_task.ensures
