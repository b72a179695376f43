use mathlib.Core.Path.{refl}
use mathlib.Core.List.{[], ◌++◌}
use native.Mathlib.Omega.{arith}
use lib.ListN.{length, drop}
use Rattle.answer.specs.Said.{written}
use Rattle.answer.proofs.Bools.{found}
use Rattle.answer.proofs.Elses.{passed, by_reason, left_as_it_was}
use Rattle.answer.proofs.Outcomes.{given, goes, behind}
use Rattle.block.specs.Tests.{wrong_limits}
use Rattle.block.specs.Whole.{header_bytes}
use Rattle.writer.specs.Order.{limit_rows, room_rows, write_header_rows}
use Rattle.writer.proofs.write_header.Goals as goal

pub returns-then-wrong_limits : goal.returns-then-wrong_limits
unfolding write_header_rows
returns-then-wrong_limits c =
    let h = c.args.header in
    given [] (room_rows (length c.args.out.now)) 5 (wrong_limits h.tasks h.cores h.common) tt (found c.wrong_limits.ensures c.if-wrong_limits.true)
    (by_reason _ _ c.at.ensures)

pub returns-in_err-test_room : goal.returns-in_err-test_room
unfolding write_header_rows
returns-in_err-test_room c =
    let h = c.args.header in
    let before = c.args.out.now in
    let after = header_bytes h.tasks h.cores h.common ++ drop 512 before in
    let room = room_rows (length before) in
    behind (limit_rows h.tasks h.cores h.common) room written before after (found c.wrong_limits.ensures c.if-wrong_limits.false, tt)
    (left_as_it_was (λ x. written) room _ _ written written before after (λ z. omega (arith, z)) c.from_residual.ensures c.in_err-test_room.ensures)

pub returns : goal.returns
unfolding write_header_rows
returns c =
    let h = c.args.header in
    let before = c.args.out.now in
    let room = room_rows (length before) in
    goes (limit_rows h.tasks h.cores h.common ++ room) written before (header_bytes h.tasks h.cores h.common ++ drop 512 before)
    (found c.wrong_limits.ensures c.if-wrong_limits.false, passed room written (λ z. omega (arith, z)) c.in_ok-test_room.ensures) refl
    c.fill_header.ensures
