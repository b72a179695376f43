use Rattle.std.proofs.Common.{rules}
use Prim.Native.Nat.{ℕ}
use native.Mathlib.Omega.{arith}
use mathlib.Core.Path.{◌≡◌, sym, ap, ◌∙◌}
use mathlib.Core.Bool.{cond}
use mathlib.Core.List.{List}
use borrow.Author.Tests.{le-leb, lt-leb}
use lib.Dec.{leb}
use Rattle.answer.specs.Said.{Said, refused, header}
use Rattle.answer.specs.Order.{first}
use Rattle.answer.proofs.Elses.{answered, went_on, passed_up, by_reason}
use Rattle.block.specs.Layout.{tasks_in}
use Rattle.table.specs.Order.{block_at, header_block, header_said, task_said, table_rows, table_said, ask_task_rows}
use Rattle.table.specs.Said.{the_task}
use Rattle.table.proofs.Rows.{ask_task_first}
use Rattle.table.proofs.ask_task.Goals as goal

pub returns-in_err-header : goal.returns-in_err-header
returns-in_err-header c =
    let bytes = c.args.table.now in
    passed_up the_task (table_rows bytes) _ _ (header_said (header_block bytes)) _ (λ z. omega (arith, z)) c.from_residual.ensures c.in_err-header.ensures
    ∙ sym (ask_task_first bytes c.args.task _)

-- past the rows before 19
past : (bytes : List ℕ) (i n m H : ℕ) (s : Said) → header n m H ≡ table_said bytes → first (ask_task_rows bytes i) s ≡ cond (leb n i) (refused 19 0) s
past bytes i n m H s q =
    let rows = table_rows bytes in
    let S = header_said (header_block bytes) in
    let same = answered rows S (λ z. omega (arith, z)) q in
    let k : tasks_in (header_block bytes) ≡ n = cc in
    ask_task_first bytes i s ∙ went_on rows S (λ z. omega (arith, z)) q _ ∙ ap (λ (x : ℕ). cond (leb x i) (refused 19 0) s) k

pub returns-then-from-task : goal.returns-then-from-task
returns-then-from-task c =
    let g = c.in_ok-header.header in
    by_reason _ _ c.at.ensures ∙ sym (past c.args.table.now c.args.task g.tasks g.cores g.common _ c.in_ok-header.ensures ∙ rw (le-leb g.tasks c.args.task (search rules)))

pub returns : goal.returns
unfolding block_at
returns c =
    let g = c.in_ok-header.header in
    ap the_task c.read.ensures ∙ ap task_said c.task_block.ensures.bytes
    ∙ sym (past c.args.table.now c.args.task g.tasks g.cores g.common _ c.in_ok-header.ensures ∙ rw (lt-leb g.tasks c.args.task (search rules)))
