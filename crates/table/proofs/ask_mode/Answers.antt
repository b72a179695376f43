use Rattle.std.proofs.Common.{rules}
use Prim.Native.Nat.{ℕ}
use native.Mathlib.Omega.{arith}
use mathlib.Core.Path.{◌≡◌, sym, ap, ◌∙◌}
use mathlib.Core.Bool.{cond}
use mathlib.Core.List.{List}
use borrow.Author.Tests.{le-leb, lt-leb}
use lib.Dec.{leb}
use Rattle.answer.specs.Said.{Said, refused, task}
use Rattle.answer.specs.Order.{first}
use Rattle.answer.proofs.Elses.{answered, went_on, passed_up, by_reason}
use Rattle.block.specs.Layout.{modes_in, figures_in}
use Rattle.table.specs.Order.{block_at, task_block, task_said, figures_said, ask_task_rows, ask_task_said, ask_mode_rows}
use Rattle.table.proofs.Rows.{ask_mode_first}
use Rattle.table.proofs.ask_mode.Goals as goal

pub returns-in_err-asked : goal.returns-in_err-asked
returns-in_err-asked c =
    let a = c.args in
    passed_up figures_said (ask_task_rows a.table.now a.task) _ _ (task_said (task_block a.table.now a.task)) _ (λ z. omega (arith, z))
    c.from_residual.ensures c.in_err-asked.ensures
    ∙ sym (ask_mode_first a.table.now a.task a.mode _)

-- past the rows before 19
past : (bytes : List ℕ) (i j E k p : ℕ) (s : Said) → task E k p ≡ ask_task_said bytes i
    → first (ask_mode_rows bytes i j) s ≡ cond (leb k j) (refused 19 0) s
past bytes i j E k p s q =
    let rows = ask_task_rows bytes i in
    let S = task_said (task_block bytes i) in
    let same = answered rows S (λ z. omega (arith, z)) q in
    let n : modes_in (task_block bytes i) ≡ k = cc in
    ask_mode_first bytes i j s ∙ went_on rows S (λ z. omega (arith, z)) q _ ∙ ap (λ (x : ℕ). cond (leb x j) (refused 19 0) s) n

pub returns-then-from-mode : goal.returns-then-from-mode
returns-then-from-mode c =
    let a = c.args in
    let g = c.in_ok-asked.asked in
    by_reason _ _ c.at.ensures ∙ sym (past a.table.now a.task a.mode g.elasticity g.modes g.permitted _ c.in_ok-asked.ensures ∙ rw (le-leb g.modes a.mode (search rules)))

pub returns : goal.returns
unfolding block_at
returns c =
    let a = c.args in
    let g = c.in_ok-asked.asked in
    ap figures_said c.figures_at.ensures ∙ ap (λ (b : List ℕ). figures_said (figures_in b a.mode)) c.task_block.ensures.bytes
    ∙ sym (past a.table.now a.task a.mode g.elasticity g.modes g.permitted _ c.in_ok-asked.ensures ∙ rw (lt-leb g.modes a.mode (search rules)))
