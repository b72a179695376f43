use mathlib.Core.Path.{◌≡◌, sym, ap, ◌∙◌}
use mathlib.Core.List.{List}
use mathlib.Core.Bool.{false, cond}
use Prim.Native.Nat.{ℕ}
use native.Mathlib.Omega.{arith}
use Rattle.answer.specs.Said.{Said, refused, header}
use Rattle.answer.specs.Order.{first}
use Rattle.answer.proofs.Bools.{found}
use Rattle.answer.proofs.Elses.{answered, went_on, passed_up, by_reason}
use Rattle.block.specs.Layout.{tasks_in}
use Rattle.table.specs.Said.{the_header}
use Rattle.table.specs.Order.{block_at, header_block, header_rows, header_said, wrong_length, other_length, front_rows}
use Rattle.table.proofs.Rows.{front_first}
use Rattle.table.proofs.check_front.Goals as goal

pub returns-then-wrong_length : goal.returns-then-wrong_length
returns-then-wrong_length c =
    by_reason _ _ c.at.ensures ∙ sym (front_first c.args.table.now _ ∙ rw (found c.wrong_length.ensures c.if-wrong_length.true))

-- past 1
front : (bytes : List ℕ) (s : Said) → wrong_length bytes ≡ false
    → first (front_rows bytes) s ≡ first (header_rows (header_block bytes)) (cond (other_length bytes (tasks_in (header_block bytes))) (refused 7 0) s)
front bytes s e = front_first bytes s ∙ rw e

-- what was read is the header block
header_read : (x : Said) (bytes block : List ℕ) → block ≡ block_at 0 bytes → x ≡ first (header_rows block) (header_said block)
    → x ≡ first (header_rows (header_block bytes)) (header_said (header_block bytes))
header_read x bytes block e q = q ∙ ap (λ (b : List ℕ). first (header_rows b) (header_said b)) e

pub returns-in_err-header : goal.returns-in_err-header
unfolding block_at
returns-in_err-header c =
    let bytes = c.args.table.now in
    let block = header_block bytes in
    passed_up the_header (header_rows block) _ _ (header_said block) _ (λ z. omega (arith, z)) c.from_residual.ensures
    (header_read _ bytes c.block_from.result.now c.block_from.ensures.bytes c.in_err-header.ensures)
    ∙ sym (front bytes _ (found c.wrong_length.ensures c.if-wrong_length.false))

-- past the header's rows: the numbers are the header's own, and 7 is left
record Past (bytes : List ℕ) (n m H : ℕ) : Type 0 where
  same : header n m H ≡ header_said (header_block bytes)
  rest : (s : Said) → first (front_rows bytes) s ≡ cond (other_length bytes n) (refused 7 0) s

past : (bytes block : List ℕ) (n m H : ℕ) → wrong_length bytes ≡ false → block ≡ block_at 0 bytes
    → header n m H ≡ first (header_rows block) (header_said block) → Past bytes n m H
past bytes block n m H right e q =
    let b = header_block bytes in
    let h = header_read (header n m H) bytes block e q in
    let same = answered (header_rows b) (header_said b) (λ z. omega (arith, z)) h in
    let tasks : tasks_in b ≡ n = cc in
    record {
      same = same;
      rest = λ s. front bytes s right ∙ went_on (header_rows b) (header_said b) (λ z. omega (arith, z)) h _
          ∙ ap (λ (k : ℕ). cond (other_length bytes k) (refused 7 0) s) tasks;
    }

pub returns-then-other_length : goal.returns-then-other_length
unfolding block_at
returns-then-other_length c =
    let bytes = c.args.table.now in
    let g = c.in_ok-header.header in
    let p = past bytes c.block_from.result.now g.tasks g.cores g.common (found c.wrong_length.ensures c.if-wrong_length.false) c.block_from.ensures.bytes c.in_ok-header.ensures in
    by_reason _ _ c.at-then-other_length.ensures ∙ sym (p.rest (header_said (header_block bytes)) ∙ rw (found c.other_length.ensures c.if-other_length.true))

pub returns : goal.returns
unfolding block_at
returns c =
    let bytes = c.args.table.now in
    let g = c.in_ok-header.header in
    let p = past bytes c.block_from.result.now g.tasks g.cores g.common (found c.wrong_length.ensures c.if-wrong_length.false) c.block_from.ensures.bytes c.in_ok-header.ensures in
    p.same ∙ sym (p.rest (header_said (header_block bytes)) ∙ rw (found c.other_length.ensures c.if-other_length.false))
