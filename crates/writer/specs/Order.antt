-- The order of the writers' refusals. The header writer gives 5, 15; the task writer, told H, gives 5 for a bad H, then 8, 9, 10, 11 to
-- 13 by mode, 15. Each names block 0.
use Rattle.std.specs.Prelude.{ℕ, ◌*◌, not, ◌||◌, List, [], ◌∷◌, ◌++◌, eqb, leb, ltb, length, drop}
use Rattle.answer.specs.Said.{written}
use Rattle.answer.specs.Order.{Row, row, Outcome}
use Rattle.model.specs.Limits.{most_tasks}
use Rattle.block.specs.Layout.{threes}
use Rattle.block.specs.Tests.{wrong_common, wrong_limits, wrong_shape, wrong_permitted, modes_rows}
use Rattle.block.specs.Whole.{header_bytes, task_bytes}
use Rattle.writer.specs.Said.{Written, said}

-- 15: the lent buffer is too short
abbrev pub room_rows : ℕ → List Row
room_rows room = row 15 0 (ltb room 512) ∷ []

-- ---- header: 5: n, m or H beyond its limits; 15
abbrev pub limit_rows : ℕ → ℕ → ℕ → List Row
limit_rows n m H = row 5 0 (wrong_limits n m H) ∷ []

unfoldable pub write_header_rows : ℕ → ℕ → ℕ → ℕ → List Row
write_header_rows n m H room = limit_rows n m H ++ room_rows room

-- ---- task: 5: H beyond its limits; 8: a number that no task can have; 9: also if the figures lent aren't three per mode; 10; 11 to 13 by mode; 15
abbrev pub number_rows : ℕ → ℕ → ℕ → ℕ → ℕ → ℕ → List Row
number_rows H number E modes permitted lent =
    row 5 0 (wrong_common H)
    ∷ row 8 0 (leb most_tasks number)
    ∷ row 9 0 (wrong_shape E modes || not (eqb lent (3 * modes)))
    ∷ row 10 0 (wrong_permitted permitted modes)
    ∷ []

unfoldable pub write_task_rows : ℕ → ℕ → ℕ → ℕ → ℕ → List ℕ → ℕ → List Row
write_task_rows H number E modes permitted figures room =
    number_rows H number E modes permitted (length figures) ++ (modes_rows 0 H (threes figures) ++ room_rows room)

-- ---- the answer and the buffer afterwards: 512 bytes are written, those after them stay, and under a refusal all of them
abbrev pub WroteHeader : ℕ → ℕ → ℕ → List ℕ → Written → List ℕ → Type 0
WroteHeader n m H before r after =
    Outcome (write_header_rows n m H (length before)) written before (header_bytes n m H ++ drop 512 before) (said r) after

abbrev pub WroteTask : ℕ → ℕ → ℕ → ℕ → ℕ → List ℕ → List ℕ → Written → List ℕ → Type 0
WroteTask H number E modes permitted figures before r after =
    Outcome (write_task_rows H number E modes permitted figures (length before)) written before
    (task_bytes number E modes permitted figures ++ drop 512 before) (said r) after
