-- The invariant: the rows of the modes passed are not given.
use Rattle.std.proofs.Common.{◌≡◌, ℕ, List, get_or, drop, map}
use Rattle.answer.specs.Said.{Said, written}
use Rattle.answer.specs.Order.{first}
use Rattle.model.specs.declared.Figures.{Figures}
use Rattle.block.specs.Layout.{listed, threes}
use Rattle.block.specs.Tests.{modes_rows}
use Rattle.writer.proofs.test_modes.Given as goal

-- the figures of a mode of three numbers, and the answer by such modes
abbrev pub three : List ℕ → Figures
three xs = listed (get_or xs 0 0) (get_or xs 1 0) (get_or xs 2 0)

abbrev pub answer_by : ℕ → List (List ℕ) → Said
answer_by H modes = first (modes_rows 0 H (map three modes)) written

abbrev pub invariant-loop-work : goal.invariant-loop-work
invariant-loop-work l = first (modes_rows 0 l.common (threes l.fn.figures)) written ≡ answer_by l.common (drop l.work-index l.modes)
