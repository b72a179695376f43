-- An all-zero block has a right check and is refused for its kind. Assumes nothing.
use Prim.Native.Nat.{ℕ}
use mathlib.Core.Path.{◌≡◌, refl}
use mathlib.Core.List.{List}
use lib.ListN.{replicate}
use Rattle.answer.specs.Said.{Said, refused}
use Rattle.answer.specs.Order.{first}
use Rattle.block.specs.Bytes.{value, number, weighed, check_of}
use Rattle.table.specs.Order.{header_rows, task_rows}

abbrev zero_block : List ℕ
zero_block = replicate 512 0

pub zero_header : (s : Said) → first (header_rows zero_block) s ≡ refused 3 0
unfolding value number weighed check_of
zero_header s = refl

pub zero_task : (i at : ℕ) (s : Said) → first (task_rows i at zero_block) s ≡ refused 3 at
unfolding value number weighed check_of
zero_task i at s = refl
