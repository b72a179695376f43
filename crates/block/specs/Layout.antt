-- Where each number of a block stands.
use Rattle.std.specs.Prelude.{ℕ, ◌+◌, ◌*◌, Bool, not, ◌||◌, List, [], ◌∷◌}
use Rattle.model.specs.declared.Figures.{Figures}
use Rattle.block.specs.Bytes.{number, zeros}

-- ---- both: kind and check
abbrev pub kind_in : List ℕ → ℕ
kind_in block = number 1 0 block

abbrev pub check_in : List ℕ → ℕ
check_in block = number 4 508 block

-- ---- header: kind 1, edition 1; n, m, zero; H
abbrev pub edition_in : List ℕ → ℕ
edition_in block = number 1 1 block

abbrev pub tasks_in : List ℕ → ℕ
tasks_in block = number 2 2 block

abbrev pub cores_in : List ℕ → ℕ
cores_in block = number 2 4 block

abbrev pub common_in : List ℕ → ℕ
common_in block = number 4 8 block

-- an unused byte isn't zero
abbrev pub header_unused : List ℕ → Bool
header_unused block = not (zeros 6 8 block) || not (zeros 12 508 block)

-- ---- task: kind 2, E, mode count, zero; permitted modes, task number
abbrev pub elasticity_in : List ℕ → ℕ
elasticity_in block = number 1 1 block

abbrev pub modes_in : List ℕ → ℕ
modes_in block = number 1 2 block

abbrev pub permitted_in : List ℕ → ℕ
permitted_in block = number 2 4 block

abbrev pub task_number_in : List ℕ → ℕ
task_number_in block = number 2 6 block

-- an unused byte isn't zero: byte 3, or one behind the last mode
abbrev pub task_unused : List ℕ → Bool
task_unused block = not (zeros 3 4 block) || not (zeros (8 + 12 * modes_in block) 508 block)

-- work, span and period of a mode, as listed
abbrev pub listed : ℕ → ℕ → ℕ → Figures
listed C L T = record { work = C; span = L; period = T }

-- those of mode j
abbrev pub figures_in : List ℕ → ℕ → Figures
figures_in block j = listed (number 4 (8 + 12 * j) block) (number 4 (12 + 12 * j) block) (number 4 (16 + 12 * j) block)

-- as they are lent to the writer: three numbers for each mode
unfoldable pub flat : List Figures → List ℕ
flat [] = []
flat (f ∷ fs) = f.work ∷ f.span ∷ f.period ∷ flat fs

-- and back; one or two numbers left over are no mode
unfoldable pub threes : List ℕ → List Figures
threes [] = []
threes (C ∷ []) = []
threes (C ∷ L ∷ []) = []
threes (C ∷ L ∷ T ∷ rest) = listed C L T ∷ threes rest
