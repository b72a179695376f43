-- The document's starred examples, in one listing.
use Rattle.std.specs.Prelude.{ℕ, ◌≡◌, List, [], ◌∷◌, get_or}
use Rattle.answer.specs.Said.{Said, refused, needs, plan}
use Rattle.model.specs.Rules.{cores_said}
use Rattle.model.specs.Taking.{Right}
use Rattle.model.specs.declared.Figures.{Figures}
use Rattle.block.specs.Layout.{listed}
use Rattle.table.specs.Numbers.{TaskNumbers, Numbers}
use Rattle.choices.specs.Tasks.{tasks_of}

-- a task with these modes
unfoldable pub task_with : ℕ → ℕ → ℕ → List Figures → TaskNumbers
task_with E modes permitted figures =
    record { elasticity = E; modes = modes; permitted = permitted; figures = λ j. get_or figures j (listed 0 0 0) }

-- the sample table, with m cores: H = 1000, all modes permitted
unfoldable pub sample_tasks : List TaskNumbers
sample_tasks =
    task_with 1 2 3 (listed 1800 200 1000 ∷ listed 900 200 1000 ∷ [])
    ∷ task_with 2 3 7 (listed 1400 200 500 ∷ listed 1400 200 1000 ∷ listed 700 100 500 ∷ [])
    ∷ []

unfoldable pub sample : ℕ → Numbers
sample m = record { tasks = 2; cores = m; common = 1000; task = λ i. get_or sample_tasks i (task_with 0 0 0 []) }

-- a line: of (C, L, T) the cores or refusal 13; of the sample with m cores the answer, and the modes of its plan
pub data Line : Type 0 where
  cores : ℕ → ℕ → ℕ → Said → Line
  sample_with : ℕ → Said → List ℕ → Line

-- what a line claims
abbrev pub LineHolds : Line → Type 0
LineHolds (cores C L T answer) = cores_said C L T ≡ answer
LineHolds (sample_with m answer modes) = Right (tasks_of (sample m)) m answer modes

unfoldable pub listing : List Line
listing =
    cores 10 4 6 (needs 3)
    ∷ cores 8 4 6 (needs 2)
    ∷ cores 9 3 6 (needs 2)
    ∷ cores 10 3 6 (needs 3)
    ∷ cores 5 5 6 (needs 1)
    ∷ cores 6 6 6 (needs 1)
    ∷ cores 6 5 6 (needs 1)
    ∷ cores 7 5 6 (needs 2)
    ∷ cores 7 6 6 (refused 13 0)
    ∷ sample_with 2 (refused 14 0) []
    ∷ sample_with 3 (plan 3 4510800000) (1 ∷ 1 ∷ [])
    ∷ sample_with 5 (plan 5 2041200000) (1 ∷ 0 ∷ [])
    ∷ sample_with 6 (plan 6 0) (0 ∷ 0 ∷ [])
    ∷ []

-- the claim: every line holds
abbrev pub Every : List Line → Type 0
Every [] = Unit {0}
Every (l ∷ ls) = LineHolds l × Every ls

abbrev pub TheExamplesHold : Type 0
TheExamplesHold = Every listing
