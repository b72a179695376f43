-- Demand 1, its last sentence: "Each refusal has its number and place, and a refused call changes no buffer it was lent."
use Rattle.std.specs.Prelude.{ℕ, ◌≤◌, ◌≡◌, ◌⊎◌, List, [], ◌∷◌}
use Rattle.answer.specs.Said.{Said, refused}
use Rattle.answer.specs.Order.{OneOf}
use Rattle.table.specs.Order.{table_said, ask_task_said, ask_mode_said}
use Rattle.table.specs.Numbers.{numbers_in}
use Rattle.choices.specs.Said.{ask_choice_said}
use Rattle.writer.specs.Said.{Written}
use Rattle.writer.specs.Said as writer
use Rattle.writer.specs.Order.{WroteHeader, WroteTask}
use Rattle.portions.specs.Said.{Filling}
use Rattle.portions.specs.Said as portions
use Rattle.portions.specs.Portion.{Portioned}
use Rattle.taking.specs.Said.{Taken}
use Rattle.taking.specs.Said as taking
use Rattle.taking.specs.Take.{TookPlan}
use Rattle.whole.specs.Whole.{PlannedWhole}

-- ---- numbers and places
-- these numbers, and they name block 0
abbrev pub AtFront : List ℕ → ℕ → ℕ → Type 0
AtFront xs k at = OneOf xs k × (at ≡ 0)

-- from a table: 1 to 7 of its length and its header, block 0; and of a task's block, which they name, 2, 3, 6 and 8 to 13
abbrev pub FromTable : List ℕ → ℕ → ℕ → Type 0
FromTable bytes k at =
    AtFront (1 ∷ 2 ∷ 3 ∷ 4 ∷ 5 ∷ 6 ∷ 7 ∷ []) k at
    ⊎ (OneOf (2 ∷ 3 ∷ 6 ∷ 8 ∷ 9 ∷ 10 ∷ 11 ∷ 12 ∷ 13 ∷ []) k × (1 ≤ at) × (at ≤ (numbers_in bytes).tasks))

-- ---- a refusal is one of these
abbrev pub RefusedAs : (ℕ → ℕ → Type 0) → Said → Type 0
RefusedAs Place s = (k at : ℕ) → s ≡ refused k at → Place k at

-- a call that is lent a table has these besides
abbrev pub With : List ℕ → List ℕ → ℕ → ℕ → Type 0
With bytes own k at = FromTable bytes k at ⊎ AtFront own k at

-- ---- and it changes nothing
abbrev pub ChangesNothing : Said → List ℕ → List ℕ → Type 0
ChangesNothing s before after = (k at : ℕ) → s ≡ refused k at → after ≡ before

pub record Demand1 : Type 0 where
  pub check : (bytes : List ℕ) → RefusedAs (FromTable bytes) (table_said bytes)
  pub ask_task : (bytes : List ℕ) (i : ℕ) → RefusedAs (With bytes (19 ∷ [])) (ask_task_said bytes i)
  pub ask_mode : (bytes : List ℕ) (i j : ℕ) → RefusedAs (With bytes (19 ∷ [])) (ask_mode_said bytes i j)
  pub ask_choice : (bytes : List ℕ) (i j : ℕ) → RefusedAs (With bytes (19 ∷ [])) (ask_choice_said bytes i j)
  pub write_header : (n m H : ℕ) (before : List ℕ) (r : Written) (after : List ℕ) → WroteHeader n m H before r after
      → RefusedAs (AtFront (5 ∷ 15 ∷ [])) (writer.said r) × ChangesNothing (writer.said r) before after
  pub write_task : (H number E modes permitted : ℕ) (figures before : List ℕ) (r : Written) (after : List ℕ)
      → WroteTask H number E modes permitted figures before r after
      → RefusedAs (AtFront (5 ∷ 8 ∷ 9 ∷ 10 ∷ 11 ∷ 12 ∷ 13 ∷ 15 ∷ [])) (writer.said r) × ChangesNothing (writer.said r) before after
  pub portion : (bytes before : List ℕ) (p b : ℕ) (r : Filling) (after : List ℕ) → Portioned bytes before p b r after
      → RefusedAs (With bytes (15 ∷ 16 ∷ [])) (portions.said r) × ChangesNothing (portions.said r) before after
  pub take : (bytes cells : List ℕ) (p : ℕ) (before : List ℕ) (r : Taken) (after : List ℕ) → TookPlan bytes cells p before r after
      → RefusedAs (With bytes (14 ∷ 15 ∷ 16 ∷ 17 ∷ 18 ∷ [])) (taking.said r) × ChangesNothing (taking.said r) before after
  pub plan_whole : (bytes cells out : List ℕ) (r : Taken) (cells' out' : List ℕ) → PlannedWhole bytes cells out r cells' out'
      → RefusedAs (With bytes (14 ∷ 15 ∷ [])) (taking.said r)
      × ChangesNothing (taking.said r) cells cells' × ChangesNothing (taking.said r) out out'
