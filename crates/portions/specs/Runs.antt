-- Portions after each other, over `portion`'s promise alone.
use Rattle.std.specs.Prelude.{ℕ, ◌+◌, ◌≤◌, min, ◌≡◌, ◌↔◌, List, [], ◌∷◌, length, replicate}
use Rattle.answer.specs.Said.{filled}
use Rattle.model.specs.Rules.{rounded_up}
use Rattle.block.specs.Bytes.{Bytes}
use Rattle.table.specs.Order.{Accepted}
use Rattle.choices.specs.Tasks.{cells_of_table}
use Rattle.portions.specs.Said.{Filling, said, InType}
use Rattle.portions.specs.Portion.{Portioned}

-- a portion that was not refused: it answered the new progress q
pub record Step (bytes before : List ℕ) (p b : ℕ) (after : List ℕ) (q : ℕ) : Type 0 where
  pub answer : Filling
  pub allowed : Portioned bytes before p b answer after
  pub gave : said answer ≡ filled q

-- the budgets spent in turn, each portion going on from the progress the last one gave, and nothing else altering table or workspace
abbrev pub Run : List ℕ → List ℕ → List ℕ → ℕ → List ℕ → ℕ → Type 0
Run bytes [] before p after q = (before ≡ after) × (p ≡ q)
Run bytes (b ∷ bs) before p after q =
    (mid : List ℕ) × (between : ℕ) × Step bytes before p b mid between × Run bytes bs mid between after q

-- each answer of a run is one that the code's type can hold
abbrev pub AllInType : (bytes budgets before : List ℕ) (p : ℕ) (after : List ℕ) (q : ℕ) → Run bytes budgets before p after q → Type 0
AllInType bytes [] before p after q run = Unit {0}
AllInType bytes (b ∷ bs) before p after q (mid, between, step, run) = InType step.answer × AllInType bytes bs mid between after q run

-- budgets, added up
abbrev pub spent : List ℕ → ℕ
spent [] = 0
spent (b ∷ bs) = b + spent bs

-- of an accepted table with workspace enough there is a run with any budgets, from progress 0 to the smaller of their sum and W
pub record RunTo (bytes budgets cells : List ℕ) (q : ℕ) : Type 0 where
  pub filling : List ℕ
  pub run : Run bytes budgets cells 0 filling q
  pub in_type : AllInType bytes budgets cells 0 filling q run

abbrev pub ThereIsARun : Type 0
ThereIsARun =
    (bytes cells budgets : List ℕ) → Bytes bytes → Accepted bytes → cells_of_table bytes ≤ length cells
    → RunTo bytes budgets cells (min (spent budgets) (cells_of_table bytes))

-- two portions after each other are one of the summed budget
abbrev pub TwoAreOne : Type 0
TwoAreOne =
    (bytes before mid after : List ℕ) (p b c q q' : ℕ) → Step bytes before p b mid q → Step bytes mid q c after q'
    → Step bytes before p (b + c) after q'

-- from progress 0, with the same b of at least 1 each time, W is reached after W / b calls, rounded up, and not earlier
abbrev pub ReachedInTime : Type 0
ReachedInTime =
    (bytes before after : List ℕ) (b k q : ℕ) → 1 ≤ b → Run bytes (replicate k b) before 0 after q
    → (q ≡ cells_of_table bytes) ↔ (rounded_up (cells_of_table bytes) b ≤ k)
