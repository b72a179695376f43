-- Demand 1. Assumes nothing.
use Prim.Native.Nat.{ℕ, ◌+◌, ◌<◌}
use native.Mathlib.Omega.{arith}
use mathlib.Core.Path.{◌≡◌, refl, sym, ap, ◌∙◌}
use mathlib.Core.Logic.{inl, inr}
use mathlib.Core.List.{List, [], ◌∷◌}
use lib.ListN.{length}
use Rattle.answer.specs.Said.{Said, refused, choice, written, filled, plan}
use Rattle.answer.specs.Order.{Row, first, Outcome, OneOf}
use Rattle.answer.proofs.Rows.{kind, plan_refused}
use Rattle.answer.proofs.Each.{Each, each_first}
use Rattle.answer.proofs.Outcomes.{unchanged}
use Rattle.model.specs.Workspace.{advance}
use Rattle.block.specs.Layout.{figures_in}
use Rattle.table.specs.Order.{header_block, task_block, header_said, task_said, figures_said, table_rows, ask_task_rows, ask_mode_rows}
use Rattle.table.specs.Numbers.{numbers_in}
use Rattle.table.proofs.Refusals.{front_numbers, task_numbers, each_table, each_ask_task, each_ask_mode}
use Rattle.choices.specs.Tasks.{choice_of, cells_of_table}
use Rattle.writer.proofs.Refusals as writer
use Rattle.writer.proofs.Refusals.{each_header, each_task}
use Rattle.portions.proofs.Refusals as portions
use Rattle.portions.proofs.Refusals.{each_portion}
use Rattle.taking.specs.Said.{Taken}
use Rattle.taking.specs.Said as taking
use Rattle.taking.proofs.Refusals as taking_refusals
use Rattle.taking.specs.Take.{lent_rows}
use Rattle.taking.proofs.Refusals.{each_room, each_taking}
use Rattle.whole.specs.Whole.{Ends, PlannedWhole}
use Rattle.demands.specs.Demand1.{AtFront, FromTable, RefusedAs, With, ChangesNothing, Demand1}

-- ---- a table's rows, and those of a call that is lent it
module _ (bytes : List ℕ) where
  front : (k : ℕ) → OneOf front_numbers k → FromTable bytes k 0
  front k one = inl (one, refl)

  task : (i k : ℕ) → i < (numbers_in bytes).tasks → OneOf task_numbers k → FromTable bytes k (i + 1)
  task i k h one = inr (one, omega arith, omega arith)

  module _ (own : List ℕ) where
    front_with : (k : ℕ) → OneOf front_numbers k → With bytes own k 0
    front_with k one = inl (front k one)

    task_with_lem : (i k : ℕ) → i < (numbers_in bytes).tasks → OneOf task_numbers k → With bytes own k (i + 1)
    task_with_lem i k h one = inl (task i k h one)

    own_with : (k : ℕ) → OneOf own k → With bytes own k 0
    own_with k one = inr (one, refl)

-- ---- asking of a mode, whatever is said of it
asking : (bytes : List ℕ) (i j : ℕ) (rest : Said) → (kind rest ≡ 0 → ⊥) → RefusedAs (With bytes (19 ∷ [])) (first (ask_mode_rows bytes i j) rest)
asking bytes i j rest other =
    let own : List ℕ = 19 ∷ [] in
    each_first (With bytes own) (ask_mode_rows bytes i j) _ rest other
    (each_ask_mode (With bytes own) bytes (front_with bytes own) (task_with_lem bytes own) (own_with bytes own 19 tt) i j) refl

-- ---- an outcome
outcome : (P : ℕ → ℕ → Type 0) (A : List Row) (s rest : Said) (before after e : List ℕ) → (kind rest ≡ 0 → ⊥) → Each P A
    → Outcome A rest before after s e → RefusedAs P s × ChangesNothing s before e
outcome P A s rest before after e other a o = (
  each_first P A s rest other a o.says,
  λ k at r. unchanged A rest before after (λ same. other (sym same ∙ ap kind r)) o,
)

-- ---- planning in one call
abbrev whole_numbers : List ℕ
whole_numbers = 14 ∷ 15 ∷ []

at_14 : (bytes : List ℕ) (s : Said) (k at : ℕ) → s ≡ refused 14 0 → s ≡ refused k at → With bytes whole_numbers k at
at_14 bytes s k at e r =
    let number : 14 ≡ k = cc in
    let place : 0 ≡ at = cc in
    rw (← number, ← place) (inr (tt, refl))

whole : (bytes cells out : List ℕ) (r : Taken) (cells' out' : List ℕ) → PlannedWhole bytes cells out r cells' out'
    → RefusedAs (With bytes whole_numbers) (taking.said r)
    × ChangesNothing (taking.said r) cells cells' × ChangesNothing (taking.said r) out out'
whole bytes cells out r cells' out' (inl w) = (
  each_first (With bytes whole_numbers) (lent_rows bytes (length cells) (length out)) (taking.said r) written (λ z. omega (arith, z))
      (each_room (With bytes whole_numbers) bytes (front_with bytes whole_numbers) (task_with_lem bytes whole_numbers) (own_with bytes whole_numbers 15 tt) (length cells) (length out))
      (w.answer written),
  λ k at e. w.cells_kept,
  λ k at e. w.out_kept,
)
whole bytes cells out r cells' out' (inr w) = ends w.ends
  where
    ends : Ends bytes cells out r cells' out'
        → RefusedAs (With bytes whole_numbers) (taking.said r) × ChangesNothing (taking.said r) cells cells' × ChangesNothing (taking.said r) out out'
    ends (inl (s, g, c)) = (
      λ k at e. plan_refused g.answer e,
      λ k at e. plan_refused g.answer e,
      λ k at e. plan_refused g.answer e,
    )
    ends (inr (g, c)) = (λ k at e. at_14 bytes (taking.said r) k at g.answer e, λ k at e. c, λ k at e. g.kept)

pub demand_1 : Demand1
demand_1 =
    record {
      check = λ bytes.
          each_first (FromTable bytes) (table_rows bytes) _ (header_said (header_block bytes)) (λ z. omega (arith, z))
          (each_table (FromTable bytes) bytes (front bytes) (task bytes)) refl;
      ask_task = λ bytes i.
          let own : List ℕ = 19 ∷ [] in
          each_first (With bytes own) (ask_task_rows bytes i) _ (task_said (task_block bytes i)) (λ z. omega (arith, z))
          (each_ask_task (With bytes own) bytes (front_with bytes own) (task_with_lem bytes own) (own_with bytes own 19 tt) i) refl;
      ask_mode = λ bytes i j. asking bytes i j (figures_said (figures_in (task_block bytes i) j)) (λ z. omega (arith, z));
      ask_choice = λ bytes i j.
          let c = choice_of (numbers_in bytes).common ((numbers_in bytes).task i) j in
          asking bytes i j (choice c.permitted c.need c.cost) (λ z. omega (arith, z));
      write_header = λ n m H before r after o.
          outcome _ _ _ written before _ after (λ z. omega (arith, z)) (each_header (AtFront writer.header_numbers) (λ k one. (one, refl)) n m H (length before)) o;
      write_task = λ H number E modes permitted figures before r after o.
          outcome _ _ _ written before _ after (λ z. omega (arith, z))
          (each_task (AtFront writer.task_numbers) (λ k one. (one, refl)) H number E modes permitted figures (length before)) o;
      portion = λ bytes before p b r after o.
          let own = portions.own_numbers in
          outcome _ _ _ (filled (advance (cells_of_table bytes) p b)) before _ after (λ z. omega (arith, z))
          (each_portion (With bytes own) bytes (front_with bytes own) (task_with_lem bytes own) (own_with bytes own) (length before) p) o.outcome;
      take = λ bytes cells p before r after o.
          let own = taking_refusals.own_numbers in
          outcome _ _ _ (plan _ _) before _ after (λ z. omega (arith, z))
          (each_taking (With bytes own) bytes (front_with bytes own) (task_with_lem bytes own) (own_with bytes own) cells p (length before)) o;
      plan_whole = whole;
    }
