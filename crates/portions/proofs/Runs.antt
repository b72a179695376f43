-- A run of cells of one row of a lawful table's workspace, as the cells before it, its own, and the rest. Assumes nothing.
use mathlib.Core.Path.{◌≡◌, refl, sym, ap, ◌∙◌}
use mathlib.Core.List.{List, ◌∷◌, ◌++◌, map}
use Prim.Native.Nat.{ℕ, zero, suc, ◌+◌, ◌-◌, ◌*◌, ◌/◌, ◌%◌, ◌≤◌, ◌<◌}
use native.Mathlib.Omega.{arith}
use lib.ListN.{length, get_or, take, drop, replicate, get_or-append}
use Rattle.std.proofs.lemmas.List.{get_or-take, get_or-drop, length-take-le}
use Rattle.model.specs.Turns.{each_from}
use Rattle.model.specs.Plan.{Task}
use Rattle.model.specs.Cells.{reads, least}
use Rattle.model.specs.Workspace.{cell_count, cell_rule, fill}
use Rattle.model.proofs.Fills.{fill_parts}
use Rattle.cells.specs.declared.mode.Mode.{Mode}
use Rattle.cells.specs.inner.Rows.{held, row_reads}
use Rattle.table.specs.Numbers.{task_numbers_in, numbers_in}
use Rattle.table.specs.inner.Accepted.{Plannable}
use Rattle.choices.specs.Tasks.{tasks_of_table}
use Rattle.choices.specs.inner.Modes.{modes_of}
use Rattle.choices.proofs.Loads.{held_least}
use Rattle.choices.proofs.Tables.{tasks_length, block_task, block_meets, few_cores}
use Rattle.portions.specs.Portion.{rule_of}
use Rattle.portions.proofs.Rows.{same_row, next_columns, row_before, row_within, rule_last, rule_task}

abbrev zeros : ℕ → ℕ
zeros c = 0

each_zero : (c k : ℕ) → each_from zeros c k ≡ replicate k 0
unfolding each_from
each_zero c zero = refl
each_zero c (suc k) = ap (λ (l : List ℕ). 0 ∷ l) (each_zero (c + 1) k)

module _ (bytes : List ℕ) (n m H : ℕ) (w : Plannable bytes n m H) where
  many : length (tasks_of_table bytes) ≡ n
  many = tasks_length (numbers_in bytes) ∙ w.tasks

  module _ (cells before rest : List ℕ) (from to : ℕ) (whole : cells ≡ before ++ rest) (at : length before ≡ from) (inside : from < cell_count n m)
      (h : from ≤ to) (k : to ≤ from + (m + 1 - from % (m + 1))) (room : to - from ≤ length rest) where
    by_cores : (l : List ℕ) (q v : ℕ) → cell_rule (tasks_of_table bytes) m l q ≡ v → rule_of bytes l q ≡ v
    by_cores l q v e = ap (λ (x : ℕ). cell_rule (tasks_of_table bytes) x l q) w.cores ∙ e

    put : (f : ℕ → ℕ) (c : ℕ) (run : List ℕ) → run ≡ each_from f c (to - from)
        → ((xs : List ℕ) (i : ℕ) → i < to - from → rule_of bytes (before ++ xs) (from + i) ≡ f (c + i))
        → before ++ (run ++ drop (to - from) rest) ≡ fill (rule_of bytes) cells from (to - from)
    put f c run e r = rw (e, whole) (fill_parts (rule_of bytes) f before rest from c (to - from) at room r)

    own : length (take (to - from) rest) ≡ to - from
    own = length-take-le _ rest room

    pub zero_run : (run : List ℕ) → from / (m + 1) ≡ 0 → run ≡ replicate (length (take (to - from) rest)) 0
        → before ++ (run ++ drop (to - from) rest) ≡ fill (rule_of bytes) cells from (to - from)
    zero_run run e z =
        put zeros 0 run (z ∙ ap (λ (x : ℕ). replicate x 0) own ∙ sym (each_zero 0 (to - from)))
        (λ xs i l. by_cores (before ++ xs) _ _
        (rule_last (tasks_of_table bytes) n m many (before ++ xs) (from + i) (same_row (m + 1) from (omega arith) i (omega arith) ∙ e)))

    -- of the next row, the cells up to the run's last column
    module _ (pos : 0 < from / (m + 1)) where
      abbrev next : List ℕ
      next = take (to - (m + 1) - (from - from % (m + 1) - (m + 1))) (drop (from - from % (m + 1) - (m + 1)) before)

      next_at : (xs : List ℕ) (c : ℕ) → c < from % (m + 1) + (to - from)
          → reads (get_or (before ++ xs) ((from / (m + 1) - 1) * (m + 1) + c) 0) ≡ row_reads next c
      next_at xs c low =
          let start : from - from % (m + 1) - (m + 1) ≡ (from / (m + 1) - 1) * (m + 1) = omega (arith, row_before (m + 1) from pos) in
          let there : (from / (m + 1) - 1) * (m + 1) + c < length before = omega (arith, row_before (m + 1) from pos) in
          let short : c < to - (m + 1) - (from / (m + 1) - 1) * (m + 1) = omega (arith, row_before (m + 1) from pos) in
          rw (get_or-append before xs 0 _ there, start, get_or-take {A = ℕ} _ _ c 0 short, get_or-drop {A = ℕ} _ before c 0)

      pub task_run_lem : (block : List ℕ) (loaded modes : List Mode) (run : List ℕ) → block ≡ take 512 (drop (512 * (n - from / (m + 1) + 1)) bytes)
          → map held loaded ≡ modes_of H (task_numbers_in block) → modes ≡ loaded
          → run ≡ each_from (least (map held modes) (row_reads next)) (from % (m + 1)) (length (take (to - from) rest))
          → before ++ (run ++ drop (to - from) rest) ≡ fill (rule_of bytes) cells from (to - from)
      task_run_lem block loaded modes run b q g r =
          let s : ℕ = from / (m + 1) in
          let i : ℕ = n - s in
          let t = task_numbers_in block in
          let less : i < n = omega (arith, row_within n m from inside) in
          let e : map held modes ≡ modes_of H t = ap (map held) g ∙ q in
          put (least (map held modes) (row_reads next)) (from % (m + 1)) run
          (r ∙ ap (each_from (least (map held modes) (row_reads next)) (from % (m + 1))) own)
          (λ xs x l.
          let col : (from + x) % (m + 1) ≡ from % (m + 1) + x = next_columns (m + 1) from (omega arith) x (omega arith) in
          by_cores (before ++ xs) _ _ (rule_task (tasks_of_table bytes) n m many (before ++ xs) (from + x) s (row_reads next)
          (same_row (m + 1) from (omega arith) x (omega arith)) pos (row_within n m from inside)
          (λ c low. next_at xs c (omega arith)))
          ∙ rw (col, block_task w i less block b)
          (sym (ap (λ (o : Task). least o (row_reads next) (from % (m + 1) + x)) e
          ∙ held_least H t (row_reads next) (from % (m + 1) + x) (omega (arith, few_cores w)) (block_meets w i less block b))))
