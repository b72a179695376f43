-- The search for the modes: the invariant of its loop over the tasks, and what follows at a turn and at each way out. Assumes nothing.
use Prim.Native.Nat.{ℕ, suc, ◌+◌, ◌*◌, ◌-◌, ◌%◌, ◌≤◌, ◌<◌}
use native.Mathlib.Nat.{sub-zero, suc-mul, mul-mod_left}
use native.Mathlib.Numerals.{add-one}
use native.Mathlib.Omega.{arith}
use mathlib.Core.Path.{◌≡◌, refl, sym, ap, ◌∙◌}
use mathlib.Core.Bool.{Bool, true, false}
use mathlib.Core.List.{List, [], ◌∷◌, ◌++◌, map, append-nil, append_assoc}
use borrow.Author.Tests.{lt-ltb, le-ltb}
use lib.ListN.{length, get_or, take, drop, drop_of_length-le, length-append, get_or-map}
use lib.Seq.{append_snoc}
use Rattle.std.proofs.Common.{Some}
use Rattle.std.proofs.lemmas.List.{get_or_default, get_or-take, get_or-drop, get_or-append-add, get_or_append_left, nil_from_length, length-map}
use Rattle.model.specs.Plan.{Choice, Task, absent, choice}
use Rattle.model.specs.Cells.{mark, reads}
use Rattle.model.specs.Workspace.{cell_in}
use Rattle.model.specs.Taking.{keeps, lowest, trace, all_keep}
use Rattle.model.proofs.Least.{first_at, lowest_cong}
use Rattle.cells.specs.declared.mode.Mode.{Mode}
use Rattle.cells.specs.inner.Rows.{held, row_reads}
use Rattle.table.specs.Numbers.{TaskNumbers, task_numbers_in, numbers_in}
use Rattle.table.specs.inner.Accepted.{Plannable}
use Rattle.choices.specs.Tasks.{tasks_of_table}
use Rattle.choices.specs.inner.Modes.{mode_of, modes_of}
use Rattle.choices.proofs.Loads.{held_need, held_lowest, loaded_many, loaded_at}
use Rattle.choices.proofs.Tables.{tasks_length, task_length, choice_at, block_task, block_meets, few_cores}
use Rattle.arrayvec.specs.ArrayVec.{ArrayVec}
use Rattle.taking.specs.Take.{cell_of}
use Rattle.taking.specs.inner.Traces.{TracedFrom}
use Rattle.model.proofs.Taking.{trace_length}
use Rattle.taking.proofs.Searches.{first_on, trace_more, keep_more}

-- the row that starts at a number: its cells up to column m
abbrev pub row_of : List ℕ → ℕ → ℕ → List ℕ
row_of ws start m = take (start + m + 1 - start) (drop start ws)

pub row_is : (N M n m i start : ℕ) (ws : List ℕ) → N ≡ n → M ≡ m → start ≡ (n - i) * (m + 1) → (c : ℕ) → c ≤ m
    → cell_in N M ws i c ≡ row_reads (row_of ws start m) c
unfolding cell_in
row_is N M n m i start ws p q e c low =
    rw (p, q, ← e) (ap reads (sym (get_or-take {A = ℕ} _ (drop start ws) c 0 (omega arith) ∙ get_or-drop {A = ℕ} start ws c 0)))

-- row i as it lies in a workspace: ahead of it the rows from i + 1 to n, then its own m + 1 cells, then the rest
pub record RowAt (cells : List ℕ) (n m i : ℕ) (ahead row : List ℕ) : Type 0 where
  pub inside : i ≤ n
  pub behind : List ℕ
  pub parts : ahead ++ (row ++ behind) ≡ cells
  pub left : length ahead ≡ (n - i) * (m + 1)
  pub width : m + 1 ≤ length row

reads_row : (N M n m i : ℕ) {cells ahead row : List ℕ} → N ≡ n → M ≡ m → (r : RowAt cells n m i ahead row) → (c : ℕ) → c ≤ m
    → cell_in N M cells i c ≡ row_reads row c
unfolding cell_in
reads_row N M n m i {ahead = ahead} {row = row} p q r c low =
    rw (p, q, ← r.left, ← r.parts)
    (ap reads (get_or-append-add ahead (row ++ r.behind) c 0 ∙ get_or_append_left row r.behind 0 c (omega (arith, r.width))))

-- the rows are split off whole: nothing is over
pub first_row : (n m : ℕ) {cells rows row rest : List ℕ} (over : List ℕ) → cells ≡ rows ++ row → length rows ≡ n * (m + 1) → rows ≡ over ++ rest
    → length over ≡ length rows % (m + 1) → m + 1 ≤ length row → RowAt cells n m 0 rest row
first_row n m {rows = rows} {row = row} {rest = rest} over parts long cut none room =
    let whole : rows ≡ rest = cut ∙ ap (λ (x : List ℕ). x ++ rest) (nil_from_length over (none ∙ rw long (mul-mod_left n (m + 1)))) in
    record { inside = omega arith; behind = []; parts = rw (append-nil, ← whole) (sym parts); left = rw (← whole, sub-zero) long; width = room }

module _ {cells : List ℕ} {n m i : ℕ} {ahead row : List ℕ} (r : RowAt cells n m i ahead row) where
  pub ended : length ahead < m + 1 → n ≤ i
  ended h = grind (arith, r.left)

  -- the next row comes off the end of what is ahead
  pub next_row : (beyond next : List ℕ) → ahead ≡ beyond ++ next → length next ≡ m + 1 → RowAt cells n m (i + 1) beyond next
  next_row beyond next comes wide =
      let long : length ahead ≡ length beyond + length next = ap length comes ∙ length-append beyond next in
      let more : i < n = grind (arith, long, wide, r.left) in
      let fewer : (n - i) * (m + 1) ≡ (n - (i + 1)) * (m + 1) + (m + 1) = ap (λ (k : ℕ). k * (m + 1)) (omega arith) ∙ suc-mul (n - (i + 1)) (m + 1) in
      record {
        inside = omega arith;
        behind = row ++ r.behind;
        parts = sym (append_assoc beyond next _) ∙ rw (← comes) r.parts;
        left = omega (arith, long, wide, r.left, fewer);
        width = omega arith;
      }

-- at task i of the table's n, and its row: the whole trace is the modes found so far with the trace from here on
pub record AtTask (bytes cells : List ℕ) (n m used : ℕ) (modes : List ℕ) (i column : ℕ) (ahead row : List ℕ) : Type 0 where
  pub column_in : column ≤ m
  pub at_row : RowAt cells n m i ahead row
  pub long : length modes ≡ i
  pub found : trace (cell_of bytes cells) 0 (tasks_of_table bytes) used ≡ modes ++ trace (cell_of bytes cells) i (drop i (tasks_of_table bytes)) column
  pub all : all_keep (cell_of bytes cells) 0 (tasks_of_table bytes) used ≡ all_keep (cell_of bytes cells) i (drop i (tasks_of_table bytes)) column

pub at_first : (bytes cells : List ℕ) (n m used : ℕ) → used ≤ m → {modes ahead row : List ℕ} → modes ≡ [] → RowAt cells n m 0 ahead row
    → AtTask bytes cells n m used modes 0 used ahead row
at_first bytes cells n m used h e r =
    rw e (record { column_in = h; at_row = r; long = refl; found = refl; all = refl })

module _ {bytes cells : List ℕ} {n m H used : ℕ} {modes : List ℕ} {i column : ℕ} {ahead row : List ℕ}
    (l : Plannable bytes n m H) (a : AtTask bytes cells n m used modes i column ahead row) where
  abbrev Rows : ℕ → ℕ → ℕ
  Rows = cell_of bytes cells

  abbrev Ts : List Task
  Ts = tasks_of_table bytes

  count : length Ts ≡ n
  count = tasks_length (numbers_in bytes) ∙ l.tasks

  -- past the last task the modes found are the trace, and each task has one
  module _ (last : n ≤ i) where
    past : drop i Ts ≡ []
    past = drop_of_length-le Ts {i = i} (omega (arith, count))

    pub done : modes ≡ trace Rows 0 Ts used
    unfolding trace
    done = sym (a.found ∙ rw past (append-nil modes))

    pub all_done : all_keep Rows 0 Ts used ≡ true
    unfolding all_keep
    all_done = a.all ∙ rw past

  -- and there is a next row
  module _ {beyond next : List ℕ} (r : RowAt cells n m (i + 1) beyond next) where
    more : i < n
    more = omega (arith, r.inside)

    -- the task's modes as they were loaded from its block
    module _ (cell : ℕ) (cell_is : cell ≡ row_reads row column) (block : List ℕ) (b : block ≡ take 512 (drop (512 * (i + 1)) bytes))
        (own : List Mode) (loaded : map held own ≡ modes_of H (task_numbers_in block)) where
      small : column < mark
      small = omega (arith, a.column_in, few_cores l)

      at_cell : Rows i column ≡ cell
      at_cell = reads_row (numbers_in bytes).tasks (numbers_in bytes).cores n m i l.tasks l.cores a.at_row column a.column_in ∙ sym cell_is

      next_is : (c : ℕ) → c ≤ m → Rows (suc i) c ≡ row_reads next c
      next_is = rw (← add-one i) (reads_row (numbers_in bytes).tasks (numbers_in bytes).cores n m (i + 1) l.tasks l.cores r)

      -- the lowest that keeps the cell's cost
      abbrev pub low : ℕ
      low = lowest (map held own) (row_reads next) column cell

      low_is : lowest (get_or Ts i []) (Rows (suc i)) column (Rows i column) ≡ low
      low_is =
          lowest_cong (get_or Ts i []) (Rows (suc i)) (row_reads next) column (Rows i column) (λ k below. next_is k (omega (arith, a.column_in)))
          ∙ rw (at_cell, block_task l i more block b)
          (sym (held_lowest H (task_numbers_in block) (row_reads next) column cell small (block_meets l i more block b))
          ∙ ap (λ (t : Task). lowest t (row_reads next) column cell) (sym loaded))

      abbrev T : TaskNumbers
      T = task_numbers_in block

      own_many : length own ≡ T.modes
      own_many = loaded_many H T own loaded

      task_many : length (get_or Ts i []) ≡ length own
      task_many = ap length (block_task l i more block b) ∙ task_length H T ∙ sym own_many

      in_ts : i < length Ts
      in_ts = omega (arith, count)

      -- no mode before j keeps it
      module _ (j : ℕ) (passed : j ≤ low) where
        -- and there is no mode j: none keeps it
        pub stuck : length own ≤ j → all_keep Rows 0 Ts used ≡ false
        stuck all =
            a.all ∙ keep_more Rows i Ts column low in_ts low_is
            ∙ rw (le-ltb low (length (get_or Ts i [])) (omega (arith, task_many)))

        -- mode j, as it was loaded
        module _ (in_own : j < length own) (o : Mode) (own_is : o ≡ get_or own j o) where
          abbrev Keeps : Choice → Bool
          Keeps = keeps (row_reads next) column cell

          in_held : j < length (map held own)
          in_held = omega (arith, in_own, length-map own held)

          at_hand : choice (map held own) j ≡ held o
          at_hand = get_or_default (map held own) j absent (held o) in_held ∙ get_or-map held own j o ∙ ap held (sym own_is)

          -- it does not keep it: the next mode
          pub next_mode : Keeps (held o) ≡ false → j + 1 ≤ low
          next_mode e = first_on Keeps (map held own) j in_held passed (ap Keeps at_hand ∙ e)

          -- it keeps it: the next task
          module _ (kept : Keeps (held o) ≡ true) where
            here : low ≡ j
            here = omega (arith, passed, (first_at Keeps (map held own) j in_held (ap Keeps at_hand ∙ kept)).early)

            in_task : j < T.modes
            in_task = omega (arith, in_own, own_many)

            -- the mode, and its cores, as the task has them
            as_mode : held o ≡ mode_of H T j
            as_mode = ap held own_is ∙ loaded_at H T own loaded j in_task o

            need_is : o.need ≡ (choice (get_or Ts i []) j).need
            need_is =
                ap (λ (x : Choice). x.need) as_mode
                ∙ held_need H T j (block_meets l i more block b j in_task) (row_reads next) column small cell (sym (ap Keeps as_mode) ∙ kept)
                ∙ ap (λ (x : Choice). x.need) (sym (ap (λ (t : Task). choice t j) (block_task l i more block b) ∙ choice_at H T j in_task))

            pub step : AtTask bytes cells n m used (modes ++ (j ∷ [])) (i + 1) (column - o.need) beyond next
            step =
                let lowest_at = low_is ∙ here in
                record {
                  column_in = omega (arith, a.column_in);
                  at_row = r;
                  long = rw length-append (omega (arith, a.long));
                  found = a.found ∙ ap (λ (x : List ℕ). modes ++ x) (trace_more Rows i Ts column j in_ts lowest_at)
                      ∙ rw (need_is, add-one i) (sym (append_snoc modes j _));
                  all = a.all ∙ keep_more Rows i Ts column j in_ts lowest_at
                      ∙ rw (need_is, add-one i, lt-ltb j (length (get_or Ts i [])) (omega (arith, in_own, task_many)));
                }

-- as many modes as tasks
pub traced_many : {bytes : List ℕ} {n m H : ℕ} → Plannable bytes n m H → (cells : List ℕ) (used : ℕ) (modes : ArrayVec ℕ) → TracedFrom bytes cells used (Some modes)
    → length modes.items ≡ n
traced_many {bytes} l cells used modes f =
    ap length f.1 ∙ trace_length (cell_of bytes cells) 0 (tasks_of_table bytes) used ∙ tasks_length (numbers_in bytes) ∙ l.tasks
