-- The promise of planning in one call settles its outcome: the answer, every cell of the workspace and every byte of the output. At most
-- one is allowed, and at least one. Assumes nothing.
use Prim.Native.Nat.{ℕ, ◌≤◌}
use native.Mathlib.Omega.{arith}
use mathlib.Core.Path.{◌≡◌, refl, sym, ap, ap₂, ◌∙◌}
use mathlib.Core.Logic.{◌⊎◌, inl, inr}
use mathlib.Core.List.{List}
use lib.ListN.{length, length-append, length-drop}
use Rattle.answer.specs.Said.{refused, plan, written}
use Rattle.answer.specs.Order.{Row, NoneGiven}
use Rattle.answer.specs.One.{One, AtLeastOne}
use Rattle.answer.proofs.Rows.{kind, none_first}
use Rattle.answer.proofs.Each.{Fits, Refuses, decide}
use Rattle.model.specs.Plan.{Task, total_cores, total_cost}
use Rattle.model.specs.Workspace.{fill}
use Rattle.model.specs.Taking.{take_modes, Right}
use Rattle.model.specs.inner.Filled.{take_said}
use Rattle.model.proofs.Order.{one_plan}
use Rattle.model.proofs.Fills.{fill_length}
use Rattle.model.proofs.Best.{selection_length, cost_within}
use Rattle.block.specs.Bytes.{Bytes}
use Rattle.table.specs.Numbers.{numbers_in}
use Rattle.table.specs.inner.Accepted.{LawfulTable}
use Rattle.table.proofs.Refusals.{front_fits, task_fits}
use Rattle.table.proofs.Accepted.{lawful}
use Rattle.choices.specs.Tasks.{tasks_of_table, cores_of_table, cells_of_table}
use Rattle.choices.proofs.Tables.{tasks_length, limits}
use Rattle.portions.specs.Portion.{rule_of}
use Rattle.taking.specs.Said.{Taken, said}
use Rattle.taking.specs.Take.{cell_of, lent_rows, with_modes}
use Rattle.taking.proofs.Refusals.{each_room}
use Rattle.taking.proofs.Lent.{all_none}
use Rattle.taking.proofs.Settled.{one_answer, HeldTaken, some_refused, some_plan}
use Rattle.whole.specs.Whole.{RefusedFirst, Ends, Planned, PlannedWhole}
use Rattle.whole.proofs.Filled.{all_hold, right}
use Rattle.whole.proofs.plan_whole.Kinds as plan_whole_kinds
use Rattle.whole.proofs.plan_whole.Reads as plan_whole_reads

module _ (bytes cells out : List ℕ) where
  abbrev Same : Taken → List ℕ → List ℕ → Taken → List ℕ → List ℕ → Type 0
  Same x c o y d p = (said x ≡ said y) × (c ≡ d) × (o ≡ p)

  -- a row is given or none is
  either : (x : Taken) (c o : List ℕ) (y : Taken) (d p : List ℕ) → RefusedFirst bytes cells out x c o → Planned bytes cells out y d p → ⊥
  either x c o y d p a b =
      let rows = lent_rows bytes (length cells) (length out) in
      let six : said x ≡ plan 0 0 = a.answer (plan 0 0) ∙ none_first rows (plan 0 0) b.none in
      let seven : said x ≡ written = a.answer written ∙ none_first rows written b.none in
      let z : ◌≡◌ {A = ℕ} 6 7 = ap kind (sym six ∙ seven) in
      omega arith

  both : (x : Taken) (c o : List ℕ) (y : Taken) (d p : List ℕ) → Planned bytes cells out x c o → Planned bytes cells out y d p → Same x c o y d p
  both x c o y d p a b = go a.ends b.ends
    where
      go : Ends bytes cells out x c o → Ends bytes cells out y d p → Same x c o y d p
      go (inl (s, g, f)) (inl (t, h, k)) =
          let e = one_plan (tasks_of_table bytes) (cores_of_table bytes) s t g.plan_is h.plan_is in (
            g.answer ∙ ap₂ plan (ap (total_cores (tasks_of_table bytes)) e) (ap (total_cost (tasks_of_table bytes)) e) ∙ sym h.answer,
            f ∙ sym k,
            g.modes ∙ ap (λ (m : List ℕ). with_modes m out) e ∙ sym h.modes,
          )
      go (inl (s, g, f)) (inr (h, k)) = absurd (h.nothing s g.plan_is.selection g.plan_is.fits)
      go (inr (g, f)) (inl (t, h, k)) = absurd (g.nothing t h.plan_is.selection h.plan_is.fits)
      go (inr (g, f)) (inr (h, k)) = (g.answer ∙ sym h.answer, f ∙ sym k, g.kept ∙ sym h.kept)

  one : (x : Taken) (c o : List ℕ) (y : Taken) (d p : List ℕ) → PlannedWhole bytes cells out x c o → PlannedWhole bytes cells out y d p
      → Same x c o y d p
  one x c o y d p (inl a) (inl b) =
      (a.answer written ∙ sym (b.answer written), a.cells_kept ∙ sym b.cells_kept, a.out_kept ∙ sym b.out_kept)
  one x c o y d p (inl a) (inr b) = absurd (either x c o y d p a b)
  one x c o y d p (inr a) (inl b) = absurd (either y d p x c o b a)
  one x c o y d p (inr a) (inr b) = both x c o y d p a b

pub plan_whole_one : One plan_whole_kinds.ps plan_whole_kinds.r plan_whole_reads.Post
plan_whole_one κs a x y s t p q =
    let e = one _ _ _ x _ _ y _ _ p q in
    (one_answer x y e.0, ap₂ (λ (c o : List ℕ). (tt, (c, (o, tt)))) e.1 e.2)

-- ---- at least one
module _ (bytes cells out : List ℕ) (is : Bytes bytes) where
  record Some : Type 0 where
    answer : Taken
    held : HeldTaken answer
    cells_left : List ℕ
    out_left : List ℕ
    as_many : (length cells_left ≡ length cells) × (length out_left ≡ length out)
    allowed : PlannedWhole bytes cells out answer cells_left out_left

  -- a refusal, and both buffers as they were
  refused_so : (k at : ℕ) → Fits k at → ((r : Taken) → said r ≡ refused k at → PlannedWhole bytes cells out r cells out) → Some
  refused_so k at f keeps =
      let (r, held, told) = some_refused k at f in
      record { answer = r; held = held; cells_left = cells; out_left = out; as_many = (refl, refl); allowed = keeps r told }

  abbrev Rows : List Row
  Rows = lent_rows bytes (length cells) (length out)

  -- every cell is filled, and they hold the plan, or that nothing fits
  module _ (none : NoneGiven Rows) (table : LawfulTable bytes) (space : (numbers_in bytes).tasks ≤ length out)
      (full : List ℕ) (filled : full ≡ fill (rule_of bytes) cells 0 (cells_of_table bytes)) where
    abbrev ts : List Task
    ts = tasks_of_table bytes

    abbrev modes : List ℕ
    modes = take_modes (cell_of bytes full) ts (cores_of_table bytes)

    by_cells : Right ts (cores_of_table bytes) (take_said (cell_of bytes full) ts (cores_of_table bytes)) modes → Some
    by_cells (inl (p, e)) =
        let many : length modes ≡ (numbers_in bytes).tasks = selection_length ts modes p.selection ∙ tasks_length (numbers_in bytes) in
        let (r, held, told) = some_plan (total_cores ts modes) (total_cost ts modes) (omega (arith, p.fits, table.numbers.header.cores_high))
        (omega (arith, cost_within ts modes (limits (numbers_in bytes) table.numbers))) in
        record {
          answer = r;
          held = held;
          cells_left = full;
          out_left = with_modes modes out;
          as_many = (ap length filled ∙ fill_length (rule_of bytes) cells 0 (cells_of_table bytes), simp (length-append, length-drop) (omega (arith, many)));
          allowed = inr (record { none = none; ends = inl (modes, record { plan_is = p; answer = told; modes = refl }, filled) });
        }
    by_cells (inr (n, e)) =
        refused_so 14 0 (refl, omega arith)
        (λ r told. inr (record { none = none; ends = inr (record { nothing = n; answer = told; kept = refl }, refl) }))

  some_planned : Some
  some_planned = go (decide Fits Rows (each_room Fits bytes (front_fits bytes is) (task_fits bytes is) (refl, omega arith) (length cells) (length out)))
    where
      go : NoneGiven Rows ⊎ Refuses Fits Rows → Some
      go (inl none) =
          let p = all_none bytes (length cells) (length out) none in
          let table = lawful bytes is p.0 in
          let full = fill (rule_of bytes) cells 0 (cells_of_table bytes) in
          by_cells none table p.2 full refl (right bytes full table (all_hold bytes cells p.1 full refl))
      go (inr d) =
          refused_so d.number d.at d.such
          (λ r told. inl (record { answer = λ rest. told ∙ d.says rest; cells_kept = refl; out_kept = refl }))

pub plan_whole_some : AtLeastOne plan_whole_kinds.ps plan_whole_kinds.r (λ κs a. Bytes a.0.now) plan_whole_reads.Post
plan_whole_some κs (table, (cells, (out, rest))) is =
    let o = some_planned table.now cells.now out.now is in
    (o.answer, (tt, (o.cells_left, (o.out_left, tt))), o.held, (tt, (o.as_many.0, (o.as_many.1, tt))), o.allowed)
