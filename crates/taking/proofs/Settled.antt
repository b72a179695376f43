-- Each public promise settles its outcome: the answer, and every byte of the lent output. At most one is allowed, and of `take` at least
-- one. Assumes nothing.
use Prim.Native.Nat.{ℕ, ◌^◌, ◌≤◌, ◌<◌}
use native.Mathlib.Omega.{arith}
use mathlib.Core.List.{List, ◌++◌}
use mathlib.Core.Path.{◌≡◌, refl, sym, ap, ◌∙◌}
use lib.ListN.{length, length-append, length-drop}
use Rattle.std.specs.Prelude.{Ok, Err}
use Rattle.answer.specs.Said.{refused, plan}
use Rattle.answer.proofs.Reasons.{number_small}
use Rattle.answer.specs.Order.{NoneGiven}
use Rattle.answer.specs.One.{One, AtLeastOne}
use Rattle.answer.proofs.Rows.{none_append, numbers}
use Rattle.answer.proofs.Settled.{said_one}
use Rattle.answer.proofs.Held.{Held, some_refusal}
use Rattle.answer.proofs.Outcomes.{outcome_one}
use Rattle.answer.proofs.Each.{Fits, fits_front, Some, some, some_long}
use Rattle.model.specs.Limits.{most_cores}
use Rattle.model.specs.Cells.{mark}
use Rattle.model.specs.Workspace.{cell_in}
use Rattle.model.specs.Taking.{used, take_rows, take_modes}
use Rattle.model.proofs.Sums.{reads_most}
use Rattle.model.proofs.Taking.{used_le, trace_length}
use Rattle.block.specs.Bytes.{Bytes}
use Rattle.table.specs.Said.{the_header}
use Rattle.table.proofs.Settled.{header_same}
use Rattle.table.specs.Order.{table_rows}
use Rattle.table.specs.Numbers.{numbers_in}
use Rattle.table.proofs.Refusals.{front_fits, task_fits}
use Rattle.table.proofs.Accepted.{lawful}
use Rattle.choices.specs.Tasks.{tasks_of_table, cores_of_table, cells_of_table}
use Rattle.choices.proofs.Tables.{tasks_length}
use Rattle.taking.specs.Said.{Taken, the_plan, said, InType}
use Rattle.taking.specs.contracts.Plan as plans
use Rattle.taking.proofs.Plan.TheLaws as plan_laws
use Rattle.taking.specs.Take.{cell_of, lent_rows, progress_rows, taking_rows, with_modes}
use Rattle.taking.proofs.Refusals.{own_numbers, each_taking}
use Rattle.taking.proofs.Lent.{all_none}
use Rattle.taking.proofs.take_from.Kinds as take_from_kinds
use Rattle.taking.proofs.take_from.Reads as take_from_reads
use Rattle.taking.proofs.check_lent.Kinds as check_lent_kinds
use Rattle.taking.proofs.check_lent.Reads as check_lent_reads
use Rattle.taking.proofs.take.Kinds as take_kinds
use Rattle.taking.proofs.take.Reads as take_reads
use Rattle.taking.proofs.PlanPartialEq.eq.Kinds as plan_eq_kinds
use Rattle.taking.proofs.PlanPartialEq.eq.Reads as plan_eq_reads

-- what is said of an answer is the whole of it
pub one_answer : (x y : Taken) → said x ≡ said y → x ≡ y
one_answer =
    said_one the_plan (λ p q e. ap (λ s. record { cores = (numbers s).0; cost = (numbers s).1 }) e) (λ p z. omega (arith, z))

pub take_from_one : One take_from_kinds.ps take_from_kinds.r take_from_reads.Post
take_from_one κs a x y s t p q =
    let o = outcome_one p q in (one_answer x y o.0, ap (λ (d : List ℕ). (tt, (tt, (d, tt)))) o.1)

pub check_lent_one : One check_lent_kinds.ps check_lent_kinds.r check_lent_reads.Post
check_lent_one κs a x y s t p q = (said_one the_header header_same (λ h z. omega (arith, z)) x y (p ∙ sym q), refl)

pub take_one : One take_kinds.ps take_kinds.r take_reads.Post
take_one κs a x y s t p q =
    let o = outcome_one p q in (one_answer x y o.0, ap (λ (d : List ℕ). (tt, (tt, (tt, (d, tt))))) o.1)

-- ---- at least one
abbrev pub HeldTaken : Taken → Type 0
HeldTaken = Held plans.the_row plan_laws.the_row_laws plan_laws.the_told

pub some_plan : (u v : ℕ) → u < 2 ^ 32 → v < 2 ^ 64 → (x : Taken) × HeldTaken x × (said x ≡ plan u v)
some_plan u v h g =
    (Ok (record { cores = u; cost = v }), (_, (refl, (_, (refl, ((_, (refl, ((refl, h), ((refl, g), tt)))), tt))))), refl)

pub some_refused : (k at : ℕ) → Fits k at → (x : Taken) × HeldTaken x × (said x ≡ refused k at)
some_refused = some_refusal plans.the_row plan_laws.the_row_laws plan_laws.the_told the_plan

-- its numbers then have their widths
pub held_in_type : (x : Taken) → HeldTaken x → InType x
held_in_type (Err r) (_, (_, (_, (_, ((_, (_, (k, (at, _)))), _))))) = (number_small r.reason, at.1)
held_in_type (Ok p) (_, (_, (_, (_, ((_, (_, (cores, (cost, _)))), _))))) = (cores.1, cost.1)

module _ (bytes cells : List ℕ) (p : ℕ) (out : List ℕ) (is : Bytes bytes) where
  abbrev rows : ℕ → ℕ → ℕ
  rows = cell_of bytes cells

  abbrev modes : List ℕ
  modes = take_modes rows (tasks_of_table bytes) (cores_of_table bytes)

  -- past its rows the table is accepted, and the output has room
  past : NoneGiven (taking_rows bytes cells p (length out)) → NoneGiven (table_rows bytes) × ((numbers_in bytes).tasks ≤ length out)
  unfolding taking_rows
  past none =
      let later = progress_rows (cells_of_table bytes) p ++ take_rows rows (tasks_of_table bytes) (cores_of_table bytes) in
      let n = all_none bytes (length cells) (length out) (none_append (lent_rows bytes (length cells) (length out)) later none).0 in
      (n.0, n.2)

  small : NoneGiven (taking_rows bytes cells p (length out)) → used (rows 0) (cores_of_table bytes) ≤ most_cores
  small none = omega (arith, used_le (rows 0) (cores_of_table bytes), (lawful bytes is (past none).0).numbers.header.cores_high)

  within : rows 0 (cores_of_table bytes) ≤ mark
  unfolding cell_in
  within = reads_most _

  pub some_taken : Some Fits said HeldTaken (taking_rows bytes cells p (length out)) (plan (used (rows 0) (cores_of_table bytes)) (rows 0 (cores_of_table bytes))) out (with_modes modes out)
  some_taken =
      some Fits said HeldTaken (taking_rows bytes cells p (length out)) (plan (used (rows 0) (cores_of_table bytes)) (rows 0 (cores_of_table bytes))) out (with_modes modes out)
      (each_taking Fits bytes (front_fits bytes is) (task_fits bytes is) (fits_front own_numbers tt) cells p (length out)) some_refused
      (λ none. some_plan (used (rows 0) (cores_of_table bytes)) (rows 0 (cores_of_table bytes)) (omega (arith, small none)) (omega (arith, within)))

  as_long : length some_taken.left ≡ length out
  as_long =
      some_long Fits said HeldTaken (taking_rows bytes cells p (length out)) (plan (used (rows 0) (cores_of_table bytes)) (rows 0 (cores_of_table bytes))) out (with_modes modes out) some_taken
      (λ none.
      let many : length modes ≡ (numbers_in bytes).tasks = trace_length rows 0 (tasks_of_table bytes) (used (rows 0) (cores_of_table bytes)) ∙ tasks_length (numbers_in bytes) in
      simp (length-append, length-drop) (omega (arith, many, (past none).1)))

pub take_some : AtLeastOne take_kinds.ps take_kinds.r (λ κs a. Bytes a.0.now) take_reads.Post
take_some κs (table, (cells, (p, (out, rest)))) is =
    let o = some_taken table.now cells.now p out.now is in
    (o.answer, (tt, (tt, (tt, (o.left, tt)))), o.held, (tt, (tt, (tt, (as_long table.now cells.now p out.now is, tt)))), o.allowed)

pub plan_eq_one : One plan_eq_kinds.ps plan_eq_kinds.r plan_eq_reads.Post
plan_eq_one κs a x y s t p q = (p ∙ sym q, refl)
