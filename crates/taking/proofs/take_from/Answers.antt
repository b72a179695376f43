use Prim.Native.Nat.{ℕ, ◌+◌, ◌*◌, ◌≤◌}
use native.Mathlib.Omega.{arith}
use mathlib.Core.Path.{refl, ap, ◌∙◌}
use mathlib.Core.List.{List}
use Rattle.model.specs.Workspace.{cell_count}
use Rattle.model.proofs.Taking.{used_le}
use Rattle.cells.specs.inner.Rows.{row_reads}
use Rattle.answer.proofs.Elses.{by_reason}
use Rattle.choices.proofs.Tables.{few_cores}
use Rattle.taking.specs.Take.{with_modes}
use Rattle.taking.proofs.Tracing.{row_of, traced_many}
use Rattle.taking.proofs.Exits.{marked, unkept, planned}
use Rattle.taking.proofs.take_from.Goals as goal

-- row 0 is there
room : (n m len : ℕ) → cell_count n m ≤ len → n * (m + 1) + m + 1 ≤ len
unfolding cell_count
room n m len h = omega arith

pub slice_bounds-row-end : goal.slice_bounds-row-end
slice_bounds-row-end c = room c.args.checked.header.tasks c.args.checked.header.cores _ c.requires.0

pub returns-then-cost : goal.returns-then-cost
returns-then-cost c =
    marked c.args.checked.plannable c.args.cells.now c.args.out.now c.reads-cost.result c.reads-cost.ensures (by_reason _ _ c.at.ensures) c.if-cost.true

-- cores used are at most m
pub trace-requires : goal.trace-requires
trace-requires c =
    (rw c.smallest-used.ensures (used_le (row_reads (row_of c.args.cells.now (c.args.checked.header.tasks * (c.args.checked.header.cores + 1)) c.args.checked.header.cores)) c.args.checked.header.cores), c.requires.0)

pub returns-in_default : goal.returns-in_default
returns-in_default c =
    unkept c.args.checked.plannable c.args.cells.now c.args.out.now c.reads-cost.result c.reads-cost.ensures c.if-cost.false c.smallest-used.result c.smallest-used.ensures
    (by_reason _ _ c.at-in_default.ensures) c.in_default.ensures

pub put-requires : goal.put-requires
put-requires c =
    let a = c.args in
    rw c.as_slice.ensures.value (omega (arith, c.requires.1, traced_many c.args.checked.plannable a.cells.now c.smallest-used.result c.in-Some.modes c.in-Some.ensures))

pub overflow_cast-cores : goal.overflow_cast-cores
overflow_cast-cores c =
    let u : c.smallest-used.result ≤ c.args.checked.header.cores = rw c.smallest-used.ensures (used_le (row_reads (row_of c.args.cells.now (c.args.checked.header.tasks * (c.args.checked.header.cores + 1)) c.args.checked.header.cores)) c.args.checked.header.cores) in
    omega (arith, few_cores c.args.checked.plannable)

pub returns : goal.returns
returns c =
    planned c.args.checked.plannable c.args.cells.now c.args.out.now c.reads-cost.result c.reads-cost.ensures c.if-cost.false c.smallest-used.result c.smallest-used.ensures
    c.in-Some.modes c.in-Some.ensures refl (c.put.ensures ∙ ap (λ (x : List ℕ). with_modes x c.args.out.now) c.as_slice.ensures.value)
