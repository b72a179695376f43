-- The invariant: the columns before this one have other costs than column m.
use Prim.Native.Nat.{◌≤◌}
use Rattle.model.specs.Taking.{used}
use Rattle.cells.specs.inner.Rows.{row_reads}
use Rattle.taking.proofs.smallest.Given as goal

abbrev pub invariant-loop-column : goal.invariant-loop-column
invariant-loop-column l = l.column ≤ used (row_reads l.row) l.m
