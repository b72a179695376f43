-- The invariant: the cells passed are held, as they count.
use mathlib.Core.Path.{◌≡◌}
use Prim.Native.Nat.{ℕ, ◌+◌, ◌≤◌, ◌<◌}
use lib.ListN.{length, get_or}
use Rattle.model.specs.Cells.{ceiling}
use Rattle.cells.specs.inner.Rows.{widest, row_reads}
use Rattle.cells.proofs.next_row.NextRow.new.Given as goal

abbrev pub invariant-loop-c : goal.invariant-loop-c
invariant-loop-c l = record {
  long : length l.counts ≡ widest;
  small : (k : ℕ) → get_or l.counts k 0 ≤ ceiling + 1;
  same : (k : ℕ) → k < l.c → row_reads l.counts k ≡ row_reads l.next k;
}
