use native.Mathlib.Omega.{arith}
use mathlib.Core.Path.{refl, ◌∙◌}
use lib.ListN.{length-set}
use Rattle.cells.proofs.Counts.{counted, none_count, one_count, one_more}
use Rattle.cells.proofs.next_row.NextRow.new.Goals as goal

pub loop-c-init : goal.loop-c-init
loop-c-init c = record { long = refl; small = none_count 65; same = λ k h. absurd (omega arith) }

pub loop-c-preserved : goal.loop-c-preserved
loop-c-preserved c =
    let l = c.loop-c in
    let i = l.invariant in
    let next = c.args.next.now in
    record {
      long = length-set l.counts l.c c.count_of.result ∙ i.long;
      small = one_count l.counts l.c c.count_of.result i.small (counted _ _ c.count_of.ensures);
      same = one_more next l.counts l.c c.count_of.result (omega arith) c.count_of.ensures i.same;
    }
