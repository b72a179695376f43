use mathlib.Core.Path.{◌≡◌, sym, ap, ◌∙◌}
use native.Mathlib.Omega.{arith}
use Rattle.std.specs.List.{fold}
use Rattle.std.proofs.lemmas.List.{at_drop_more, at_drop_all}
use Rattle.model.specs.Cells.{reads}
use Rattle.cells.proofs.Counts.{of_two, lesser, least_is}
use Rattle.cells.proofs.least.Goals as goal
use Rattle.cells.proofs.least.Goals.{in-Some, in_default}

-- the mode's offer counts among those taken in
pub loop-mode-preserved : goal.loop-mode-preserved
unfolding of_two
loop-mode-preserved c =
    let a = c.args in
    let l = c.loop-mode in
    let taken : c.match-offer.best ≡ lesser a.next.now.counts a.column l.best c.mode-item.result = elim c.match-offer.branch [
      | in-Some w ↦ w.best-is ∙ w.min-best.ensures ∙ ap (of_two l.best) (sym w.in-Some.is ∙ c.offer.ensures)
      | in_default w ↦ w.best-is ∙ ap (of_two l.best) (sym w.in_default.is ∙ c.offer.ensures)
    ] in
    rw (taken, c.mode-item.is)
    (sym (at_drop_more (fold (lesser a.next.now.counts a.column) l.best) a.modes.now l.mode-index c.mode-item.result (omega arith)) ∙ l.invariant)

pub returns : goal.returns
returns c =
    let a = c.args in
    let l = c.loop-mode in
    c.reads.ensures
    ∙ ap reads (sym (at_drop_all (fold (lesser a.next.now.counts a.column) l.best) a.modes.now l.mode-index (omega arith)) ∙ l.invariant)
    ∙ least_is a.next.now.counts a.column a.modes.now
