use mathlib.Core.Path.{refl, ap, ◌∙◌}
use Rattle.block.specs.declared.Task.{Task}
use Prim.Native.Nat.{◌-◌}
use borrow.Author.Rules.{rules}
use Rattle.std.proofs.lemmas.Iterator.{YieldsList-from_range}
use Rattle.std.proofs.lemmas.Iterator.Consumers.{fold_from_yields_List}
use Rattle.model.specs.Cells.{mark}
use Rattle.table.specs.Numbers.{task_numbers_in}
use Rattle.choices.proofs.Leasts.{lesser, least_is}
use Rattle.choices.proofs.least_need.Goals as goal

pub returns : goal.returns
returns c H =
    let t = task_numbers_in c.args.block.now in
    let count = c.read-task.result.modes in
    fold_from_yields_List _ (lesser H t) mark c.fold.result c.fold.ensures.ran (YieldsList-from_range 0 count (count - 0) refl refl) (λ a x b q k. search rules)
    ∙ least_is H t count (ap (λ (x : Task). x.modes) c.read-task.ensures) c.requires
