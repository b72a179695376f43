use borrow.Author.Rules.{rules}
use Rattle.puts.proofs.Filled.{task_filled}
use Rattle.puts.proofs.fill_task.Goals as goal

pub returns : goal.returns
returns c =
    let a = c.args in
    let t = a.task in
    cc (task_filled a.number t.elasticity t.modes t.permitted a.figures.now
    (record {
      number = c.ranges.number.fits;
      elasticity = search rules;
      mask = search rules;
      few = c.requires.1;
      words = λ i. (c.type_inv.figures i).fits;
      three = c.requires.2;
    })
    a.out.now c.requires.0)
