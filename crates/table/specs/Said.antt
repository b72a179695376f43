-- The document's numbers of what reading gives. A mode's figures are said by `figures_said`.
use Rattle.answer.specs.Said.{Said, header, task}
use Rattle.block.specs.declared.Header.{Header}
use Rattle.block.specs.declared.Task.{Task}

abbrev pub the_header : Header → Said
the_header h = header h.tasks h.cores h.common

abbrev pub the_task : Task → Said
the_task t = task t.elasticity t.modes t.permitted
