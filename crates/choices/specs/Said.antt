-- Asking for a choice, in the document's numbers.
use Rattle.std.specs.Prelude.{ℕ, List}
use Rattle.answer.specs.Said.{Said, choice}
use Rattle.answer.specs.Order.{first}
use Rattle.table.specs.Order.{ask_mode_rows}
use Rattle.table.specs.Numbers.{numbers_in}
use Rattle.choices.specs.Tasks.{choice_of}
use Rattle.choices.specs.declared.Choice.{Choice}

abbrev pub the_choice : Choice → Said
the_choice c = choice c.permitted c.cores c.cost

-- the mode as the planner sees it; refused as asking for its figures is
abbrev pub ask_choice_said : List ℕ → ℕ → ℕ → Said
ask_choice_said bytes i j =
    let c = choice_of (numbers_in bytes).common ((numbers_in bytes).task i) j in
    first (ask_mode_rows bytes i j) (choice c.permitted c.need c.cost)
