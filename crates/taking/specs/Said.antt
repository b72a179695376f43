-- What taking the plan answers, in the document's numbers: cores used and cost, or a refusal.
use Rattle.std.specs.Prelude.{◌^◌, ◌<◌, Result, Ok, Err}
use Rattle.answer.specs.Said.{Said, plan, number_of, said_of}
use Rattle.answer.specs.declared.Refusal.{Refusal}
use Rattle.taking.specs.declared.Plan.{Plan}

abbrev pub Taken : Type 0
Taken = Result Plan Refusal

abbrev pub the_plan : Plan → Said
the_plan p = plan p.cores p.cost

abbrev pub said : Taken → Said
said = said_of the_plan

-- one that the code's type can hold: 8 bits for a refusal's number, 32 for its place and for cores, 64 for a cost
abbrev pub InType : Taken → Type 0
InType (Err r) = (number_of r.reason < 2 ^ 8) × (r.at < 2 ^ 32)
InType (Ok p) = (p.cores < 2 ^ 32) × (p.cost < 2 ^ 64)
