-- What a portion answers, in the document's numbers: the new progress, or a refusal.
use Rattle.std.specs.Prelude.{ℕ, ◌^◌, ◌<◌, Result, Ok, Err}
use Rattle.answer.specs.Said.{Said, filled, number_of, said_of}
use Rattle.answer.specs.declared.Refusal.{Refusal}

abbrev pub Filling : Type 0
Filling = Result ℕ Refusal

abbrev pub said : Filling → Said
said = said_of filled

-- one that the code's type can hold: 8 bits for a refusal's number, 32 for its place and for a progress
abbrev pub InType : Filling → Type 0
InType (Err r) = (number_of r.reason < 2 ^ 8) × (r.at < 2 ^ 32)
InType (Ok p) = p < 2 ^ 32
