-- The document's number and values for a mode's cores: so many, or none, since it can't meet its period.
use Rattle.std.specs.Prelude.{ℕ, Option, Some, None}
use Rattle.answer.specs.Said.{Said, refused, needs}

abbrev pub said : Option ℕ → Said
said (Some k) = needs k
said None = refused 13 0
