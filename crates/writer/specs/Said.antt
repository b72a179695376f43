-- What a writer answers, in the document's numbers: the block is written, or a refusal.
use Rattle.std.specs.Prelude.{Result}
use Rattle.answer.specs.Said.{Said, written, said_of}
use Rattle.answer.specs.declared.Refusal.{Refusal}

abbrev pub Written : Type 0
Written = Result (Unit {0}) Refusal

abbrev pub said : Written → Said
said = said_of (λ x. written)
