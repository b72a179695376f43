-- What a put leaves of a buffer.
use Rattle.std.specs.Prelude.{ℕ, ◌+◌, List, [], ◌∷◌, ◌++◌, length, take, drop}

-- the buffer with these bytes in place of as many from an offset on
unfoldable pub over : List ℕ → ℕ → List ℕ → List ℕ
over buffer at bytes = (take at buffer ++ bytes) ++ drop (at + length bytes) buffer

-- the first 8 bytes of either block as the code puts them: in a task block the third number is the mode count with the zero byte behind
-- it
unfoldable pub front_widths : List ℕ
front_widths = 1 ∷ 1 ∷ 2 ∷ 2 ∷ 2 ∷ []
