-- Which of several refusals is given: the first in the document's order.
use Rattle.std.specs.Prelude.{ℕ, ◌≡◌, List, [], ◌∷◌, Bool, false, cond, ◌||◌, T, eqb}
use Rattle.answer.specs.Said.{Said, refused}

-- a row of the order: a refusal's number, the place that it names, and whether it is given
pub data Row : Type 0 where
  row : ℕ → ℕ → Bool → Row

-- the first row that is given decides; where none is, the rest is answered
abbrev pub first : List Row → Said → Said
first [] rest = rest
first (row number at given ∷ rows) rest = cond given (refused number at) (first rows rest)

-- what a lent buffer holds afterwards: what it held before where a row is given
abbrev pub afterwards : List Row → List ℕ → List ℕ → List ℕ
afterwards [] before after = after
afterwards (row number at given ∷ rows) before after = cond given before (afterwards rows before after)

-- the outcome of a call that may change a lent buffer: s is said, and the buffer holds e. Where no row is given these are the rest and
-- `after`; where one is, its refusal and what the buffer held before
pub record Outcome (rows : List Row) (rest : Said) (before after : List ℕ) (s : Said) (e : List ℕ) : Type 0 where
  pub says : s ≡ first rows rest
  pub leaves : e ≡ afterwards rows before after

-- no row is given
abbrev pub NoneGiven : List Row → Type 0
NoneGiven [] = Unit
NoneGiven (row number at given ∷ rows) = (given ≡ false) × NoneGiven rows

-- one of these numbers
abbrev pub is_one_of : List ℕ → ℕ → Bool
is_one_of [] k = false
is_one_of (x ∷ xs) k = eqb k x || is_one_of xs k

abbrev pub OneOf : List ℕ → ℕ → Type 0
OneOf xs k = T (is_one_of xs k)
