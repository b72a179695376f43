-- The tests of a block's numbers, the same for reading and for writing.
use Rattle.std.specs.Prelude.{ℕ, zero, suc, ◌+◌, ◌-◌, ◌*◌, ◌/◌, ◌%◌, ◌^◌, Bool, false, not, ◌||◌, List, [], ◌∷◌, ◌++◌, eqb, ltb}
use Rattle.answer.specs.Order.{Row, row}
use Rattle.model.specs.Limits.{most_tasks, most_cores}
use Rattle.model.specs.Rules.{meets}
use Rattle.model.specs.declared.Figures.{Figures}

abbrev pub outside : ℕ → ℕ → ℕ → Bool
outside low high x = ltb x low || ltb high x

-- 5: n, m or H beyond its limits
abbrev pub wrong_common : ℕ → Bool
wrong_common H = outside 1 100000 H

abbrev pub wrong_limits : ℕ → ℕ → ℕ → Bool
wrong_limits n m H = outside 1 most_tasks n || outside 1 most_cores m || wrong_common H

-- 9: E or mode count beyond limits
abbrev pub wrong_shape : ℕ → ℕ → Bool
wrong_shape E modes = outside 1 10 E || outside 1 16 modes

-- bit j of the permitted modes allows mode j
unfoldable pub allows : ℕ → ℕ → Bool
allows permitted j = eqb (permitted / 2 ^ j % 2) 1

-- one of the k modes from j on is allowed
unfoldable pub any_allowed : ℕ → ℕ → ℕ → Bool
any_allowed permitted j zero = false
any_allowed permitted j (suc k) = allows permitted j || any_allowed permitted (j + 1) k

-- 10: permitted modes empty or beyond the count
abbrev pub wrong_permitted : ℕ → ℕ → Bool
wrong_permitted permitted modes = not (any_allowed permitted 0 16) || any_allowed permitted modes (16 - modes)

-- 11: period zero or not dividing H
abbrev pub wrong_period : ℕ → ℕ → Bool
wrong_period H T = eqb T 0 || not (eqb (H % T) 0)

-- 12: work or span zero, span above work, or work above 64 periods
abbrev pub wrong_work : ℕ → ℕ → ℕ → Bool
wrong_work C L T = eqb C 0 || eqb L 0 || ltb C L || ltb (64 * T) C

-- a mode's rows: 11, 12, and 13: mode can't meet its period
abbrev pub figure_rows : ℕ → ℕ → Figures → List Row
figure_rows at H f =
    row 11 at (wrong_period H f.period)
    ∷ row 12 at (wrong_work f.work f.span f.period)
    ∷ row 13 at (not (meets f.work f.span f.period))
    ∷ []

-- those of modes in turn
unfoldable pub modes_rows : ℕ → ℕ → List Figures → List Row
modes_rows at H [] = []
modes_rows at H (f ∷ fs) = figure_rows at H f ++ modes_rows at H fs
