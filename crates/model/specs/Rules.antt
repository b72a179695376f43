-- Rules for one mode, with work C, span L and period T: cores, demand and cost.
use Rattle.std.specs.Prelude.{ℕ, ◌+◌, ◌-◌, ◌*◌, ◌/◌, Bool, cond, not, ◌&&◌, ◌||◌, [], ◌∷◌, ltb, leb, eqb}
use Rattle.answer.specs.Said.{Said, needs}
use Rattle.answer.specs.Order.{row, first}

-- a / b, rounded up
abbrev pub rounded_up : ℕ → ℕ → ℕ
rounded_up a b = (a + (b - 1)) / b

-- C = L and L is at most T: 1 core
abbrev pub one_core : ℕ → ℕ → ℕ → Bool
one_core C L T = eqb C L && leb L T

-- L is below T and C is above L: the quotient
abbrev pub more_cores : ℕ → ℕ → ℕ → Bool
more_cores C L T = ltb L T && ltb L C

-- otherwise the mode can't meet its period
abbrev pub meets : ℕ → ℕ → ℕ → Bool
meets C L T = one_core C L T || more_cores C L T

-- the cores of a mode that meets its period: 1, or (C - L) / (T - L), rounded up
abbrev pub cores_of : ℕ → ℕ → ℕ → ℕ
cores_of C L T = cond (one_core C L T) 1 (rounded_up (C - L) (T - L))

-- refusal 13, or the cores
abbrev pub cores_said : ℕ → ℕ → ℕ → Said
cores_said C L T = first (row 13 0 (not (meets C L T)) ∷ []) (needs (cores_of C L T))

-- C times (H / T): the work done in one common period H
abbrev pub demand_of : ℕ → ℕ → ℕ → ℕ
demand_of C T H = C * (H / T)

-- the difference of two numbers, whichever is the larger
abbrev pub apart : ℕ → ℕ → ℕ
apart a b = (a - b) + (b - a)

-- (2520 / E) times the square of the difference between the demand of mode 0 and the demand of this mode
abbrev pub cost_of : ℕ → ℕ → ℕ → ℕ
cost_of E nominal demand = 2520 / E * (apart nominal demand * apart nominal demand)
