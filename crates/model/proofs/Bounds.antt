-- Bounds of demand and cost. Assumes nothing.
use mathlib.Core.Path.{subst⁻¹}
use mathlib.Core.Bool.{Bool, true, false, cond}
use Prim.Native.Nat.{ℕ, ◌+◌, ◌-◌, ◌*◌, ◌/◌, ◌^◌, ◌≤◌, ◌<◌}
use native.Mathlib.Nat.{le_trans, le_of_lt, lt_of_le_of_lt, mul-le-mul, mul-le-mul_left, mul-le-mul_right, mul-lt-mul_of_pos_right, div-le_self, mul-div-le, mul_assoc}
use native.Mathlib.Omega.{arith}
use lib.Pow.{pow_pos, pow-add}
use Rattle.model.specs.Rules.{rounded_up, one_core, cores_of, apart, demand_of, cost_of}
use Rattle.model.specs.inner.Costs.{dearest}

-- the product of two numbers of k bits has at most k + k
pub below : (k : ℕ) {a b : ℕ} → a < 2 ^ k → b < 2 ^ k → a * b < 2 ^ (k + k)
below k {a} {b} ha hb =
    subst⁻¹ (λ (n : ℕ). a * b < n) (pow-add 2 k k)
    (lt_of_le_of_lt (mul-le-mul_left a (le_of_lt hb)) (mul-lt-mul_of_pos_right ha (pow_pos k)))

-- a mode's cores are no more than its work and its period together
pub cores_most : (C L T : ℕ) → cores_of C L T ≤ C + T + 1
cores_most C L T = go (one_core C L T)
  where
    go : (one : Bool) → cond one 1 (rounded_up (C - L) (T - L)) ≤ C + T + 1
    go true = omega arith
    go false = le_trans (div-le_self (C - L + (T - L - 1)) (T - L)) (omega arith)

-- a demand is at most 64 H
pub demand_most : (C T H : ℕ) → C ≤ 64 * T → demand_of C T H ≤ 64 * H
demand_most C T H h =
    le_trans (mul-le-mul_right (H / T) h) (rw (mul_assoc 64 T (H / T)) (mul-le-mul_left 64 (mul-div-le H T)))

-- and where H is within its limit, at most 6400000
pub demand_within : (C T H : ℕ) → C ≤ 64 * T → H ≤ 100000 → demand_of C T H ≤ 6400000
demand_within C T H c h = le_trans (demand_most C T H c) (mul-le-mul_left 64 h)

pub square_most : (most d : ℕ) → d ≤ most → d * d ≤ most * most
square_most most d h = mul-le-mul h h

-- one mode costs at most 103219200000000000
pub cost_most : (E nominal demand : ℕ) → nominal ≤ 6400000 → demand ≤ 6400000 → cost_of E nominal demand ≤ dearest
cost_most E nominal demand h₀ h =
    let d : apart nominal demand ≤ 6400000 = omega arith in
    mul-le-mul {n₂ = 2520} {m₂ = 40960000000000} (div-le_self 2520 E) (square_most 6400000 (apart nominal demand) d)
