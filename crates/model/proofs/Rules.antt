-- Laws of the rules for one mode. Assumes nothing.
use mathlib.Core.Path.{◌≡◌, ap, sym, ◌∙◌}
use mathlib.Core.Bool.{true, false}
use mathlib.Core.Logic.{◌⊎◌, ⊎_elim, inl, inr}
use Prim.Native.Nat.{ℕ, ◌+◌, ◌-◌, ◌*◌, ◌/◌, ◌≤◌, ◌<◌}
use native.Mathlib.Nat.{add-div_right}
use Rattle.std.specs.Int.{div_ceil}
use Rattle.std.proofs.Math.Nat.{div-eq_of_lt-le}
use Rattle.std.proofs.lemmas.Grind.{div_ceil_times}
use native.Mathlib.Omega.{arith}
use lib.Dec.{eqb, leb, ltb}
use borrow.Author.Tests.{eqb-true, leb-true, ltb-true, eq-eqb, ne_eqb, le-leb, lt-ltb}
use Rattle.answer.specs.Said.{refused, needs}
use Rattle.answer.proofs.Bools.{and_true, or_true}
use Rattle.model.specs.Rules.{rounded_up, one_core, more_cores, meets, cores_said}

-- how a mode meets its period
abbrev Meets : ℕ → ℕ → ℕ → Type 0
Meets C L T = ((C ≡ L) × (L ≤ T)) ⊎ ((L < T) × (L < C))

meets_fact : (C L T : ℕ) → meets C L T ≡ true → Meets C L T
meets_fact C L T e =
    ⊎_elim (λ h. let r = and_true (eqb C L) (leb L T) h in inl (eqb-true C L r.0, leb-true L T r.1))
    (λ h. let r = and_true (ltb L T) (ltb L C) h in inr (ltb-true L T r.0, ltb-true L C r.1))
    (or_true (one_core C L T) (more_cores C L T) e)

-- rounding up without the sum
pub up_is : (a b : ℕ) → 0 < a → 0 < b → (a - 1) / b + 1 ≡ rounded_up a b
up_is a b ha hb =
    let e : a - 1 + b ≡ a + (b - 1) = omega arith in
    sym (add-div_right (a - 1) hb) ∙ ap (λ (n : ℕ). n / b) e

-- the library's quotient, rounded up, is the document's
pub ceil_is : (a b : ℕ) → 0 < b → div_ceil a b ≡ rounded_up a b
ceil_is a b hb =
    let bounds = div_ceil_times a b hb in
    let next : (div_ceil a b + 1) * b ≡ div_ceil a b * b + b = omega arith in
    sym (div-eq_of_lt-le {k = div_ceil a b} b (omega (arith, bounds.1)) (omega (arith, bounds.0, next)))

-- which of the three cases a mode's cores are in, as the document says it
pub cores_late : (C L T : ℕ) → meets C L T ≡ false → refused 13 0 ≡ cores_said C L T
cores_late C L T e = rw e

pub cores_one : (C L T : ℕ) → meets C L T ≡ true → C ≡ L → needs 1 ≡ cores_said C L T
cores_one C L T e same = ⊎_elim (λ h. simp (eq-eqb C L h.0, le-leb L T h.1)) (λ h. absurd (omega arith)) (meets_fact C L T e)

pub meets_more : (C L T : ℕ) → meets C L T ≡ true → (C ≡ L → ⊥) → (L < T) × (L < C)
meets_more C L T e ne = ⊎_elim (λ h. absurd (ne h.0)) (λ h. h) (meets_fact C L T e)

pub cores_more : (C L T : ℕ) → meets C L T ≡ true → (C ≡ L → ⊥) → needs (rounded_up (C - L) (T - L)) ≡ cores_said C L T
cores_more C L T e ne = let h = meets_more C L T e ne in simp (ne_eqb C L ne, lt-ltb L T h.0, lt-ltb L C h.1)
