-- Laws of the permitted modes. Assumes nothing.
use Prim.Native.Nat.{ℕ, zero, suc, ◌+◌, ◌*◌, ◌/◌, ◌%◌, ◌^◌, ◌≤◌, ◌<◌}
use native.Mathlib.Nat.{lt_of_lt_of_le, zero-add, eq-or-lt_of_le, pow-succ', mod-eq_of_lt, div-div-eq-div-mul, mul_comm}
use native.Mathlib.Numerals.{add-one}
use native.Mathlib.Omega.{arith}
use borrow.Author.Tests.{ne_eqb}
use lib.Arith.{mod-mul}
use lib.Bits.{bit_and, and_mask}
use lib.Pow.{pow_mono, pow_pos, shr_lt}
use lib.Dec.{eqb}
use mathlib.Core.Path.{◌≡◌, refl, sym, ap, subst}
use mathlib.Core.Bool.{true, false, not, not-not, ◌||◌}
use mathlib.Core.Logic.{⊎_elim}
use Rattle.std.proofs.lemmas.Bool.Decides.{nat_tests}
use Rattle.answer.proofs.Bools.{clash, or_right, or_true, or_false}
use Rattle.block.specs.Tests.{allows, any_allowed}

-- shift and mask
pub allows_bit : (permitted j : ℕ) → eqb (bit_and (permitted / 2 ^ j) 1) 1 ≡ allows permitted j
unfolding allows
allows_bit permitted j = ap (λ (k : ℕ). eqb k 1) (and_mask (permitted / 2 ^ j) 1)

-- no bit at or beyond 16 in a number of 16 bits
pub allows_none : (permitted j : ℕ) → permitted < 2 ^ 16 → 16 ≤ j → false ≡ allows permitted j
unfolding allows
allows_none permitted j p q =
    let small : permitted < 2 ^ (0 + j) = rw zero-add (lt_of_lt_of_le p (pow_mono q)) in
    let none : permitted / 2 ^ j < 1 = shr_lt 0 j small in
    sym (ne_eqb (permitted / 2 ^ j % 2) 1 (λ e. omega arith))

-- one is allowed: which
pub record Allowed (permitted from to : ℕ) : Type 0 where
  pub mode : ℕ
  pub low : from ≤ mode
  pub high : mode < to
  pub is : allows permitted mode ≡ true

pub any_found : (permitted j k : ℕ) → any_allowed permitted j k ≡ true → Allowed permitted j (j + k)
unfolding any_allowed
any_found permitted j zero e = clash (sym e)
any_found permitted j (suc k) e =
    ⊎_elim (λ here. record { mode = j; low = omega arith; high = omega arith; is = here })
    (λ later. let r = any_found permitted (j + 1) k later in record { mode = r.mode; low = omega (arith, r.low); high = omega (arith, r.high); is = r.is })
    (or_true (allows permitted j) (any_allowed permitted (j + 1) k) e)

-- none is
pub any_none : (permitted j k : ℕ) → any_allowed permitted j k ≡ false → (i : ℕ) → j ≤ i → i < j + k → allows permitted i ≡ false
unfolding any_allowed
any_none permitted j zero e i low high = absurd (omega arith)
any_none permitted j (suc k) e i low high =
    let r = or_false (allows permitted j) (any_allowed permitted (j + 1) k) e in
    ⊎_elim (λ same. subst (λ (x : ℕ). allows permitted x ≡ false) same r.0)
    (λ more. any_none permitted (j + 1) k r.1 i (omega arith) (omega arith))
    (eq-or-lt_of_le low)

-- and back
pub any_is : (permitted j k i : ℕ) → j ≤ i → i < j + k → allows permitted i ≡ true → any_allowed permitted j k ≡ true
unfolding any_allowed
any_is permitted j zero i low high e = absurd (omega arith)
any_is permitted j (suc k) i low high e =
    ⊎_elim (λ same. let here : allows permitted j ≡ true = rw same e in rw here)
    (λ more. rw (any_is permitted (j + 1) k i (omega arith) (omega arith) e) (or_right (allows permitted j)))
    (eq-or-lt_of_le low)

pub any_are_not : (permitted j k : ℕ) → ((i : ℕ) → j ≤ i → i < j + k → allows permitted i ≡ false) → any_allowed permitted j k ≡ false
unfolding any_allowed
any_are_not permitted j zero none = refl
any_are_not permitted j (suc k) none =
    rw (none j (omega arith) (omega arith), any_are_not permitted (j + 1) k (λ i low high. none i (omega arith) (omega arith)))

-- of k modes from j on one is allowed where the bits of those are not all 0
any_bits : (permitted j k : ℕ) → any_allowed permitted j k ≡ not (eqb (permitted / 2 ^ j % 2 ^ k) 0)
unfolding any_allowed allows
any_bits permitted j zero =
    let none : permitted / 2 ^ j % 1 ≡ 0 = omega arith in
    rw none
any_bits permitted j (suc k) =
    let q = permitted / 2 ^ j in
    let r = q / 2 % 2 ^ k in
    let half : permitted / 2 ^ (j + 1) ≡ q / 2 = rw (add-one, pow-succ' 2 j, mul_comm) (sym (div-div-eq-div-mul permitted (2 ^ j) 2)) in
    let low : q % 2 ^ suc k ≡ r * 2 + q % 2 = rw (pow-succ' 2 k, mul_comm) (mod-mul q (pow_pos k) (omega arith)) in
    rw (any_bits permitted (j + 1) k, half, low) (one_more (q % 2) r (omega arith))
  where
    one_more : (b r : ℕ) → b < 2 → (eqb b 1 || not (eqb r 0)) ≡ not (eqb (r * 2 + b) 0)
    one_more b r h = grind (arith, nat_tests)

-- in a mask with no bit at or beyond j + k: where any bit is set from j on
pub any_from : (permitted j k : ℕ) → permitted < 2 ^ (k + j) → any_allowed permitted j k ≡ not (eqb (permitted / 2 ^ j) 0)
any_from permitted j k h =
    let all : permitted / 2 ^ j % 2 ^ k ≡ permitted / 2 ^ j = mod-eq_of_lt (shr_lt k j h) in
    rw (any_bits permitted j k, all)

-- in any mask: where none is set
pub none_zero : (permitted : ℕ) → permitted < 2 ^ 16 → not (any_allowed permitted 0 16) ≡ eqb permitted 0
none_zero permitted h =
    let all : permitted / 2 ^ 0 ≡ permitted = omega arith in
    rw (any_from permitted 0 16 h, all, not-not)
