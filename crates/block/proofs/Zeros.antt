-- `zeros`: of the bits of many bytes together, as a run, and as a number. Assumes nothing.
use Prim.Native.Nat.{ℕ, zero, suc, ◌+◌, ◌-◌, ◌≤◌, ◌<◌, min}
use native.Mathlib.Numerals.{add-one}
use native.Mathlib.Omega.{arith}
use mathlib.Core.Path.{◌≡◌, refl, ap}
use mathlib.Core.Bool.{true, ◌&&◌, and_assoc, and_comm}
use mathlib.Core.List.{List, [], ◌∷◌}
use lib.Bits.{bit_or, or_zero_l, or_add_and, and_le_l, and_le_r}
use lib.Dec.{eqb}
use lib.ListN.{length, get_or, take, drop, replicate, length-take, drop_of_length-le}
use lib.Seq.{get_or-take}
use borrow.Author.Tests.{eqb-true, ne_eqb}
use Rattle.std.specs.List.{fold}
use Rattle.std.proofs.lemmas.List.{drop-take, drop_min, take_min}
use Rattle.answer.proofs.Bools.{and_true}
use Rattle.block.specs.Bytes.{value, number, all_zero, zeros}

-- the bits of two numbers together are 0 only where each of them is
or_zeros : (a b : ℕ) → bit_or a b ≡ 0 → (a ≡ 0) × (b ≡ 0)
or_zeros a b e = omega (arith, or_add_and a b, and_le_l a b, and_le_r a b, e)

eqb_or : (a b : ℕ) → eqb (bit_or a b) 0 ≡ (eqb a 0 && eqb b 0)
eqb_or zero b = rw or_zero_l
eqb_or (suc a) b =
    rw (ne_eqb (bit_or (suc a) b) 0 (λ e. omega (arith, or_zeros (suc a) b e)), ne_eqb (suc a) 0 (λ e. omega arith))

-- the bits of many together
bits_zero : (l : List ℕ) (seen : ℕ) → eqb (fold bit_or seen l) 0 ≡ (eqb seen 0 && all_zero l)
unfolding all_zero
bits_zero [] seen = and_comm true (eqb seen 0)
bits_zero (b ∷ l) seen = rw (bits_zero l (bit_or seen b), eqb_or, and_assoc)

-- of the bytes from one offset up to another, as far as there are any
pub bits_zeros : (from to : ℕ) (s : List ℕ)
    → let end = min (length s) to in
    let start = min end from in
    eqb (fold bit_or 0 (take (end - start) (drop start s))) 0 ≡ zeros from to s
unfolding zeros
bits_zeros from to s =
    let end = min (length s) to in
    let start = min end from in
    let e : start + (end - start) ≡ min to (length s) = omega arith in
    let n : start ≡ min from (length (take to s)) = rw length-take (omega arith) in
    rw (bits_zero, ← drop-take, e, take_min to s, n, drop_min from (take to s))

-- the same one byte after the other, whatever the bits before it
all_zero_more : (i : ℕ) (l : List ℕ) → all_zero (drop i l) ≡ (eqb (get_or l i 0) 0 && all_zero (drop (suc i) l))
unfolding all_zero
all_zero_more zero [] = refl
all_zero_more zero (b ∷ l) = refl
all_zero_more (suc i) [] = refl
all_zero_more (suc i) (b ∷ l) = all_zero_more i l

pub zeros_on : (seen from to : ℕ) (s : List ℕ) → from < to
    → (eqb seen 0 && zeros from to s) ≡ (eqb (bit_or seen (get_or s from 0)) 0 && zeros (from + 1) to s)
unfolding zeros
zeros_on seen from to s h =
    let more : all_zero (drop from (take to s)) ≡ (eqb (get_or s from 0) 0 && all_zero (drop (from + 1) (take to s))) =
    rw (add-one, ← get_or-take to s from 0 h) (all_zero_more from (take to s)) in
    rw (more, eqb_or, and_assoc)

-- and none is left past the end
pub zeros_end : (seen from to : ℕ) (s : List ℕ) → min to (length s) ≤ from → (eqb seen 0 && zeros from to s) ≡ eqb seen 0
unfolding zeros all_zero
zeros_end seen from to s h =
    let l : length (take to s) ≤ from = rw length-take h in
    rw (drop_of_length-le (take to s) l, and_comm)

-- ---- zero bytes as a run
pub all_zero_lem : (n : ℕ) → all_zero (replicate n 0) ≡ true
unfolding all_zero
all_zero_lem zero = refl
all_zero_lem (suc n) = all_zero_lem n

pub zero_all : (l : List ℕ) → all_zero l ≡ true → l ≡ replicate (length l) 0
unfolding all_zero
zero_all [] e = refl
zero_all (b ∷ l) e =
    let p = and_true (eqb b 0) (all_zero l) e in
    rw (eqb-true b 0 p.0) (ap (λ (t : List ℕ). 0 ∷ t) (zero_all l p.1))

-- ---- a field that has to be zero, as a number and as bytes
all_zero_value : (l : List ℕ) → value l ≡ 0 → all_zero l ≡ true
unfolding value all_zero
all_zero_value [] e = refl
all_zero_value (b ∷ l) e =
    let first : b ≡ 0 = omega arith in
    let rest : value l ≡ 0 = omega arith in
    rw (first, all_zero_value l rest)

value_all_zero : (l : List ℕ) → all_zero l ≡ true → value l ≡ 0
unfolding value all_zero
value_all_zero [] e = refl
value_all_zero (b ∷ l) e =
    let p = and_true (eqb b 0) (all_zero l) e in
    omega (arith, eqb-true b 0 p.0, value_all_zero l p.1)

pub zeros_number : (at w : ℕ) (s : List ℕ) → number w at s ≡ 0 → zeros at (at + w) s ≡ true
unfolding number zeros
zeros_number at w s e = rw drop-take (all_zero_value (take w (drop at s)) e)

pub number_zeros : (at w : ℕ) (s : List ℕ) → zeros at (at + w) s ≡ true → number w at s ≡ 0
unfolding number zeros
number_zeros at w s z = value_all_zero (take w (drop at s)) (rw drop-take at z)
