-- A number byte by byte and part by part, as the code reads it. Assumes nothing.
use Prim.Native.Nat.{ℕ, suc, zero, ◌+◌, ◌-◌, ◌*◌, ◌^◌, ◌≤◌, ◌<◌, min}
use native.Mathlib.Nat.{mul_assoc, mul-zero, pow-succ', suc-add, zero-add}
use native.Mathlib.Omega.{arith}
use mathlib.Core.Path.{◌≡◌, refl, sym, ap, ◌∙◌}
use mathlib.Core.Logic.{⊎_elim}
use mathlib.Core.List.{List, [], ◌∷◌}
use lib.ListN.{length, get_or, take, drop, drop_of_length-le}
use lib.Seq.{take-nil, drop-drop}
use Rattle.std.proofs.lemmas.Bool.{cases_lt}
use Rattle.block.specs.Bytes.{value, number}

-- one byte
pub number_one : (at : ℕ) (s : List ℕ) → number 1 at s ≡ get_or s at 0
unfolding number value
number_one zero [] = refl
number_one zero (b ∷ s) = omega arith
number_one (suc at) [] = refl
number_one (suc at) (b ∷ s) = number_one at s

-- the first a bytes and b bytes more
value_parts : (a b : ℕ) (l : List ℕ) → value (take (a + b) l) ≡ value (take a l) + 256 ^ a * value (take b (drop a l))
unfolding value
value_parts zero b l = rw zero-add (omega arith)
value_parts (suc a) b [] = rw (take-nil, take-nil) (omega (arith, mul-zero (256 ^ suc a)))
value_parts (suc a) b (c ∷ l) =
    let rest = value (take b (drop a l)) in
    let more : 256 ^ suc a * rest ≡ 256 * (256 ^ a * rest) = rw (pow-succ' 256 a) (mul_assoc 256 (256 ^ a) rest) in
    rw suc-add (omega (arith, value_parts a b l))

-- and so of any number: its first byte and the rest, or its four bytes
pub number_parts : (a b at : ℕ) (s : List ℕ) → number (a + b) at s ≡ number a at s + 256 ^ a * number b (at + a) s
unfolding number
number_parts a b at s = rw (← drop-drop a at s) (value_parts a b (drop at s))

-- past the end 0 is read
number_past : (w at : ℕ) (s : List ℕ) → length s ≤ at → number w at s ≡ 0
unfolding number value
number_past w at s h = rw (drop_of_length-le s h, take-nil)

-- a number of two parts: no slice reaches past the highest offset
pub halves : (a b at : ℕ) (s : List ℕ) → length s < 2 ^ 64
    → number a at s + 256 ^ a * number b (min (at + a) (2 ^ 64 - 1)) s ≡ number (a + b) at s
halves a b at s h =
    let second : number b (min (at + a) (2 ^ 64 - 1)) s ≡ number b (at + a) s =
    ⊎_elim (λ low. ap (λ (i : ℕ). number b i s) (omega arith))
    (λ high. number_past b (min (at + a) (2 ^ 64 - 1)) s (omega arith) ∙ sym (number_past b (at + a) s (omega arith)))
    (cases_lt (at + a) (2 ^ 64)) in
    rw second (sym (number_parts a b at s))
