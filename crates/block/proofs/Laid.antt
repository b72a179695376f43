-- Numbers as bytes, there and back: one number, and numbers laid one after the other. Assumes nothing.
use Prim.Native.Nat.{ℕ, zero, suc, ◌+◌, ◌*◌, ◌/◌, ◌%◌, ◌^◌, ◌≤◌, ◌<◌}
use native.Mathlib.Nat.{pow-succ'}
use native.Mathlib.Omega.{arith}
use mathlib.Core.Path.{◌≡◌, refl, ap}
use mathlib.Core.List.{List, [], ◌∷◌, ◌++◌, append_assoc}
use lib.ListN.{length, take, drop, replicate, length-append, length-take, length-drop}
use lib.Seq.{take_at, drop_at, take-add, drop-drop, get_or-drop}
use Rattle.block.specs.Bytes.{Bytes, value, number, as_bytes, laid}

-- ---- one number
pub length_bytes : (w x : ℕ) → length (as_bytes w x) ≡ w
unfolding as_bytes
length_bytes zero x = refl
length_bytes (suc w) x = ap suc (length_bytes w (x / 256))

-- the bytes of a number give the number
pub value_bytes : (w x : ℕ) → x < 256 ^ w → value (as_bytes w x) ≡ x
unfolding as_bytes value
value_bytes zero x h = omega arith
value_bytes (suc w) x h =
    let small : x / 256 < 256 ^ w = omega (arith, pow-succ' 256 w) in
    rw (value_bytes w (x / 256) small) (omega arith)

-- and bytes are those of the number that they give
bytes_value : (l : List ℕ) → Bytes l → as_bytes (length l) (value l) ≡ l
unfolding as_bytes value
bytes_value [] h = refl
bytes_value (b ∷ bs) h =
    let low : (b + 256 * value bs) % 256 ≡ b = omega (arith, h 0) in
    let high : (b + 256 * value bs) / 256 ≡ value bs = omega (arith, h 0) in
    rw (low, high, bytes_value bs (λ i. h (suc i)))

-- ---- bytes within bytes
pub bytes_take : (w : ℕ) (l : List ℕ) → Bytes l → Bytes (take w l)
bytes_take zero l h i = omega arith
bytes_take (suc w) [] h i = omega arith
bytes_take (suc w) (b ∷ bs) h zero = h 0
bytes_take (suc w) (b ∷ bs) h (suc i) = bytes_take w bs (λ j. h (suc j)) i

pub bytes_drop : (at : ℕ) (s : List ℕ) → Bytes s → Bytes (drop at s)
bytes_drop at s h i = rw get_or-drop (h (at + i))

pub bytes_append : (a b : List ℕ) → Bytes a → Bytes b → Bytes (a ++ b)
bytes_append [] b ha hb i = hb i
bytes_append (x ∷ a) b ha hb zero = ha 0
bytes_append (x ∷ a) b ha hb (suc i) = bytes_append a b (λ j. ha (suc j)) hb i

bytes_zeros : (n : ℕ) → Bytes (replicate n 0)
bytes_zeros zero i = omega arith
bytes_zeros (suc n) zero = omega arith
bytes_zeros (suc n) (suc i) = bytes_zeros n i

pub bytes_padded : (s : List ℕ) (n : ℕ) → Bytes s → Bytes (s ++ replicate n 0)
bytes_padded s n h = bytes_append s (replicate n 0) h (bytes_zeros n)

pub bytes_bytes : (w x : ℕ) → Bytes (as_bytes w x)
unfolding as_bytes
bytes_bytes zero x i = omega arith
bytes_bytes (suc w) x zero = omega arith
bytes_bytes (suc w) x (suc i) = bytes_bytes w (x / 256) i

pub bytes_laid : (ws xs : List ℕ) → Bytes (laid ws xs)
unfolding laid
bytes_laid [] xs i = omega arith
bytes_laid (w ∷ ws) [] i = omega arith
bytes_laid (w ∷ ws) (x ∷ xs) i = bytes_append (as_bytes w x) (laid ws xs) (bytes_bytes w x) (bytes_laid ws xs) i

-- ---- the number at an offset
-- it has the bytes that stand there
pub bytes_number : (w at : ℕ) (s : List ℕ) → Bytes s → at + w ≤ length s → as_bytes w (number w at s) ≡ take w (drop at s)
unfolding number
bytes_number w at s h e =
    let n : length (take w (drop at s)) ≡ w = simp (length-take, length-drop) (omega arith) in
    rw n at (bytes_value (take w (drop at s)) (bytes_take w (drop at s) (bytes_drop at s h)))

-- and is as small as its width says
value_small : (w : ℕ) (l : List ℕ) → Bytes l → length l ≤ w → value l < 256 ^ w
unfolding value
value_small zero [] h n = omega arith
value_small zero (b ∷ l) h n = absurd (omega arith)
value_small (suc w) [] h n = omega (arith, value_small w [] h (omega arith), pow-succ' 256 w)
value_small (suc w) (b ∷ l) h n = omega (arith, h 0, value_small w l (λ i. h (suc i)) (omega arith), pow-succ' 256 w)

pub number_small : (w at : ℕ) (s : List ℕ) → Bytes s → number w at s < 256 ^ w
unfolding number
number_small w at s h = value_small w (take w (drop at s)) (bytes_take w (drop at s) (bytes_drop at s h)) (simp length-take (omega arith))

-- ---- numbers laid one after the other
-- each fits its width
abbrev pub Fit : List ℕ → List ℕ → Type 0
Fit [] [] = Unit
Fit [] (x ∷ xs) = ⊥
Fit (w ∷ ws) [] = ⊥
Fit (w ∷ ws) (x ∷ xs) = (x < 256 ^ w) × Fit ws xs

abbrev pub total : List ℕ → ℕ
total [] = 0
total (w ∷ ws) = w + total ws

pub length_laid : (ws xs : List ℕ) → Fit ws xs → length (laid ws xs) ≡ total ws
unfolding laid
length_laid [] [] f = refl
length_laid [] (x ∷ xs) f = elim f [ ]
length_laid (w ∷ ws) [] f = elim f [ ]
length_laid (w ∷ ws) (x ∷ xs) f = rw (length-append, length_bytes, length_laid ws xs f.1)

-- whatever the numbers are, no more bytes than the widths have
pub laid_most : (ws xs : List ℕ) → length (laid ws xs) ≤ total ws
unfolding laid
laid_most [] xs = omega arith
laid_most (w ∷ ws) [] = omega arith
laid_most (w ∷ ws) (x ∷ xs) = rw (length-append, length_bytes) (omega (arith, laid_most ws xs))

-- the numbers of these widths, one after the other from an offset
unfoldable pub fields : List ℕ → ℕ → List ℕ → List ℕ
fields [] at s = []
fields (w ∷ ws) at s = number w at s ∷ fields ws (at + w) s

-- what was laid is read back
pub back : (ws xs : List ℕ) → Fit ws xs → (p rest : List ℕ) (at : ℕ) → length p ≡ at → fields ws at (p ++ (laid ws xs ++ rest)) ≡ xs
unfolding laid fields number
back [] [] f p rest at e = refl
back [] (x ∷ xs) f p rest at e = elim f [ ]
back (w ∷ ws) [] f p rest at e = elim f [ ]
back (w ∷ ws) (x ∷ xs) f p rest at e =
    let l : length (p ++ as_bytes w x) ≡ at + w = rw (length-append, length_bytes, e) in
    let first : take w (drop at (p ++ ((as_bytes w x ++ laid ws xs) ++ rest))) ≡ as_bytes w x =
    rw (drop_at p _ at e, append_assoc, take_at (as_bytes w x) _ w (length_bytes w x)) in
    let others : p ++ ((as_bytes w x ++ laid ws xs) ++ rest) ≡ (p ++ as_bytes w x) ++ (laid ws xs ++ rest) = simp append_assoc in
    let tail = back ws xs f.1 (p ++ as_bytes w x) rest (at + w) l in
    rw (first, value_bytes w x f.0, others, tail)

-- and what was read is laid as it stood
pub again : (ws s : List ℕ) (at : ℕ) → Bytes s → at + total ws ≤ length s → laid ws (fields ws at s) ≡ take (total ws) (drop at s)
unfolding laid fields
again [] s at h e = refl
again (w ∷ ws) s at h e =
    let d = drop-drop w at s in
    rw (bytes_number w at s h (omega arith), again ws s (at + w) h (omega arith), take-add, d)
