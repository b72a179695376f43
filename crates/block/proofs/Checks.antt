-- The check: one more byte, how large it is, and that it changes when one of its bytes changes and when two unequal ones trade places.
-- Assumes nothing.
use Prim.Native.Nat.{ℕ, zero, suc, ◌+◌, ◌-◌, ◌*◌, ◌≤◌, ◌<◌, min}
use native.Mathlib.Nat.{add-mul, add-suc, add-zero, mul-zero, eq_of_mul-eq-mul_left, eq-or-lt_of_le, le_of_suc-le-suc, mul-le-mul, mul-le-mul_left}
use native.Mathlib.Numerals.{add-one}
use native.Mathlib.Omega.{arith}
use mathlib.Core.Path.{◌≡◌, refl, sym, ap, subst, ◌∙◌}
use mathlib.Core.Logic.{⊎_elim}
use mathlib.Core.List.{List, ◌++◌}
use lib.ListN.{length, get_or, set, length-set, get_or-append, get_or-eq_default}
use lib.Seq.{get_or-set_same, get_or-set_other}
use Rattle.block.specs.Bytes.{Bytes, weighed, check_of}

-- one more byte
pub weighed_more : (n : ℕ) (s : List ℕ) → weighed (n + 1) s ≡ weighed n s + (n + 1) * get_or s n 0
unfolding weighed
weighed_more n s = ap (λ (k : ℕ). weighed k s) (add-one n)

-- it sees the bytes below the offset only
pub weighed_front : (n : ℕ) (a b : List ℕ) → n ≤ length a → weighed n (a ++ b) ≡ weighed n a
unfolding weighed
weighed_front zero a b h = refl
weighed_front (suc n) a b h = rw (weighed_front n a b (omega arith), get_or-append a b 0 n (omega arith))

-- past the end there is nothing to weigh
beyond : (k d : ℕ) (s : List ℕ) → (0 < d → length s ≤ k) → weighed (k + d) s ≡ weighed k s
unfolding weighed
beyond k zero s h = rw add-zero
beyond k (suc d) s h =
    rw (add-suc, beyond k d s (λ _. h (omega arith)), get_or-eq_default s 0 {n = k + d} (omega (arith, h (omega arith))), mul-zero, add-zero)

pub weighed_all : (n : ℕ) (s : List ℕ) → weighed (min n (length s)) s ≡ weighed n s
weighed_all n s =
    let d : min n (length s) + (n - min n (length s)) ≡ n = omega arith in
    sym (beyond (min n (length s)) (n - min n (length s)) s (λ h. omega arith)) ∙ ap (λ (k : ℕ). weighed k s) d

-- ---- how large
pub term_small : (n b : ℕ) → n < 508 → b < 256 → (n + 1) * b ≤ 129540
term_small n b p q =
    let x : n + 1 ≤ 508 = omega arith in
    let y : b ≤ 255 = omega arith in
    mul-le-mul x y

-- the largest, of bytes that are all 255
weights : ℕ → ℕ
weights zero = 0
weights (suc n) = weights n + (n + 1) * 255

weighed_most : (n : ℕ) (s : List ℕ) → Bytes s → weighed n s ≤ weights n
unfolding weighed weights
weighed_most zero s h = omega arith
weighed_most (suc n) s h =
    let t : (n + 1) * get_or s n 0 ≤ (n + 1) * 255 = mul-le-mul_left (n + 1) (omega (arith, h n)) in
    omega (arith, weighed_most n s h)

pub check_most : (s : List ℕ) → Bytes s → check_of s ≤ 32967930
unfolding check_of weights
check_most s h = weighed_most 508 s h

-- ---- one byte changed
before : (s : List ℕ) (o v n : ℕ) → n ≤ o → weighed n (set s o v) ≡ weighed n s
unfolding weighed
before s o v zero p = refl
before s o v (suc n) p = rw (before s o v n (omega arith), get_or-set_other s o n v 0 (λ e. omega arith))

abbrev Moved : List ℕ → ℕ → ℕ → ℕ → Type 0
Moved s o v n = weighed n (set s o v) + (o + 1) * get_or s o 0 ≡ weighed n s + (o + 1) * v

here : (s : List ℕ) (o v : ℕ) → o < length s → Moved s o v (suc o)
unfolding weighed
here s o v p =
    let w = before s o v o (omega arith) in
    let t : (o + 1) * get_or (set s o v) o 0 ≡ (o + 1) * v = ap (λ (x : ℕ). (o + 1) * x) (get_or-set_same s o v 0 p) in
    omega arith

further : (s : List ℕ) (o v n : ℕ) → o < n → Moved s o v n → Moved s o v (suc n)
unfolding weighed
further s o v n l w =
    let t : (n + 1) * get_or (set s o v) n 0 ≡ (n + 1) * get_or s n 0 = ap (λ (x : ℕ). (n + 1) * x) (get_or-set_other s o n v 0 (λ e. omega arith)) in
    omega arith

weighed_set : (s : List ℕ) (o v n : ℕ) → o < length s → o < n → Moved s o v n
weighed_set s o v zero p q = absurd (omega arith)
weighed_set s o v (suc n) p q =
    ⊎_elim (λ e. subst (λ (k : ℕ). Moved s o v (suc k)) e (here s o v p))
    (λ l. further s o v n l (weighed_set s o v n p l))
    (eq-or-lt_of_le (le_of_suc-le-suc q))

-- the check is the same only where the byte is the same
pub check_changes : (s : List ℕ) (o v : ℕ) → o < length s → o < 508 → check_of (set s o v) ≡ check_of s → v ≡ get_or s o 0
unfolding check_of
check_changes s o v p q same =
    let w = weighed_set s o v 508 p q in
    eq_of_mul-eq-mul_left (o + 1) (omega arith) v (get_or s o 0) (omega arith)

-- ---- two bytes traded
abbrev pub traded : List ℕ → ℕ → ℕ → List ℕ
traded s o e = set (set s o (get_or s e 0)) e (get_or s o 0)

-- the weight of the second, d further on
split : (o d x : ℕ) → (o + d + 1) * x ≡ (o + 1) * x + d * x
split o d x =
    let e : o + d + 1 ≡ o + 1 + d = omega arith in
    ap (λ (n : ℕ). n * x) e ∙ add-mul (o + 1) d x

further_on : (s : List ℕ) (o d : ℕ) → 0 < d → o + d < length s → o + d < 508
    → check_of (traded s o (o + d)) ≡ check_of s → get_or s o 0 ≡ get_or s (o + d) 0
unfolding check_of
further_on s o d pos p q same =
    let x = get_or s o 0 in
    let y = get_or s (o + d) 0 in
    let one = set s o y in
    let w = weighed_set s o y 508 (omega arith) (omega arith) in
    let kept = get_or-set_other s o (o + d) y 0 (λ e. omega arith) in
    let w2 = weighed_set one (o + d) x 508 (rw (length-set s o y) p) q in
    let k : (o + d + 1) * get_or one (o + d) 0 ≡ (o + d + 1) * y = ap (λ (b : ℕ). (o + d + 1) * b) kept in
    eq_of_mul-eq-mul_left d pos x y (omega (arith, split o d x, split o d y))

-- the check is the same only where the two bytes are the same
pub check_trades : (s : List ℕ) (o e : ℕ) → o < e → e < length s → e < 508 → check_of (traded s o e) ≡ check_of s → get_or s o 0 ≡ get_or s e 0
check_trades s o e h p q =
    let d : o + (e - o) ≡ e = omega arith in
    rw d at (further_on s o (e - o) (omega arith) (omega arith) (omega arith))
