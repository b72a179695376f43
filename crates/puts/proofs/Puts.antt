-- What a run of puts leaves: each goes on where the one before it ended. Assumes nothing.
use Prim.Native.Nat.{ℕ, zero, suc, ◌+◌, ◌-◌, ◌*◌, ◌/◌, ◌%◌, ◌^◌, ◌≤◌, ◌<◌}
use native.Mathlib.Nat.{add_assoc, add-zero, div-div-eq-div-mul, pow-suc}
use native.Mathlib.Numerals.{add-one}
use native.Mathlib.Omega.{arith}
use mathlib.Core.Path.{◌≡◌, refl, ap, ap₂, sym, ◌∙◌}
use mathlib.Core.List.{List, [], ◌∷◌, ◌++◌, append_assoc, append-nil}
use lib.ListN.{length, take, drop, get_or, set, replicate, length-append, length-take, length-drop, length-replicate, replicate-append-replicate, take-append-drop}
use lib.Seq.{take_at, drop_at, drop-drop, sets, sets-eq}
use borrow.Rule.Slice.PartMut.{put_mid}
use Rattle.std.specs.Int.{bytes_low_first, byte_at}
use Rattle.block.specs.Bytes.{as_bytes, laid}
use Rattle.block.proofs.Laid.{Fit, total, length_bytes}
use Rattle.puts.specs.inner.Puts.{over}

-- numbers stored one after the other are a put
pub stored : (d : List ℕ) (at : ℕ) (vs : List ℕ) → at + length vs ≤ length d → sets d at vs ≡ over d at vs
unfolding over
stored d at vs h = sets-eq vs d at h

pub length_over : (d : List ℕ) (at : ℕ) (vs : List ℕ) → at + length vs ≤ length d → length (over d at vs) ≡ length d
unfolding over
length_over d at vs h = simp (length-append, length-take, length-drop) (omega arith)

pub over_none : (d : List ℕ) (at : ℕ) → over d at [] ≡ d
unfolding over
over_none d at = rw (append-nil, add-zero) (take-append-drop at d)

-- one put after the other is one put
pub over_over : (d : List ℕ) (at : ℕ) (vs us : List ℕ) (n : ℕ) → at ≤ length d → at + length vs ≡ n → over (over d at vs) n us ≡ over d at (vs ++ us)
unfolding over
over_over d at vs us n h e =
    let l : length (take at d ++ vs) ≡ n = simp (length-append, length-take) (omega arith) in
    let front : take n ((take at d ++ vs) ++ drop (at + length vs) d) ≡ take at d ++ vs = take_at (take at d ++ vs) _ n l in
    let far : drop (n + length us) ((take at d ++ vs) ++ drop (at + length vs) d) ≡ drop (at + length (vs ++ us)) d =
    rw (← drop-drop (length us) n, drop_at (take at d ++ vs) _ n l, drop-drop, length-append, add_assoc) in
    rw (front, far, append_assoc (take at d) vs us)

-- one more zero byte behind those put: of any offsets, where `clear` ends at the check
pub zero_more : (d : List ℕ) (from i : ℕ) → from ≤ i → i < length d → set (over d from (replicate (i - from) 0)) i 0 ≡ over d from (replicate (i + 1 - from) 0)
zero_more d from i h k =
    let n : i + 1 - from ≡ i - from + 1 = omega arith in
    let e : from + length {A = ℕ} (replicate (i - from) 0) ≡ i = rw length-replicate (omega arith) in
    let l : length (over d from (replicate (i - from) 0)) ≡ length d = length_over d from _ (omega arith) in
    rw n
    (stored (over d from (replicate (i - from) 0)) i (0 ∷ []) (omega arith)
    ∙ over_over d from (replicate (i - from) 0) (0 ∷ []) i (omega arith) e
    ∙ ap (over d from) (replicate-append-replicate (i - from) 1 0))

-- the bytes of a number as the library has them
le_bytes : (i w x : ℕ) → bytes_low_first i w x ≡ as_bytes w (x / 256 ^ i)
unfolding as_bytes
le_bytes i zero x = refl
le_bytes i (suc w) x = ap₂ (λ b bs. b ∷ bs) (lowest i) (le_bytes (suc i) w x ∙ ap (as_bytes w) next)
  where
    lowest : (i : ℕ) → byte_at i x ≡ x / 256 ^ i % 256
    lowest zero = omega arith
    lowest (suc i) = refl

    next : x / 256 ^ suc i ≡ x / 256 ^ i / 256
    next = ap (λ d. x / d) (pow-suc 256 i) ∙ sym (div-div-eq-div-mul x (256 ^ i) 256)

-- a number put as these bytes
pub put_bytes : (w x at : ℕ) (d bs : List ℕ) → bs ≡ bytes_low_first 0 w x → put_mid at (at + w - at) d bs ≡ over d at (as_bytes w x)
unfolding over
put_bytes w x at d bs e =
    let all : bs ≡ as_bytes w x = e ∙ le_bytes 0 w x ∙ ap (as_bytes w) (omega arith) in
    let n : at + w - at ≡ w = omega arith in
    rw (all, n) (simp (append_assoc, length_bytes, drop-drop))

-- numbers, each put where the one before it ended
abbrev pub overs : List ℕ → ℕ → List ℕ → List ℕ → List ℕ
overs [] at xs d = d
overs (w ∷ ws) at [] d = d
overs (w ∷ ws) at (x ∷ xs) d = overs ws (at + w) xs (over d at (as_bytes w x))

pub overs_laid : (ws xs d : List ℕ) (at : ℕ) → Fit ws xs → at + total ws ≤ length d → overs ws at xs d ≡ over d at (laid ws xs)
unfolding laid
overs_laid [] [] d at f h = sym (over_none d at)
overs_laid [] (x ∷ xs) d at f h = elim f [ ]
overs_laid (w ∷ ws) [] d at f h = elim f [ ]
overs_laid (w ∷ ws) (x ∷ xs) d at f h =
    let n : at + length (as_bytes w x) ≡ at + w = rw length_bytes in
    let l : length (over d at (as_bytes w x)) ≡ length d = length_over d at (as_bytes w x) (omega arith) in
    rw (overs_laid ws xs (over d at (as_bytes w x)) (at + w) f.1 (omega arith), over_over d at (as_bytes w x) (laid ws xs) (at + w) (omega arith) n)

-- one more number behind those put, 4 bytes each
words_more : (i : ℕ) (xs : List ℕ) → i < length xs → laid (replicate (suc i) 4) (take (suc i) xs) ≡ laid (replicate i 4) (take i xs) ++ as_bytes 4 (get_or xs i 0)
unfolding laid
words_more i [] h = absurd (omega arith)
words_more zero (x ∷ xs) h = append-nil (as_bytes 4 x)
words_more (suc i) (x ∷ xs) h = rw (words_more i xs (omega arith), append_assoc)

pub length_words : (i : ℕ) (xs : List ℕ) → i ≤ length xs → length (laid (replicate i 4) (take i xs)) ≡ 4 * i
unfolding laid
length_words zero xs h = refl
length_words (suc i) [] h = absurd (omega arith)
length_words (suc i) (x ∷ xs) h = rw (length-append, length_bytes, length_words i xs (omega arith)) (omega arith)

pub word_more : (d : List ℕ) (at i : ℕ) (xs : List ℕ) → i < length xs → at + 4 * length xs ≤ length d
    → over (over d at (laid (replicate i 4) (take i xs))) (at + 4 * i) (as_bytes 4 (get_or xs i 0)) ≡ over d at (laid (replicate (i + 1) 4) (take (i + 1) xs))
word_more d at i xs h k =
    over_over d at (laid (replicate i 4) (take i xs)) _ _ (omega arith) (ap (λ (n : ℕ). at + n) (length_words i xs (omega arith)))
    ∙ ap (over d at) (rw add-one (sym (words_more i xs h)))
