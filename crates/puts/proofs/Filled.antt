-- What the puts of a block's numbers and its closing leave. Assumes nothing.
use Prim.Native.Nat.{ℕ, ◌+◌, ◌-◌, ◌*◌, ◌/◌, ◌^◌, ◌≤◌, ◌<◌}
use native.Mathlib.Nat.{zero-add}
use native.Mathlib.Omega.{arith}
use mathlib.Core.Path.{◌≡◌, ap, ◌∙◌}
use mathlib.Core.List.{List, [], ◌∷◌, ◌++◌, append_assoc, append-nil}
use lib.ListN.{length, take, drop, replicate, length-replicate}
use lib.Seq.{take_at, drop_at, drop-drop, length-take-le}
use Rattle.block.specs.Bytes.{as_bytes, laid, check_of}
use Rattle.block.specs.Whole.{body, sealed, header_widths, header_bytes, task_widths, task_bytes}
use Rattle.block.proofs.Laid.{Fit, length_bytes, length_laid}
use Rattle.block.proofs.Whole.{length_body, check_front}
use Rattle.block.proofs.Round.{header_fit, header_long, TaskFits, task_fit, task_long}
use Rattle.puts.specs.inner.Puts.{over, front_widths}
use Rattle.puts.proofs.Puts.{over_over}

-- zero bytes from an offset and then the check of what stands before it: the block
pub closed : (d : List ℕ) (from : ℕ) → from ≤ 508 → 512 ≤ length d
    → over (over d from (replicate (508 - from) 0)) 508 (as_bytes 4 (check_of (over d from (replicate (508 - from) 0)))) ≡ sealed (take from d) ++ drop 512 d
unfolding sealed over body
closed d from h k =
    let t = take from d in
    let l : length t ≡ from = length-take-le from d (omega arith) in
    let e : from + length {A = ℕ} (replicate (508 - from) 0) ≡ 508 = rw length-replicate (omega arith) in
    let b : over d from (replicate (508 - from) 0) ≡ body t ++ drop 508 d = rw (e, l) in
    let n : length (body t) ≡ 508 = length_body t (omega arith) in
    let c = check_front t (omega arith) (drop 508 d) in
    let far : drop (508 + length (as_bytes 4 (check_of (body t)))) (body t ++ drop 508 d) ≡ drop 512 d =
    rw (length_bytes, ← drop-drop 4 508, drop_at (body t) _ 508 n, drop-drop) in
    rw (b, c, take_at (body t) _ 508 n, far)

-- the first 8 bytes, the rest of the bytes with a meaning, and the block closed behind them
filled : (d front rest s : List ℕ) (n : ℕ) → length front ≡ 8 → front ++ rest ≡ s → length s ≡ n → n ≤ 508 → 512 ≤ length d
    → sealed (take n (over (over d 0 front) 8 rest)) ++ drop 512 (over (over d 0 front) 8 rest) ≡ sealed s ++ drop 512 d
unfolding over
filled d front rest s n eight whole l h room =
    let m : n + (512 - n) ≡ 512 = omega arith in
    let far : drop 512 (s ++ drop n d) ≡ drop 512 d = rw (← m, ← drop-drop (512 - n) n (s ++ drop n d), drop_at s _ n l, drop-drop) in
    let put : over (over d 0 front) 8 rest ≡ over d 0 s = over_over d 0 front rest 8 (omega arith) (rw zero-add eight) ∙ ap (over d 0) whole in
    rw (put, l, zero-add, take_at s _ n l, far)

module _ (d : List ℕ) (n m H : ℕ) where
  pub header_filled : n < 256 ^ 2 → m < 256 ^ 2 → H < 256 ^ 4 → 512 ≤ length d
      → let put = over (over d 0 (laid front_widths (1 ∷ 1 ∷ n ∷ m ∷ 0 ∷ []))) 8 (as_bytes 4 H) in
      sealed (take 12 put) ++ drop 512 put ≡ header_bytes n m H ++ drop 512 d
  unfolding front_widths header_widths header_bytes laid
  header_filled hn hm h_h room =
      let xs : List ℕ = 1 ∷ 1 ∷ n ∷ m ∷ 0 ∷ [] in
      let f : Fit front_widths xs = (omega arith, (omega arith, (omega arith, (omega arith, (omega arith, tt))))) in
      let all : laid front_widths xs ++ as_bytes 4 H ≡ laid header_widths (1 ∷ 1 ∷ n ∷ m ∷ 0 ∷ H ∷ []) = simp (append_assoc, append-nil) in
      filled d (laid front_widths xs) (as_bytes 4 H) (laid header_widths (1 ∷ 1 ∷ n ∷ m ∷ 0 ∷ H ∷ [])) 12
      (length_laid front_widths xs f) all (header_long n m H (header_fit n m H hn hm h_h)) (omega arith) room

-- a small count and a zero byte are one number of 16 bits
count_zero : (modes : ℕ) → modes < 256 → as_bytes 2 modes ≡ as_bytes 1 modes ++ as_bytes 1 0
unfolding as_bytes
count_zero modes h =
    let none : modes / 256 ≡ 0 = omega arith in
    rw none

module _ (number E modes permitted : ℕ) (figures : List ℕ) (t : TaskFits number E modes permitted figures) (d : List ℕ) where
  pub task_filled : 512 ≤ length d
      → let put = over (over d 0 (laid front_widths (2 ∷ E ∷ modes ∷ permitted ∷ number ∷ []))) 8 (laid (replicate (length figures) 4) figures) in
      sealed (take (8 + 12 * modes) put) ++ drop 512 put ≡ task_bytes number E modes permitted figures ++ drop 512 d
  unfolding front_widths task_widths task_bytes laid
  task_filled room =
      let xs : List ℕ = 2 ∷ E ∷ modes ∷ permitted ∷ number ∷ [] in
      let f : Fit front_widths xs = (omega (arith, t), (omega (arith, t), (omega (arith, t), (omega (arith, t), (omega (arith, t), tt))))) in
      let words = laid (replicate (length figures) 4) figures in
      let whole = laid (task_widths modes) (2 ∷ E ∷ modes ∷ 0 ∷ permitted ∷ number ∷ figures) in
      let all : laid front_widths xs ++ words ≡ whole = rw (count_zero modes (omega (arith, t.few)), t.three) (simp (append_assoc, append-nil)) in
      filled d (laid front_widths xs) words whole (8 + 12 * modes) (length_laid front_widths xs f) all
      (task_long number E modes permitted figures (task_fit number E modes permitted figures t)) (omega (arith, t.few)) room
