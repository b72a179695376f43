-- Blocks one after another. Assumes nothing.
use Prim.Native.Nat.{ℕ, zero, suc, ◌+◌, ◌*◌, ◌≤◌, ◌<◌}
use native.Mathlib.Nat.{add-zero}
use native.Mathlib.Omega.{arith}
use mathlib.Core.Path.{◌≡◌, refl, sym, ◌∙◌}
use mathlib.Core.List.{List, [], ◌∷◌, ◌++◌}
use lib.ListN.{length, take, drop, length-append, length-drop, take-append-drop}
use lib.Seq.{take_at, drop_at, drop-drop}
use Rattle.block.specs.Bytes.{Bytes}
use Rattle.block.proofs.Laid.{bytes_append}
use Rattle.table.specs.Order.{block_at}

block_zero : (bytes : List ℕ) → block_at 0 bytes ≡ take 512 bytes
unfolding block_at
block_zero bytes = refl

block_next : (k : ℕ) (bytes : List ℕ) → block_at (k + 1) bytes ≡ block_at k (drop 512 bytes)
unfolding block_at
block_next k bytes =
    let e : 512 * (k + 1) ≡ 512 + 512 * k = omega arith in
    rw (e, drop-drop)

-- `left` blocks from block i on, one after another
unfoldable pub together : (ℕ → List ℕ) → ℕ → ℕ → List ℕ
together f i zero = []
together f i (suc left) = f i ++ together f (i + 1) left

module _ (f : ℕ → List ℕ) where
  pub length_together : (i left : ℕ) → ((k : ℕ) → i ≤ k → k < i + left → length (f k) ≡ 512) → length (together f i left) ≡ 512 * left
  unfolding together
  length_together i zero l = refl
  length_together i (suc left) l =
      rw (length-append, l i (omega arith) (omega arith), length_together (i + 1) left (λ k low high. l k (omega arith) (omega arith))) (omega arith)

  pub block_together : (i left k : ℕ) → ((k : ℕ) → i ≤ k → k < i + left → length (f k) ≡ 512) → k < left → block_at k (together f i left) ≡ f (i + k)
  unfolding together
  block_together i zero k l h = absurd (omega arith)
  block_together i (suc left) zero l h =
      rw add-zero (block_zero (f i ++ together f (i + 1) left) ∙ take_at (f i) (together f (i + 1) left) 512 (l i (omega arith) (omega arith)))
  block_together i (suc left) (suc k) l h =
      let one : suc k ≡ k + 1 = omega arith in
      let more : i + (k + 1) ≡ i + 1 + k = omega arith in
      let rest : drop 512 (f i ++ together f (i + 1) left) ≡ together f (i + 1) left =
      drop_at (f i) (together f (i + 1) left) 512 (l i (omega arith) (omega arith)) in
      rw (one, block_next, rest, more) (block_together (i + 1) left k (λ j low high. l j (omega arith) (omega arith)) (omega arith))

  pub bytes_together : ((k : ℕ) → Bytes (f k)) → (i left : ℕ) → Bytes (together f i left)
  unfolding together
  bytes_together b i zero k = omega arith
  bytes_together b i (suc left) k = bytes_append (f i) (together f (i + 1) left) (b i) (bytes_together b (i + 1) left) k

-- bytes with the same blocks are the same
pub same_blocks : (n : ℕ) (a b : List ℕ) → length a ≡ 512 * n → length b ≡ 512 * n → ((k : ℕ) → k < n → block_at k a ≡ block_at k b) → a ≡ b
same_blocks zero [] [] p q e = refl
same_blocks zero [] (y ∷ b) p q e = absurd (omega arith)
same_blocks zero (x ∷ a) b p q e = absurd (omega arith)
same_blocks (suc n) a b p q e =
    let rest = same_blocks n (drop 512 a) (drop 512 b) (rw length-drop (omega arith)) (rw length-drop (omega arith))
    (λ k h. sym (block_next k a) ∙ e (k + 1) (omega arith) ∙ block_next k b) in
    let front : take 512 a ≡ take 512 b = sym (block_zero a) ∙ e 0 (omega arith) ∙ block_zero b in
    sym (take-append-drop 512 a) ∙ rw (front, rest) (take-append-drop 512 b)
