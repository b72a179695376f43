-- The 512 bytes from an offset on, by the three cases of the code; and blocks. Assumes nothing.
use Prim.Native.Nat.{ℕ, ◌+◌, ◌-◌, ◌*◌, ◌≤◌}
use native.Mathlib.Omega.{arith}
use mathlib.Core.Path.{◌≡◌, sym, ◌∙◌}
use mathlib.Core.List.{List}
use lib.ListN.{length, take, drop, length-drop, drop_of_length-le}
use lib.Seq.{take-nil, take_all, length-take-le}
use Rattle.block.specs.Bytes.{Bytes}
use Rattle.block.proofs.Laid.{bytes_take, bytes_drop}
use Rattle.table.specs.Order.{block_at}

module _ (s : List ℕ) (start : ℕ) where
  -- nothing is left: the check finds this case without it
  pub block_none : length s ≤ start → take (length s - length s) (drop (length s) s) ≡ take 512 (drop start s)
  block_none h =
      let l : length s ≤ length s = omega arith in
      rw (drop_of_length-le s l, drop_of_length-le s h, take-nil, take-nil)

  -- at most 512 are left
  pub block_rest : length s - start ≤ 512 → take (length s - start) (drop start s) ≡ take 512 (drop start s)
  block_rest h =
      let e = length-drop start s in
      take_all (length s - start) (drop start s) (omega arith) ∙ sym (take_all 512 (drop start s) (omega arith))

  -- more are left
  pub block_whole : take (start + 512 - start) (drop start s) ≡ take 512 (drop start s)
  block_whole = let e : start + 512 - start ≡ 512 = omega arith in rw e

-- a block of bytes is bytes
pub bytes_block : (k : ℕ) (bytes : List ℕ) → Bytes bytes → Bytes (block_at k bytes)
unfolding block_at
bytes_block k bytes b = bytes_take 512 (drop (512 * k) bytes) (bytes_drop (512 * k) bytes b)

-- each of n + 1 blocks has 512 bytes
pub length_block : (k n : ℕ) (bytes : List ℕ) → length bytes ≡ 512 * (n + 1) → k ≤ n → length (block_at k bytes) ≡ 512
unfolding block_at
length_block k n bytes e h = length-take-le 512 (drop (512 * k) bytes) (rw length-drop (omega arith))
