-- A whole block: its length, its check and its unused bytes; and that a block is made of numbers exactly where they are read off it.
-- Assumes nothing.
use Prim.Native.Nat.{ℕ, ◌-◌, ◌^◌, ◌≤◌, ◌<◌}
use native.Mathlib.Omega.{arith}
use mathlib.Core.Path.{◌≡◌, refl, ap, sym, ◌∙◌}
use mathlib.Core.Bool.{true}
use mathlib.Core.List.{List, [], ◌++◌, append_assoc}
use lib.ListN.{length, take, drop, replicate, length-append, length-take, length-drop, length-replicate, take-append-drop}
use lib.Seq.{take_at, drop_at, length-take-le, take-take, take_all}
use Rattle.block.specs.Bytes.{Bytes, number, as_bytes, laid, check_of, zeros}
use Rattle.block.specs.Whole.{body, sealed}
use Rattle.block.proofs.Checks.{weighed_front, check_most}
use Rattle.block.proofs.Laid.{length_bytes, value_bytes, bytes_number, bytes_append, bytes_bytes, bytes_padded, bytes_laid, Fit, total, length_laid, fields, back, again}
use Rattle.block.proofs.Zeros.{all_zero_lem, zero_all}

-- ---- a sealed block
module _ (s : List ℕ) (h : length s ≤ 508) where
  pub length_body : length (body s) ≡ 508
  unfolding body
  length_body = simp (length-append, length-replicate) (omega arith)

  pub length_sealed : length (sealed s) ≡ 512
  unfolding sealed
  length_sealed = simp (length-append, length_bytes, length_body)

  -- the check sees the body only
  pub check_front : (t : List ℕ) → check_of (body s ++ t) ≡ check_of (body s)
  unfolding check_of
  check_front t = weighed_front 508 (body s) t (omega (arith, length_body))

  sealed_zeros : zeros (length s) 508 (sealed s) ≡ true
  unfolding zeros sealed body
  sealed_zeros = rw (take_at (body s) _ 508 length_body, drop_at s _ (length s) refl) (all_zero_lem (508 - length s))

  sealed_check : Bytes s → check_of (sealed s) ≡ number 4 508 (sealed s)
  unfolding number sealed body
  sealed_check b =
      let small : check_of (body s) < 256 ^ 4 = omega (arith, check_most (body s) (bytes_padded s (508 - length s) b)) in
      let t = as_bytes 4 (check_of (body s)) in
      let l : length t ≡ 4 = length_bytes 4 (check_of (body s)) in
      sym (rw (drop_at (body s) t 508 length_body, take_all 4 t (omega arith), value_bytes 4 (check_of (body s)) small) (sym (check_front t)))

pub sealed_bytes : (s : List ℕ) → Bytes s → Bytes (sealed s)
unfolding sealed body
sealed_bytes s b = bytes_append (body s) (as_bytes 4 (check_of (body s))) (bytes_padded s (508 - length s) b) (bytes_bytes 4 (check_of (body s)))

sealed_fields : (ws xs : List ℕ) → Fit ws xs → fields ws 0 (sealed (laid ws xs)) ≡ xs
unfolding sealed body
sealed_fields ws xs f = rw append_assoc (back ws xs f [] _ 0 refl)

-- ---- a block that was read
module _ (s : List ℕ) (from : ℕ) (l : length s ≡ 512) (h : from ≤ 508) where
  padded : zeros from 508 s ≡ true → body (take from s) ≡ take 508 s
  unfolding body zeros
  padded z =
      let n : length (take from s) ≡ from = length-take-le from s (omega arith) in
      let m : length (drop from (take 508 s)) ≡ 508 - from = simp (length-drop, length-take) (omega arith) in
      let far : drop from (take 508 s) ≡ replicate (508 - from) 0 = rw m at (zero_all (drop from (take 508 s)) z) in
      rw (n, ← far, ← take-take from 508 s h) (take-append-drop from (take 508 s))

  check_taken : check_of (take 508 s) ≡ check_of s
  unfolding check_of
  check_taken = sym (rw take-append-drop at (weighed_front 508 (take 508 s) (drop 508 s) (simp length-take (omega arith))))

  resealed : Bytes s → check_of s ≡ number 4 508 s → zeros from 508 s ≡ true → sealed (take from s) ≡ s
  unfolding sealed
  resealed b c z =
      let end : length (drop 508 s) ≡ 4 = simp length-drop (omega arith) in
      rw (padded z, check_taken, c, bytes_number 4 508 s b (omega arith), take_all 4 (drop 508 s) (omega arith)) (take-append-drop 508 s)

-- ---- a block of numbers at their widths
pub record Made (ws xs block : List ℕ) : Type 0 where
  pub long : length block ≡ 512
  pub check : check_of block ≡ number 4 508 block
  pub read : fields ws 0 block ≡ xs
  pub spare : zeros (total ws) 508 block ≡ true

-- what was laid and sealed is read back
pub made : (ws xs : List ℕ) → Fit ws xs → total ws ≤ 508 → Made ws xs (sealed (laid ws xs))
made ws xs f h =
    let s = laid ws xs in
    let l = length_laid ws xs f in
    let short : length s ≤ 508 = omega arith in
    record { long = length_sealed s short; check = sealed_check s short (bytes_laid ws xs); read = sealed_fields ws xs f; spare = rw l at (sealed_zeros s short) }

-- and what was read is laid and sealed as it stood
pub remade : (ws xs block : List ℕ) → Bytes block → total ws ≤ 508 → Made ws xs block → sealed (laid ws xs) ≡ block
remade ws xs block b h m =
    let r = again ws block 0 b (omega (arith, m.long)) in
    ap sealed (rw m.read at r) ∙ resealed block (total ws) m.long h b m.check m.spare
