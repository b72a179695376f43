-- A part of a lent slice: its bytes, and where it stands.
use Rattle.std.specs.Prelude.{ℕ, ◌+◌, min, ◌≡◌, List, length, take, drop}
use Rattle.std.specs.Borrow.{Bor}

-- r is the 512 bytes of s from an offset on, in place; fewer where s ends before
pub record Part (start : ℕ) (s r : Bor (List ℕ)) : Type 0 where
  pub bytes : r.now ≡ take 512 (drop start s.now)
  pub whose : r.ref_ptr.0 ≡ s.ref_ptr.0
  pub place : r.ref_ptr.1 ≡ s.ref_ptr.1 + min start (length s.now)
