-- Laws of `reads`, `plus` and `may`, by which nothing else opens them. Assumes nothing.
use mathlib.Core.Path.{◌≡◌, refl, sym}
use mathlib.Core.Logic.{◌⊎◌, inl, inr}
use mathlib.Core.Bool.{Bool, true, false, ◌&&◌}
use Prim.Native.Nat.{ℕ, ◌+◌, ◌≤◌, ◌<◌}
use native.Mathlib.Omega.{arith}
use lib.Dec.{T, leb}
use borrow.Author.Tests.{leb-true, leb-false, le-leb, lt-leb}
use Rattle.answer.proofs.Bools.{clash}
use Rattle.model.specs.Plan.{Choice}
use Rattle.model.specs.Cells.{mark, ceiling, reads, plus, may}

-- a sum within the ceiling stays, and one above it is the mark
pub plus_within : (a b : ℕ) → a + b ≤ ceiling → plus a b ≡ a + b
unfolding plus
plus_within a b h = simp (le-leb (a + b) ceiling h)

pub plus_above : (a b : ℕ) → ceiling < a + b → plus a b ≡ mark
unfolding plus
plus_above a b h = simp (lt-leb (a + b) ceiling h)

-- a number is within the ceiling or above it
pub within : (x : ℕ) → (x ≤ ceiling) ⊎ (ceiling < x)
within x = go (leb x ceiling) refl
  where
    go : (t : Bool) → leb x ceiling ≡ t → (x ≤ ceiling) ⊎ (ceiling < x)
    go true e = inl (leb-true x ceiling e)
    go false e = inr (leb-false x ceiling e)

pub reads_within : (x : ℕ) → x ≤ ceiling → reads x ≡ x
unfolding reads
reads_within x h = simp (le-leb x ceiling h)

pub reads_above : (x : ℕ) → ceiling < x → reads x ≡ mark
unfolding reads
reads_above x h = simp (lt-leb x ceiling h)

pub reads_most : (x : ℕ) → reads x ≤ mark
reads_most x = go (within x)
  where
    go : (x ≤ ceiling) ⊎ (ceiling < x) → reads x ≤ mark
    go (inl h) = omega (arith, reads_within x h)
    go (inr h) = omega (arith, reads_above x h)

-- a number that reads as itself: within the ceiling, or the mark
abbrev pub Sound : ℕ → Type 0
Sound x = (x ≤ ceiling) ⊎ (x ≡ mark)

pub plus_sound : (a b : ℕ) → Sound (plus a b)
plus_sound a b = go (within (a + b))
  where
    go : (a + b ≤ ceiling) ⊎ (ceiling < a + b) → Sound (plus a b)
    go (inl h) = inl (omega (arith, plus_within a b h))
    go (inr h) = inr (plus_above a b h)

pub sound_le : (x : ℕ) → Sound x → x ≤ mark
sound_le x (inl h) = omega arith
sound_le x (inr h) = omega arith

-- a sum that came out within the ceiling is the sum
pub plus_is : (a b : ℕ) → plus a b ≤ ceiling → plus a b ≡ a + b
plus_is a b h = go (within (a + b))
  where
    go : (a + b ≤ ceiling) ⊎ (ceiling < a + b) → plus a b ≡ a + b
    go (inl k) = plus_within a b k
    go (inr k) = absurd (omega (arith, plus_above a b k))

pub reads_sound : (x : ℕ) → Sound x → reads x ≡ x
reads_sound x (inl h) = reads_within x h
reads_sound x (inr h) = go (reads_above x (omega arith))
  where
    go : reads x ≡ mark → reads x ≡ x
    go e = omega arith

-- whether a mode may be taken
pub may_yes : (o : Choice) (c : ℕ) → T o.permitted → o.need ≤ c → may o c ≡ true
unfolding may
may_yes o c p h = go o.permitted p
  where
    go : (b : Bool) → T b → b && leb o.need c ≡ true
    go true t = le-leb o.need c h
    go false t = absurd t

pub may_true : (o : Choice) (c : ℕ) → may o c ≡ true → T o.permitted × (o.need ≤ c)
unfolding may
may_true o c e = go o.permitted e
  where
    go : (b : Bool) → b && leb o.need c ≡ true → T b × (o.need ≤ c)
    go true q = (tt, leb-true o.need c q)
    go false q = clash (sym q)
