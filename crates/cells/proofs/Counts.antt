-- How numbers read, alone, in sums and as the smaller of two; and that the least of what the modes offer over a held row is the rule's.
-- Assumes nothing.
use mathlib.Core.Path.{◌≡◌, sym, ap, ◌∙◌}
use mathlib.Core.Logic.{◌⊎◌, inl, inr}
use mathlib.Core.Bool.{true}
use mathlib.Core.List.{List, [], ◌∷◌, map}
use Prim.Native.Nat.{ℕ, zero, suc, ◌+◌, ◌-◌, ◌≤◌, ◌<◌, min}
use native.Mathlib.Nat.{eq-or-lt_of_le, le_of_suc-le-suc}
use native.Mathlib.Numerals.{add-one}
use native.Mathlib.Omega.{arith}
use borrow.Author.Tests.{le-leb, lt-leb, lt-ltb, le-ltb}
use lib.ListN.{length, get_or, set, replicate}
use lib.Seq.{get_or-set_same, get_or-set_other}
use Rattle.std.specs.Prelude.{Option, None, Some}
use Rattle.std.specs.List.{fold}
use Rattle.std.proofs.lemmas.Bool.{cases_lt}
use Rattle.model.specs.Plan.{Choice}
use Rattle.model.specs.Cells.{mark, ceiling, reads, plus, may, onward, offered, least}
use Rattle.model.proofs.Sums.{within, reads_within, reads_above, reads_most, plus_within, plus_above, sound_le}
use Rattle.model.proofs.Least.{least_sound}
use Rattle.cells.specs.declared.mode.Mode.{Mode}
use Rattle.cells.specs.inner.Rows.{held, row_reads}
use Rattle.cells.specs.inner.Held.{counts, offer_of}

pub counts_within : (x : ℕ) → x ≤ ceiling → counts x ≡ x
unfolding counts
counts_within x h = simp (le-leb x ceiling h)

pub counts_above : (x : ℕ) → ceiling < x → counts x ≡ ceiling + 1
unfolding counts
counts_above x h = simp (lt-leb x ceiling h)

pub counts_min : (x : ℕ) → min x (ceiling + 1) ≡ counts x
counts_min x = go (within x)
  where
    go : (x ≤ ceiling) ⊎ (ceiling < x) → min x (ceiling + 1) ≡ counts x
    go (inl h) = omega (arith, counts_within x h)
    go (inr h) = omega (arith, counts_above x h)

counts_most : (x : ℕ) → counts x ≤ ceiling + 1
counts_most x = go (within x)
  where
    go : (x ≤ ceiling) ⊎ (ceiling < x) → counts x ≤ ceiling + 1
    go (inl h) = omega (arith, counts_within x h)
    go (inr h) = omega (arith, counts_above x h)

pub counted : (r x : ℕ) → r ≡ counts x → r ≤ ceiling + 1
counted r x e = omega (arith, e, counts_most x)

-- a number as it counts reads as the number does
counts_reads : (x : ℕ) → reads (counts x) ≡ reads x
counts_reads x = go (within x)
  where
    go : (x ≤ ceiling) ⊎ (ceiling < x) → reads (counts x) ≡ reads x
    go (inl h) = ap reads (counts_within x h)
    go (inr h) = reads_above (counts x) (omega (arith, counts_above x h)) ∙ sym (reads_above x h)

-- a cost and a cell, added, read as `plus` writes them
sum_reads : (cost v : ℕ) → reads (cost + v) ≡ plus cost (reads v)
sum_reads cost v = go (within v) (within (cost + v))
  where
    go : (v ≤ ceiling) ⊎ (ceiling < v) → (cost + v ≤ ceiling) ⊎ (ceiling < cost + v) → reads (cost + v) ≡ plus cost (reads v)
    go (inl b) (inl s) = rw (reads_within v b, reads_within (cost + v) s, plus_within cost v s)
    go (inl b) (inr s) = rw (reads_within v b, reads_above (cost + v) s, plus_above cost v s)
    go (inr b) s = rw (reads_above v b, reads_above (cost + v) (omega arith), plus_above cost mark (omega arith))

-- and so where the cell is taken as it counts
pub counts_sum : (cost cell : ℕ) → reads (cost + counts cell) ≡ plus cost (reads cell)
counts_sum cost cell = sum_reads cost (counts cell) ∙ ap (plus cost) (counts_reads cell)

-- the smaller of two reads as the smaller of what they read as
pub reads_min : (a b : ℕ) → reads (min a b) ≡ min (reads a) (reads b)
reads_min a b = go (within a) (within b)
  where
    go : (a ≤ ceiling) ⊎ (ceiling < a) → (b ≤ ceiling) ⊎ (ceiling < b) → reads (min a b) ≡ min (reads a) (reads b)
    go (inl h) (inl k) = omega (arith, reads_within a h, reads_within b k, reads_within (min a b) (omega arith))
    go (inl h) (inr k) = omega (arith, reads_within a h, reads_above b k, reads_within (min a b) (omega arith))
    go (inr h) (inl k) = omega (arith, reads_above a h, reads_within b k, reads_within (min a b) (omega arith))
    go (inr h) (inr k) = omega (arith, reads_above a h, reads_above b k, reads_above (min a b) (omega arith))

-- ---- what a mode offers
-- one that may be chosen, of any need and cost: what `held` says of a `Mode`
abbrev pub free : ℕ → ℕ → Choice
free need cost = record { permitted = true; need = need; cost = cost }

-- by the rule: a mode within the column, and one beyond it
module _ (need cost : ℕ) (next : ℕ → ℕ) (c : ℕ) where
  pub offered_in : need ≤ c → offered (free need cost) next c ≡ onward (free need cost) next c
  unfolding may
  offered_in h = simp (le-leb need c h)

  pub offered_out : c < need → offered (free need cost) next c ≡ mark
  unfolding may
  offered_out h = simp (lt-leb need c h)

-- as the sum reads, whatever the numbers of the row are: that of what counts past the ceiling is the mark
module _ (need cost : ℕ) (row : List ℕ) (c : ℕ) where
  pub offer_in : need ≤ c → reads (cost + get_or row (c - need) 0) ≡ offered (free need cost) (row_reads row) c
  unfolding onward
  offer_in h = sum_reads cost (get_or row (c - need) 0) ∙ sym (offered_in need cost (row_reads row) c h)

  pub offer_out : c < need → reads (ceiling + 1) ≡ offered (free need cost) (row_reads row) c
  offer_out h = reads_above (ceiling + 1) (omega arith) ∙ sym (offered_out need cost (row_reads row) c h)

-- the lesser of the least so far and an offer
unfoldable pub of_two : ℕ → Option ℕ → ℕ
of_two best None = best
of_two best (Some offer) = min best offer

module _ (row : List ℕ) (c : ℕ) where
  pub offer_some : (o : Mode) → o.need ≤ c → offer_of row c o ≡ Some (o.cost + get_or row (c - o.need) 0)
  unfolding offer_of
  offer_some o h = simp (le-ltb c o.need h)

  pub offer_none : (o : Mode) → c < o.need → offer_of row c o ≡ None
  unfolding offer_of
  offer_none o h = simp (lt-ltb c o.need h)

  -- the least so far of what they offer
  abbrev pub lesser : ℕ → Mode → ℕ
  lesser best o = of_two best (offer_of row c o)

  lesser_reads : (best : ℕ) (o : Mode) → reads (lesser best o) ≡ min (reads best) (offered (held o) (row_reads row) c)
  unfolding may onward of_two
  lesser_reads best o = go (cases_lt c o.need)
    where
      none : reads best ≡ min (reads best) mark
      none = omega (arith, reads_most best)

      go : (c < o.need) ⊎ (o.need ≤ c) → reads (lesser best o) ≡ min (reads best) (offered (held o) (row_reads row) c)
      go (inl h) = rw (offer_none o h, lt-leb o.need c h) none
      go (inr h) =
          rw (offer_some o h, le-leb o.need c h)
          (reads_min best (o.cost + get_or row (c - o.need) 0) ∙ ap (min (reads best)) (sum_reads o.cost (get_or row (c - o.need) 0)))

  fold_reads : (os : List Mode) (best : ℕ) → reads (fold lesser best os) ≡ min (reads best) (least (map held os) (row_reads row) c)
  unfolding least
  fold_reads [] best = omega (arith, reads_most best)
  fold_reads (o ∷ os) best = fold_reads os (lesser best o) ∙ omega (arith, lesser_reads best o)

  pub least_is : (os : List Mode) → reads (fold lesser (ceiling + 1) os) ≡ least (map held os) (row_reads row) c
  least_is os =
      let low = sound_le _ (least_sound (map held os) (row_reads row) c) in
      omega (arith, fold_reads os (ceiling + 1), reads_above (ceiling + 1) (omega arith))

-- ---- the row, cell by cell
pub none_count : (n c : ℕ) → get_or (replicate n 0) c 0 ≤ ceiling + 1
none_count zero c = omega arith
none_count (suc n) zero = omega arith
none_count (suc n) (suc c) = none_count n c

pub one_count : (row : List ℕ) (i x : ℕ) → ((k : ℕ) → get_or row k 0 ≤ ceiling + 1) → x ≤ ceiling + 1
    → (k : ℕ) → get_or (set row i x) k 0 ≤ ceiling + 1
one_count [] i x a h k = a k
one_count (b ∷ row) zero x a h zero = h
one_count (b ∷ row) zero x a h (suc k) = a (suc k)
one_count (b ∷ row) (suc i) x a h zero = a zero
one_count (b ∷ row) (suc i) x a h (suc k) = one_count row i x (λ j. a (suc j)) h k

pub one_more : (next row : List ℕ) (i x : ℕ) → i < length row → x ≡ counts (get_or next i 0)
    → ((k : ℕ) → k < i → row_reads row k ≡ row_reads next k) → (k : ℕ) → k < i + 1 → row_reads (set row i x) k ≡ row_reads next k
one_more next row i x h e same k l = go k (eq-or-lt_of_le (le_of_suc-le-suc (rw add-one at l)))
  where
    go : (k : ℕ) → (k ≡ i) ⊎ (k < i) → row_reads (set row i x) k ≡ row_reads next k
    go k (inl s) = rw (s, get_or-set_same row i x 0 h, e) (counts_reads (get_or next i 0))
    go k (inr b) = rw (get_or-set_other row i k x 0 (λ s. omega arith)) (same k b)
