-- The smallest column, the lowest mode and the trace in the shape of the code's loops. Assumes nothing.
use Prim.Native.Nat.{ℕ, zero, suc, ◌+◌, ◌-◌, ◌≤◌, ◌<◌}
use native.Mathlib.Omega.{arith}
use native.Mathlib.Decide.{dec_lt}
use mathlib.Core.Path.{◌≡◌, refl, sym, ap, ◌∙◌}
use mathlib.Core.Bool.{Bool, true, false, ◌&&◌, cond}
use mathlib.Core.List.{List, [], ◌∷◌}
use mathlib.Core.Logic.{◌≢◌}
use lib.Dec.{ltb}
use lib.ListN.{length, get_or, drop}
use lib.Seq.{drop-cons}
use Rattle.answer.proofs.Bools.{clash}
use Rattle.model.specs.Plan.{Choice, Task, choice}
use Rattle.model.specs.Taking.{used, first_of, lowest, trace, all_keep}
use Rattle.model.proofs.Least.{First, first_at}
use Rattle.model.proofs.Taking.{used_same, used_least}

-- what the searches end with, by all that they passed: the smallest column, no column before it having the cost of column m
pub used_is : (row : ℕ → ℕ) (m r : ℕ) → row r ≡ row m → ((x : ℕ) → x < r → row x ≢ row m) → r ≡ used row m
used_is row m r e n = go (dec_lt (used row m) r)
  where
    go : Dec (used row m < r) → r ≡ used row m
    go (yes l) = absurd (n (used row m) l (used_same row m))
    go (no l) = omega (arith, used_least row m r e)

-- the first choice that passes, none before it passing; and none at all
pub first_is : (f : Choice → Bool) (t : Task) (j : ℕ) → j < length t → ((k : ℕ) → k < j → f (choice t k) ≡ false) → f (choice t j) ≡ true
    → first_of f t ≡ j
first_is f t j h n p = go (dec_lt (first_of f t) j) (first_at f t j h p)
  where
    go : Dec (first_of f t < j) → First f t j → first_of f t ≡ j
    go (yes l) r = clash (sym r.passes ∙ n (first_of f t) l)
    go (no l) r = omega (arith, r.early)

pub first_past : (f : Choice → Bool) (t : Task) → ((k : ℕ) → k < length t → f (choice t k) ≡ false) → first_of f t ≡ length t
unfolding first_of
first_past f [] n = refl
first_past f (o ∷ os) n = rw (n 0 (omega arith)) (ap suc (first_past f os (λ k h. n (suc k) (omega arith))))

-- and one turn after the other, as the loops go: where no column before this one has the cost of column m, it is the smallest that has, or
-- the smallest is past it
module _ (row : ℕ → ℕ) (m column : ℕ) (passed : column ≤ used row m) where
  pub used_here : row column ≡ row m → column ≡ used row m
  used_here e = omega (arith, used_least row m column e)

  pub used_past : row column ≢ row m → column + 1 ≤ used row m
  used_past n = go (dec_lt column (used row m))
    where
      go : Dec (column < used row m) → column + 1 ≤ used row m
      go (yes h) = omega arith
      go (no h) = let here : column ≡ used row m = omega arith in absurd (n (ap row here ∙ used_same row m))

-- where no choice before j passes, and j does not: the first that passes is past j
pub first_on : (f : Choice → Bool) (t : Task) (j : ℕ) → j < length t → j ≤ first_of f t → f (choice t j) ≡ false → j + 1 ≤ first_of f t
unfolding first_of
first_on f [] j h passed e = absurd (omega arith)
first_on f (o ∷ os) zero h passed e = rw e (omega arith)
first_on f (o ∷ os) (suc j) h passed e = go (f o) passed (first_on f os j (omega arith))
  where
    go : (b : Bool) → suc j ≤ cond b 0 (suc (first_of f os)) → (j ≤ first_of f os → f (choice os j) ≡ false → j + 1 ≤ first_of f os)
        → suc j + 1 ≤ cond b 0 (suc (first_of f os))
    go true p past = absurd (omega arith)
    go false p past = omega (arith, past (omega arith) e)

-- one more task
module _ (rows : ℕ → ℕ → ℕ) (i : ℕ) (ts : List Task) (c j : ℕ) (more : i < length ts)
    (e : lowest (get_or ts i []) (rows (suc i)) c (rows i c) ≡ j) where
  pub trace_more : trace rows i (drop i ts) c ≡ j ∷ trace rows (suc i) (drop (suc i) ts) (c - (choice (get_or ts i []) j).need)
  unfolding trace
  trace_more =
      ap (λ (x : List Task). trace rows i x c) (drop-cons ts i [] more)
      ∙ ap (λ (k : ℕ). k ∷ trace rows (suc i) (drop (suc i) ts) (c - (choice (get_or ts i []) k).need)) e

  pub keep_more : all_keep rows i (drop i ts) c
      ≡ (ltb j (length (get_or ts i [])) && all_keep rows (suc i) (drop (suc i) ts) (c - (choice (get_or ts i []) j).need))
  unfolding all_keep
  keep_more =
      ap (λ (x : List Task). all_keep rows i x c) (drop-cons ts i [] more)
      ∙ ap (λ (k : ℕ). ltb k (length (get_or ts i [])) && all_keep rows (suc i) (drop (suc i) ts) (c - (choice (get_or ts i []) k).need)) e
