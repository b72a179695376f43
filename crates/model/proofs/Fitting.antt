-- No selection fits exactly when the least needs of the tasks add up to more than the cores. Assumes nothing.
use mathlib.Core.Path.{◌≡◌, refl, ap₂}
use mathlib.Core.Logic.{◌↔◌}
use mathlib.Core.Bool.{Bool, true, false, cond}
use mathlib.Core.List.{List, [], ◌∷◌}
use Prim.Native.Nat.{ℕ, zero, suc, ◌+◌, ◌≤◌, ◌<◌}
use native.Mathlib.Nat.{not-suc-le-zero, le_of_suc-le-suc}
use native.Mathlib.Omega.{arith}
use native.Mathlib.Decide.{dec_lt}
use lib.Dec.{T}
use lib.ListN.{length}
use Rattle.model.specs.Plan.{Choice, Task, choice, IsSelection, NothingFits, total_cores}
use Rattle.model.specs.Cells.{mark}
use Rattle.model.specs.inner.Fitting.{least_need, least_cores}

-- what a mode counts for: its need, or the mark
abbrev counts_for : Choice → ℕ
counts_for o = cond o.permitted o.need mark

permitted_for : (o : Choice) → T o.permitted → counts_for o ≡ o.need
permitted_for o p = go o.permitted p
  where
    go : (b : Bool) → T b → cond b o.need mark ≡ o.need
    go true t = refl
    go false t = absurd t

below_for : (o : Choice) → counts_for o < mark → T o.permitted
below_for o h = go o.permitted h
  where
    go : (b : Bool) → cond b o.need mark < mark → T b
    go true t = tt
    go false t = absurd (omega arith)

-- a lower bound
need_low : (t : Task) (j : ℕ) → j < length t → T (choice t j).permitted → least_need t ≤ (choice t j).need
unfolding least_need
need_low [] j h p = absurd (not-suc-le-zero h)
need_low (o ∷ os) zero h p = omega (arith, permitted_for o p)
need_low (o ∷ os) (suc j) h p = omega (arith, need_low os j (le_of_suc-le-suc h) p)

-- attained, where one is permitted
record Least (t : Task) : Type 0 where
  at : ℕ
  there : at < length t
  allowed : T (choice t at).permitted
  same : (choice t at).need ≡ least_need t

need_found : (t : Task) → least_need t < mark → Least t
unfolding least_need
need_found [] h = absurd (omega arith)
need_found (o ∷ os) h = go (dec_lt (counts_for o) (least_need os)) (need_found os)
  where
    go : Dec (counts_for o < least_need os) → (least_need os < mark → Least os) → Least (o ∷ os)
    go (yes k) ih =
        let p = below_for o (omega arith) in
        record { at = zero; there = omega arith; allowed = p; same = omega (arith, permitted_for o p) }
    go (no k) ih =
        let f = ih (omega arith) in
        record { at = suc f.at; there = omega (arith, f.there); allowed = f.allowed; same = omega (arith, f.same) }

cores_low : (ts : List Task) (s : List ℕ) → IsSelection ts s → least_cores ts ≤ total_cores ts s
unfolding least_cores total_cores
cores_low [] s l = omega arith
cores_low (t ∷ ts) [] l = absurd l
cores_low (t ∷ ts) (j ∷ s) l = omega (arith, need_low t j l.0 l.1, cores_low ts s l.2)

record Fewest (ts : List Task) : Type 0 where
  with : List ℕ
  selection : IsSelection ts with
  cores : total_cores ts with ≡ least_cores ts

cores_found : (ts : List Task) → least_cores ts < mark → Fewest ts
unfolding least_cores total_cores
cores_found [] h = record { with = []; selection = tt; cores = refl }
cores_found (t ∷ ts) h =
    let f = need_found t (omega arith) in
    let r = cores_found ts (omega arith) in
    record { with = f.at ∷ r.with; selection = (f.there, f.allowed, r.selection); cores = ap₂ (λ (x y : ℕ). x + y) f.same r.cores }

pub nothing_fits : (ts : List Task) (m : ℕ) → m < mark → NothingFits ts m ↔ (m < least_cores ts)
nothing_fits ts m h = (λ n. go n (dec_lt m (least_cores ts)), λ k s l f. omega (arith, cores_low ts s l))
  where
    go : NothingFits ts m → Dec (m < least_cores ts) → m < least_cores ts
    go n (yes k) = k
    go n (no k) =
        let f = cores_found ts (omega arith) in
        absurd (n f.with f.selection (omega (arith, f.cores)))
