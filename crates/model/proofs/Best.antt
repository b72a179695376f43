-- `best` is the least cost over the selections that fit: a lower bound, attained where it is not the mark, and falling in the column.
-- Assumes nothing.
use mathlib.Core.Path.{◌≡◌, refl, ap}
use mathlib.Core.Logic.{inl, inr, ◌≢◌}
use mathlib.Core.List.{List, [], ◌∷◌}
use Prim.Native.Nat.{ℕ, zero, suc, ◌-◌, ◌*◌, ◌≤◌}
use native.Mathlib.Omega.{arith}
use lib.ListN.{length}
use Rattle.model.specs.Limits.{most_tasks}
use Rattle.model.specs.Plan.{Task, choice, IsSelection, Fits, total_cores, total_cost}
use Rattle.model.specs.inner.Costs.{dearest, dearest_of, dearest_sum, Limits}
use Rattle.model.specs.Cells.{mark, ceiling, onward, best}
use Rattle.model.proofs.Sums.{Sound, sound_le, plus_within, plus_is}
use Rattle.model.proofs.Least.{least_sound, least_low, least_found}

-- a selection has one mode for each task
pub selection_length : (ts : List Task) (s : List ℕ) → IsSelection ts s → length s ≡ length ts
selection_length [] [] l = refl
selection_length [] (j ∷ s) l = absurd l
selection_length (t ∷ ts) [] l = absurd l
selection_length (t ∷ ts) (j ∷ s) l = ap suc (selection_length ts s l.2)

pub best_sound : (ts : List Task) (c : ℕ) → Sound (best ts c)
unfolding best
best_sound [] c = inl (omega arith)
best_sound (t ∷ ts) c = least_sound t (best ts) c

-- no selection that fits costs less
pub best_low : (ts : List Task) (s : List ℕ) (c : ℕ) → IsSelection ts s → total_cores ts s ≤ c → total_cost ts s ≤ ceiling → best ts c ≤ total_cost ts s
unfolding best total_cores total_cost onward
best_low [] s c l f p = omega arith
best_low (t ∷ ts) [] c l f p = absurd l
best_low (t ∷ ts) (j ∷ s) c l f p =
    let ih : best ts (c - (choice t j).need) ≤ total_cost ts s = best_low ts s (c - (choice t j).need) l.2 (omega arith) (omega arith) in
    let lo = least_low t (best ts) c j l.0 l.1 (omega arith) in
    omega (arith, plus_within (choice t j).cost (best ts (c - (choice t j).need)) (omega arith))

-- a selection that fits within c and costs v
pub record Attained (ts : List Task) (c v : ℕ) : Type 0 where
  pub with : List ℕ
  pub selection : IsSelection ts with
  pub fits : total_cores ts with ≤ c
  pub costs : total_cost ts with ≡ v

best_attained : (ts : List Task) (c : ℕ) → best ts c ≤ ceiling → Attained ts c (best ts c)
unfolding best total_cores total_cost onward
best_attained [] c h = record { with = []; selection = tt; fits = omega arith; costs = refl }
best_attained (t ∷ ts) c h =
    let f = least_found t (best ts) c h in
    let e = plus_is (choice t f.at).cost (best ts (c - (choice t f.at).need)) (omega (arith, f.same)) in
    let r = best_attained ts (c - (choice t f.at).need) (omega (arith, f.same)) in
    record { with = f.at ∷ r.with; selection = (f.there, f.allowed, r.selection); fits = omega arith; costs = omega (arith, f.same, r.costs) }

pub best_falls : (ts : List Task) (c d : ℕ) → c ≤ d → best ts d ≤ best ts c
best_falls ts c d h = go (best_sound ts c)
  where
    go : Sound (best ts c) → best ts d ≤ best ts c
    go (inl k) =
        let a = best_attained ts c k in
        omega (arith, best_low ts a.with d a.selection (omega arith) (omega arith))
    go (inr e) = omega (arith, sound_le (best ts d) (best_sound ts d))

-- the limits keep every selection within the ceiling
cost_below : (t : Task) (j : ℕ) → (choice t j).cost ≤ dearest_of t
unfolding dearest_of
cost_below [] j = omega arith
cost_below (o ∷ os) zero = omega arith
cost_below (o ∷ os) (suc j) = omega (arith, cost_below os j)

cost_le : (ts : List Task) (s : List ℕ) → total_cost ts s ≤ dearest_sum ts
unfolding total_cost dearest_sum
cost_le [] s = omega arith
cost_le (t ∷ ts) [] = omega arith
cost_le (t ∷ ts) (j ∷ s) = omega (arith, cost_below t j, cost_le ts s)

pub cost_within : (ts : List Task) (s : List ℕ) → Limits ts → total_cost ts s ≤ ceiling
cost_within ts s l = omega (arith, cost_le ts s)

-- which the tasks of a table keep: they are few, and no mode of one is dearer than a mode can be
dearest_most : (t : Task) → ((j : ℕ) → (choice t j).cost ≤ dearest) → dearest_of t ≤ dearest
unfolding dearest_of
dearest_most [] p = omega arith
dearest_most (o ∷ os) p = omega (arith, p 0, dearest_most os (λ j. p (suc j)))

abbrev pub Priced : List Task → Type 0
Priced [] = Unit {0}
Priced (t ∷ ts) = ((j : ℕ) → (choice t j).cost ≤ dearest) × Priced ts

sum_most : (ts : List Task) → Priced ts → dearest_sum ts ≤ length ts * dearest
unfolding dearest_sum
sum_most [] p = omega arith
sum_most (t ∷ ts) p = omega (arith, dearest_most t p.0, sum_most ts p.1)

pub few_within : (ts : List Task) → length ts ≤ most_tasks → Priced ts → Limits ts
few_within ts few p = omega (arith, sum_most ts p)

-- where it is not the mark it is the least cost over the selections that fit
pub record IsLeast (ts : List Task) (c v : ℕ) : Type 0 where
  pub attained : Attained ts c v
  pub low : (s : List ℕ) → IsSelection ts s → Fits ts c s → v ≤ total_cost ts s

pub best_least : (ts : List Task) (c : ℕ) → Limits ts → best ts c ≢ mark → IsLeast ts c (best ts c)
best_least ts c l n = go (best_sound ts c)
  where
    go : Sound (best ts c) → IsLeast ts c (best ts c)
    go (inl k) = record { attained = best_attained ts c k; low = λ s a f. best_low ts s c a f (cost_within ts s l) }
    go (inr e) = absurd (n e)
