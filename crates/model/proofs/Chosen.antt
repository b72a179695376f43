-- The trace over the defined values: it is a selection of the cell's cost, and the lowest of those. Assumes nothing.
use mathlib.Core.Path.{◌≡◌, refl, sym, ◌∙◌}
use mathlib.Core.Logic.{inl, inr}
use mathlib.Core.List.{List, [], ◌∷◌}
use Prim.Native.Nat.{ℕ, ◌+◌, ◌-◌, ◌≤◌, ◌<◌}
use native.Mathlib.Omega.{arith}
use lib.Dec.{T}
use lib.ListN.{length}
use lib.Arith.{lt_of_le-ne}
use native.Mathlib.Decide.{ℕ_discrete}
use Rattle.model.specs.Plan.{Task, choice, IsSelection, Lower, total_cores, total_cost}
use Rattle.model.specs.Cells.{ceiling, onward, best}
use Rattle.model.specs.Taking.{keeps, lowest}
use Rattle.model.proofs.Sums.{plus_within, plus_is}
use Rattle.model.proofs.Least.{least_low, least_found, first_at, keeps_yes, keeps_true}
use Rattle.model.proofs.Best.{best_low}

-- the mode of the first task, and the selection
unfoldable pub pick : Task → List Task → ℕ → ℕ
pick t ts c = lowest t (best ts) c (best (t ∷ ts) c)

unfoldable pub chosen : List Task → ℕ → List ℕ
chosen [] c = []
chosen (t ∷ ts) c = pick t ts c ∷ chosen ts (c - (choice t (pick t ts c)).need)

-- the picked mode keeps the cost
record Kept (t : Task) (ts : List Task) (c j : ℕ) : Type 0 where
  there : j < length t
  allowed : T (choice t j).permitted
  small : (choice t j).need ≤ c
  sum : best (t ∷ ts) c ≡ (choice t j).cost + best ts (c - (choice t j).need)

kept : (t : Task) (ts : List Task) (c : ℕ) → best (t ∷ ts) c ≤ ceiling → Kept t ts c (pick t ts c)
unfolding pick best onward
kept t ts c h =
    let f = least_found t (best ts) c h in
    let r = first_at (keeps (best ts) c (best (t ∷ ts) c)) t f.at f.there
    (keeps_yes (best ts) c (best (t ∷ ts) c) (choice t f.at) f.allowed f.small f.same) in
    let j : ℕ = pick t ts c in
    let k = keeps_true (best ts) c (best (t ∷ ts) c) (choice t j) r.passes in
    let e = plus_is (choice t j).cost (best ts (c - (choice t j).need)) (omega (arith, k.2)) in
    record { there = r.there; allowed = k.0; small = k.1; sum = sym k.2 ∙ e }

pub chosen_right : (ts : List Task) (c : ℕ) → best ts c ≤ ceiling
    → IsSelection ts (chosen ts c) × (total_cores ts (chosen ts c) ≤ c) × (total_cost ts (chosen ts c) ≡ best ts c)
unfolding chosen total_cores total_cost
chosen_right [] c h = (tt, omega arith, unfold best in refl)
chosen_right (t ∷ ts) c h =
    let k = kept t ts c h in
    let r = chosen_right ts (c - (choice t (pick t ts c)).need) (omega (arith, k.sum)) in
    ((k.there, k.allowed, r.0), omega (arith, k.small, r.1), omega (arith, k.sum, r.2))

-- any other of that cost keeps the cost with its first mode too
record Also (t : Task) (ts : List Task) (c k : ℕ) (s : List ℕ) : Type 0 where
  rest : total_cores ts s ≤ c - (choice t k).need
  costs : total_cost ts s ≡ best ts (c - (choice t k).need)
  late : pick t ts c ≤ k

also : (t : Task) (ts : List Task) (c k : ℕ) (s : List ℕ) → best (t ∷ ts) c ≤ ceiling
    → IsSelection (t ∷ ts) (k ∷ s) → total_cores (t ∷ ts) (k ∷ s) ≤ c → total_cost (t ∷ ts) (k ∷ s) ≡ best (t ∷ ts) c → Also t ts c k s
unfolding best onward total_cores total_cost pick
also t ts c k s h l f p =
    let n : total_cores ts s ≤ c - (choice t k).need = omega arith in
    let lo = best_low ts s (c - (choice t k).need) l.2 n (omega arith) in
    let e = plus_within (choice t k).cost (best ts (c - (choice t k).need)) (omega arith) in
    let ge = least_low t (best ts) c k l.0 l.1 (omega arith) in
    let x : onward (choice t k) (best ts) c ≡ best (t ∷ ts) c = omega arith in
    let y = keeps_yes (best ts) c (best (t ∷ ts) c) (choice t k) l.1 (omega arith) x in
    record { rest = n; costs = omega arith; late = (first_at (keeps (best ts) c (best (t ∷ ts) c)) t k l.0 y).early }

-- the chosen one is the lowest of that cost
pub chosen_lower : (ts : List Task) (c : ℕ) (s : List ℕ) → best ts c ≤ ceiling → IsSelection ts s → total_cores ts s ≤ c → total_cost ts s ≡ best ts c
    → Lower (chosen ts c) s
unfolding chosen
chosen_lower [] c s h l f p = tt
chosen_lower (t ∷ ts) c [] h l f p = absurd l
chosen_lower (t ∷ ts) c (k ∷ s) h l f p =
    go (ℕ_discrete (pick t ts c) k) (also t ts c k s h l f p) (kept t ts c h) (λ d q y z. chosen_lower ts d s q l.2 y z)
  where
    go : Dec (pick t ts c ≡ k) → Also t ts c k s → Kept t ts c (pick t ts c)
        → ((d : ℕ) → best ts d ≤ ceiling → total_cores ts s ≤ d → total_cost ts s ≡ best ts d → Lower (chosen ts d) s)
        → Lower (pick t ts c ∷ chosen ts (c - (choice t (pick t ts c)).need)) (k ∷ s)
    go (no n) a x ih = inl (lt_of_le-ne a.late n)
    go (yes e) a x ih = inr (e, ih (c - (choice t (pick t ts c)).need) (omega (arith, x.sum)) (rw e a.rest) (rw e a.costs))
