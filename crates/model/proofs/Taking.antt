-- Taking the plan from rows that hold their defined values gives the plan. Assumes nothing.
use mathlib.Core.Path.{◌≡◌, refl, ap, ap₂, sym, subst, subst₃, ◌∙◌}
use mathlib.Core.Logic.{◌⊎◌, inl, inr, ◌≢◌}
use mathlib.Core.Bool.{Bool, true, false, cond}
use mathlib.Core.List.{List, [], ◌∷◌}
use Prim.Native.Nat.{ℕ, zero, suc, ◌+◌, ◌-◌, ◌≤◌, ◌<◌}
use native.Mathlib.Nat.{zero-add, add-suc, suc-add, add-zero}
use native.Mathlib.Omega.{arith}
use native.Mathlib.Decide.{ℕ_discrete, dec_le}
use native.Mathlib.Numerals.{add-one}
use lib.Dec.{eqb}
use lib.ListN.{length, drop}
use borrow.Author.Tests.{eqb-true, eqb-false}
use Rattle.model.specs.Plan.{Task, choice, IsSelection, Fits, AsGood, IsPlan, NothingFits, total_cores, total_cost}
use Rattle.model.specs.inner.Costs.{Limits}
use Rattle.model.specs.Cells.{mark, ceiling, best}
use Rattle.model.specs.Taking.{lowest, search_from, used, trace, take_modes}
use Rattle.model.specs.inner.Filled.{RowsHold}
use Rattle.model.proofs.Sums.{Sound, within}
use Rattle.model.proofs.Least.{lowest_cong}
use Rattle.model.proofs.Best.{best_sound, best_low, best_falls, cost_within}
use Rattle.model.proofs.Chosen.{pick, chosen, chosen_right, chosen_lower}

-- ---- the smallest column
pub record Searched (f : ℕ → Bool) (c k r : ℕ) : Type 0 where
  pub from : c ≤ r
  pub upto : r ≤ c + k
  pub before : (x : ℕ) → c ≤ x → x < r → f x ≡ false
  pub passes : r < c + k → f r ≡ true

pub searched : (f : ℕ → Bool) (c k : ℕ) → Searched f c k (search_from f c k)
unfolding search_from
searched f c zero = record { from = omega arith; upto = omega arith; before = λ x a b. absurd (omega arith); passes = λ a. absurd (omega arith) }
searched f c (suc k) = go (f c) refl (searched f (suc c) k)
  where
    go : (b : Bool) → f c ≡ b → Searched f (suc c) k (search_from f (suc c) k) → Searched f c (suc k) (cond b c (search_from f (suc c) k))
    go true e r = record { from = omega arith; upto = omega arith; before = λ x a b. absurd (omega arith); passes = λ a. e }
    go false e r =
        record { from = omega (arith, r.from); upto = omega (arith, r.upto); before = λ x a b. at x a b (ℕ_discrete x c); passes = λ a. r.passes (omega arith) }
      where
        at : (x : ℕ) → c ≤ x → x < search_from f (suc c) k → Dec (x ≡ c) → f x ≡ false
        at x a b (yes q) = rw q e
        at x a b (no n) = r.before x (omega arith) b

search_cong : (f g : ℕ → Bool) (c k : ℕ) → ((x : ℕ) → x < c + k → f x ≡ g x) → search_from f c k ≡ search_from g c k
unfolding search_from
search_cong f g c zero h = refl
search_cong f g c (suc k) h =
    ap₂ (λ (b : Bool) (y : ℕ). cond b c y) (h c (omega arith)) (search_cong f g (suc c) k (λ x a. h x (omega arith)))

-- ---- the trace over rows is the trace over the defined values
abbrev From : (ℕ → ℕ → ℕ) → ℕ → List Task → ℕ → Type 0
From rows i ts m = (k c : ℕ) → k ≤ length ts → c ≤ m → rows (i + k) c ≡ best (drop k ts) c

trace_same : (rows : ℕ → ℕ → ℕ) (i : ℕ) (ts : List Task) (m c : ℕ) → c ≤ m → From rows i ts m → trace rows i ts c ≡ chosen ts c
unfolding trace chosen pick
trace_same rows i [] m c h a = refl
trace_same rows i (t ∷ ts) m c h a =
    let here : rows i c ≡ best (t ∷ ts) c = rw add-zero at (a 0 c (omega arith) h) in
    let after : (k : ℕ) → k ≤ c → rows (suc i) k ≡ best ts k = λ k q. rw add-one at (a 1 k (omega arith) (omega arith)) in
    let next : From rows (suc i) ts m =
    λ k d q w. subst (λ (x : ℕ). rows x d ≡ best (drop k ts) d) (add-suc i k ∙ sym (suc-add i k)) (a (suc k) d (omega arith) w) in
    let e : lowest t (rows (suc i)) c (rows i c) ≡ pick t ts c =
    lowest_cong t (rows (suc i)) (best ts) c (rows i c) after ∙ ap (λ (v : ℕ). lowest t (best ts) c v) here in
    ap (λ (j : ℕ). j ∷ trace rows (suc i) ts (c - (choice t j).need)) e
    ∙ ap (λ (r : List ℕ). pick t ts c ∷ r) (trace_same rows (suc i) ts m (c - (choice t (pick t ts c)).need) (omega arith) next)

-- ---- the smallest column of the defined values
pub used_le : (row : ℕ → ℕ) (m : ℕ) → used row m ≤ m
used_le row m = omega (arith, (searched (λ c. eqb (row c) (row m)) 0 m).upto)

pub used_same : (row : ℕ → ℕ) (m : ℕ) → row (used row m) ≡ row m
used_same row m = go (ℕ_discrete (used row m) m)
  where
    go : Dec (used row m ≡ m) → row (used row m) ≡ row m
    go (yes e) = ap row e
    go (no n) = eqb-true (row (used row m)) (row m) ((searched (λ c. eqb (row c) (row m)) 0 m).passes (omega (arith, used_le row m)))

-- no smaller column has that cost
pub used_least : (row : ℕ → ℕ) (m x : ℕ) → row x ≡ row m → used row m ≤ x
used_least row m x e = go (dec_le (used row m) x)
  where
    go : Dec (used row m ≤ x) → used row m ≤ x
    go (yes h) = h
    go (no n) = absurd (eqb-false (row x) (row m) ((searched (λ c. eqb (row c) (row m)) 0 m).before x (omega arith) (omega arith)) e)

pub used_cong : (f g : ℕ → ℕ) (m : ℕ) → ((x : ℕ) → x ≤ m → f x ≡ g x) → used f m ≡ used g m
used_cong f g m h =
    search_cong (λ c. eqb (f c) (f m)) (λ c. eqb (g c) (g m)) 0 m (λ x a. ap₂ eqb (h x (omega arith)) (h m (omega arith)))

-- ---- the plan
-- one mode for each task
pub trace_length : (rows : ℕ → ℕ → ℕ) (i : ℕ) (ts : List Task) (c : ℕ) → length (trace rows i ts c) ≡ length ts
unfolding trace
trace_length rows i [] c = refl
trace_length rows i (t ∷ ts) c =
    let j = lowest t (rows (suc i)) c (rows i c) in
    ap suc (trace_length rows (suc i) ts (c - (choice t j).need))

pub record Took (ts : List Task) (m : ℕ) (s : List ℕ) (u v : ℕ) : Type 0 where
  pub plan : IsPlan ts m s
  pub uses : total_cores ts s ≡ u
  pub costs : total_cost ts s ≡ v

-- a selection of the least cost needs no fewer cores than the smallest column of that cost
tight : (ts : List Task) (m : ℕ) (s : List ℕ) → IsSelection ts s → Fits ts m s → total_cost ts s ≡ best ts m → best ts m ≤ ceiling
    → used (best ts) m ≤ total_cores ts s
tight ts m s l f p h =
    let lo = best_low ts s (total_cores ts s) l (omega arith) (omega arith) in
    let up = best_falls ts (total_cores ts s) m f in
    used_least (best ts) m (total_cores ts s) (omega arith)

chosen_best : (ts : List Task) (m : ℕ) (s s' : List ℕ) → best ts m ≤ ceiling → s ≡ chosen ts (used (best ts) m) → total_cost ts s ≡ best ts m
    → total_cores ts s ≡ used (best ts) m
    → IsSelection ts s' → Fits ts m s' → AsGood ts s s'
chosen_best ts m s s' h e p u l f =
    go (within (total_cost ts s')) (ℕ_discrete (total_cost ts s) (total_cost ts s')) (ℕ_discrete (total_cores ts s) (total_cores ts s'))
  where
    go : (total_cost ts s' ≤ ceiling) ⊎ (ceiling < total_cost ts s') → Dec (total_cost ts s ≡ total_cost ts s') → Dec (total_cores ts s ≡ total_cores ts s')
        → AsGood ts s s'
    go (inr k) d d' = inl (omega arith)
    go (inl k) (no n) d' = inl (omega (arith, best_low ts s' m l f k))
    go (inl k) (yes q) (no n) = inr (q, inl (omega (arith, tight ts m s' l f (sym q ∙ p) h)))
    go (inl k) (yes q) (yes r) =
        inr (q, inr (r, rw e (chosen_lower ts (used (best ts) m) s' (omega (arith, used_same (best ts) m)) l (omega arith) (omega (arith, used_same (best ts) m)))))

chosen_plan : (ts : List Task) (m : ℕ) → best ts m ≤ ceiling → Took ts m (chosen ts (used (best ts) m)) (used (best ts) m) (best ts m)
chosen_plan ts m h =
    let u : ℕ = used (best ts) m in
    let q : best ts u ≡ best ts m = used_same (best ts) m in
    let r = chosen_right ts u (omega arith) in
    let f : total_cores ts (chosen ts u) ≤ m = omega (arith, r.1, used_le (best ts) m) in
    let p : total_cost ts (chosen ts u) ≡ best ts m = r.2 ∙ q in
    let e : total_cores ts (chosen ts u) ≡ u = omega (arith, r.1, tight ts m (chosen ts u) r.0 f p h) in
    record {
      plan = record { selection = r.0; fits = f; best = λ s' l k. chosen_best ts m (chosen ts u) s' h refl p e l k };
      uses = e;
      costs = p;
    }

-- where column m of row 0 is not the mark, what is taken is the plan, and the smallest column and that cell are its cores and its cost
pub took_plan : (rows : ℕ → ℕ → ℕ) (ts : List Task) (m : ℕ) → RowsHold rows ts m → rows 0 m ≢ mark
    → Took ts m (take_modes rows ts m) (used (rows 0) m) (rows 0 m)
took_plan rows ts m a n =
    let z : rows 0 m ≡ best ts m = a 0 m (omega arith) (omega arith) in
    let u : used (rows 0) m ≡ used (best ts) m = used_cong (rows 0) (best ts) m (λ x q. a 0 x (omega arith) q) in
    let f : From rows 0 ts m = λ k c q w. rw zero-add (a k c q w) in
    let e : take_modes rows ts m ≡ chosen ts (used (best ts) m) =
    trace_same rows 0 ts m (used (rows 0) m) (used_le (rows 0) m) f ∙ ap (chosen ts) u in
    go z u e (best_sound ts m)
  where
    go : rows 0 m ≡ best ts m → used (rows 0) m ≡ used (best ts) m → take_modes rows ts m ≡ chosen ts (used (best ts) m) → Sound (best ts m)
        → Took ts m (take_modes rows ts m) (used (rows 0) m) (rows 0 m)
    go z u e (inl h) = subst₃ (λ (s : List ℕ) (x y : ℕ). Took ts m s x y) (sym e) (sym u) (sym z) (chosen_plan ts m h)
    go z u e (inr q) = absurd (n (z ∙ q))

-- where it is the mark, no selection fits
pub none_fits : (rows : ℕ → ℕ → ℕ) (ts : List Task) (m : ℕ) → Limits ts → RowsHold rows ts m → rows 0 m ≡ mark → NothingFits ts m
none_fits rows ts m l a e s w f = omega (arith, a 0 m (omega arith) (omega arith), best_low ts s m w f (cost_within ts s l), cost_within ts s l)
