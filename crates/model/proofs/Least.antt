-- Laws of `least`, of `first_of` and of `keeps`. Assumes nothing.
use mathlib.Core.Path.{◌≡◌, refl, ap₂, sym, ◌∙◌}
use mathlib.Core.Logic.{◌⊎◌, inl, inr}
use mathlib.Core.Bool.{Bool, true, false, cond, ◌&&◌}
use mathlib.Core.List.{[], ◌∷◌}
use Prim.Native.Nat.{ℕ, zero, suc, ◌-◌, ◌≤◌, ◌<◌, min}
use native.Mathlib.Nat.{not-suc-le-zero, le_of_suc-le-suc, min-le_left, min-le_right, le_trans}
use native.Mathlib.Omega.{arith}
use lib.Dec.{T, leb, eqb}
use borrow.Author.Tests.{leb-true, leb-false, eqb-true, eq-eqb}
use lib.ListN.{length}
use Rattle.answer.proofs.Bools.{clash}
use Rattle.model.specs.Plan.{Choice, Task, choice}
use Rattle.model.specs.Cells.{mark, ceiling, may, onward, offered, least}
use Rattle.model.specs.Taking.{first_of, keeps, lowest}
use Rattle.model.proofs.Sums.{Sound, plus_sound, may_yes, may_true}

min_sound : (a b : ℕ) → Sound a → Sound b → Sound (min a b)
min_sound a b (inl h) k = inl (omega arith)
min_sound a b (inr h) (inl k) = inl (omega arith)
min_sound a b (inr h) (inr k) = inr (omega arith)

onward_sound : (o : Choice) (next : ℕ → ℕ) (c : ℕ) → Sound (onward o next c)
unfolding onward
onward_sound o next c = plus_sound o.cost (next (c - o.need))

offer_sound : (o : Choice) (next : ℕ → ℕ) (c : ℕ) → Sound (offered o next c)
offer_sound o next c = go (may o c)
  where
    go : (b : Bool) → Sound (cond b (onward o next c) mark)
    go true = onward_sound o next c
    go false = inr refl

-- each cell is within the ceiling or the mark
pub least_sound : (t : Task) (next : ℕ → ℕ) (c : ℕ) → Sound (least t next c)
unfolding least
least_sound [] next c = inr refl
least_sound (o ∷ os) next c = min_sound (offered o next c) (least os next c) (offer_sound o next c) (least_sound os next c)

-- a lower bound
pub least_low : (t : Task) (next : ℕ → ℕ) (c j : ℕ) → j < length t → T (choice t j).permitted → (choice t j).need ≤ c
    → least t next c ≤ onward (choice t j) next c
unfolding least
least_low [] next c j h p n = absurd (not-suc-le-zero h)
least_low (o ∷ os) next c zero h p n =
    let e : offered o next c ≡ onward o next c = simp (may_yes o c p n) in
    omega (arith, min-le_left (offered o next c) (least os next c))
least_low (o ∷ os) next c (suc j) h p n =
    le_trans (min-le_right (offered o next c) (least os next c)) (least_low os next c j (le_of_suc-le-suc h) p n)

-- attained, where it is not the mark
pub record Found (t : Task) (next : ℕ → ℕ) (c v : ℕ) : Type 0 where
  pub at : ℕ
  pub there : at < length t
  pub allowed : T (choice t at).permitted
  pub small : (choice t at).need ≤ c
  pub same : onward (choice t at) next c ≡ v

-- which of two is the smaller
abbrev Pick : ℕ → ℕ → Type 0
Pick a b = ((a ≤ b) × (min a b ≡ a)) ⊎ ((b < a) × (min a b ≡ b))

min_pick : (a b : ℕ) → Pick a b
min_pick a b = go (leb a b) refl
  where
    go : (t : Bool) → leb a b ≡ t → Pick a b
    go true e = let h = leb-true a b e in inl (omega arith)
    go false e = let h = leb-false a b e in inr (omega arith)

offer_taken : (o : Choice) (next : ℕ → ℕ) (c : ℕ) → offered o next c ≤ ceiling → may o c ≡ true
offer_taken o next c = go (may o c)
  where
    go : (b : Bool) → cond b (onward o next c) mark ≤ ceiling → b ≡ true
    go true h = refl
    go false h = absurd (omega arith)

pub least_found : (t : Task) (next : ℕ → ℕ) (c : ℕ) → least t next c ≤ ceiling → Found t next c (least t next c)
unfolding least
least_found [] next c h = absurd (omega arith)
least_found (o ∷ os) next c h = go (min_pick (offered o next c) (least os next c)) (least_found os next c)
  where
    go : Pick (offered o next c) (least os next c) → (least os next c ≤ ceiling → Found os next c (least os next c))
        → Found (o ∷ os) next c (min (offered o next c) (least os next c))
    go (inl k) ih =
        let e : may o c ≡ true = offer_taken o next c (omega arith) in
        let x : offered o next c ≡ onward o next c = simp e in
        let m = may_true o c e in
        record { at = zero; there = omega arith; allowed = m.0; small = m.1; same = sym x ∙ sym k.1 }
    go (inr k) ih =
        let f = ih (omega arith) in
        record { at = suc f.at; there = omega arith; allowed = f.allowed; small = f.small; same = f.same ∙ sym k.1 }

-- the first that passes: it passes, and stands no later than any that passes
pub record First (f : Choice → Bool) (t : Task) (j : ℕ) : Type 0 where
  pub early : first_of f t ≤ j
  pub there : first_of f t < length t
  pub passes : f (choice t (first_of f t)) ≡ true

first_yes : (f : Choice → Bool) (o : Choice) (os : Task) → f o ≡ true → first_of f (o ∷ os) ≡ 0
unfolding first_of
first_yes f o os e = simp e

first_no : (f : Choice → Bool) (o : Choice) (os : Task) → f o ≡ false → first_of f (o ∷ os) ≡ suc (first_of f os)
unfolding first_of
first_no f o os e = simp e

first_here : (f : Choice → Bool) (o : Choice) (os : Task) (j : ℕ) → f o ≡ true → First f (o ∷ os) j
first_here f o os j e =
    let z = first_yes f o os e in
    record { early = omega arith; there = omega arith; passes = rw z e }

first_later : (f : Choice → Bool) (o : Choice) (os : Task) (j : ℕ) → f o ≡ false → First f os j → First f (o ∷ os) (suc j)
first_later f o os j e r =
    let z = first_no f o os e in
    record { early = omega arith; there = omega arith; passes = rw z r.passes }

pub first_at : (f : Choice → Bool) (t : Task) (j : ℕ) → j < length t → f (choice t j) ≡ true → First f t j
first_at f [] j h p = absurd (not-suc-le-zero h)
first_at f (o ∷ os) zero h p = first_here f o os zero p
first_at f (o ∷ os) (suc j) h p = go (f o) refl (first_at f os j (le_of_suc-le-suc h) p)
  where
    go : (b : Bool) → f o ≡ b → First f os j → First f (o ∷ os) (suc j)
    go true e r = first_here f o os (suc j) e
    go false e r = first_later f o os j e r

-- a mode that keeps the cost: what the test says, both ways
pub keeps_yes : (next : ℕ → ℕ) (c v : ℕ) (o : Choice) → T o.permitted → o.need ≤ c → onward o next c ≡ v → keeps next c v o ≡ true
unfolding keeps
keeps_yes next c v o p n e = simp (may_yes o c p n, eq-eqb (onward o next c) v e)

pub keeps_true : (next : ℕ → ℕ) (c v : ℕ) (o : Choice) → keeps next c v o ≡ true → T o.permitted × (o.need ≤ c) × (onward o next c ≡ v)
unfolding keeps
keeps_true next c v o e = go (may o c) refl e
  where
    go : (b : Bool) → may o c ≡ b → b && eqb (onward o next c) v ≡ true → T o.permitted × (o.need ≤ c) × (onward o next c ≡ v)
    go true q x = let m = may_true o c q in (m.0, m.1, eqb-true (onward o next c) v x)
    go false q x = clash (sym x)

-- the row after it counts only up to column c
onward_cong : (o : Choice) (f g : ℕ → ℕ) (c : ℕ) → ((k : ℕ) → k ≤ c → f k ≡ g k) → onward o f c ≡ onward o g c
unfolding onward
onward_cong o f g c h = simp (h (c - o.need) (omega arith))

pub least_cong : (t : Task) (f g : ℕ → ℕ) (c : ℕ) → ((k : ℕ) → k ≤ c → f k ≡ g k) → least t f c ≡ least t g c
unfolding least
least_cong [] f g c h = refl
least_cong (o ∷ os) f g c h = ap₂ (λ (x y : ℕ). min (cond (may o c) x mark) y) (onward_cong o f g c h) (least_cong os f g c h)

pub lowest_cong : (t : Task) (f g : ℕ → ℕ) (c v : ℕ) → ((k : ℕ) → k ≤ c → f k ≡ g k) → lowest t f c v ≡ lowest t g c v
unfolding first_of keeps
lowest_cong [] f g c v h = refl
lowest_cong (o ∷ os) f g c v h =
    ap₂ (λ (x y : ℕ). cond (may o c && eqb x v) 0 (suc y)) (onward_cong o f g c h) (lowest_cong os f g c v h)
