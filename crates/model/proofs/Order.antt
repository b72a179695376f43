-- The order among selections: it goes on, two that are as good as each other are equal, and so there is at most one plan. Assumes nothing.
use mathlib.Core.Path.{◌≡◌, refl, ap₂, ◌∙◌}
use mathlib.Core.Logic.{inl, inr}
use mathlib.Core.List.{List, [], ◌∷◌}
use Prim.Native.Nat.{ℕ}
use native.Mathlib.Omega.{arith}
use Rattle.model.specs.Plan.{Task, Then, Lower, AsGood, IsPlan, total_cores, total_cost}

then_both : {A B : Type 0} (x y : ℕ) → Then x y A → Then y x B → (x ≡ y) × A × B
then_both x y (inl a) (inl b) = absurd (omega arith)
then_both x y (inl a) (inr b) = absurd (omega arith)
then_both x y (inr a) (inl b) = absurd (omega arith)
then_both x y (inr a) (inr b) = (a.0, a.1, b.1)

then_trans : {A B C : Type 0} (x y z : ℕ) → (A → B → C) → Then x y A → Then y z B → Then x z C
then_trans x y z f (inl a) (inl b) = inl (omega arith)
then_trans x y z f (inl a) (inr b) = inl (omega arith)
then_trans x y z f (inr a) (inl b) = inl (omega arith)
then_trans x y z f (inr a) (inr b) = inr (a.0 ∙ b.0, f a.1 b.1)

lower_both : (s s' : List ℕ) → Lower s s' → Lower s' s → s ≡ s'
lower_both [] [] h k = refl
lower_both [] (x ∷ s') h k = absurd k
lower_both (j ∷ s) [] h k = absurd h
lower_both (j ∷ s) (k ∷ s') a b =
    let e = then_both j k a b in
    ap₂ ◌∷◌ e.0 (lower_both s s' e.1 e.2)

lower_trans : (r s t : List ℕ) → Lower r s → Lower s t → Lower r t
lower_trans [] s t a b = tt
lower_trans (i ∷ r) [] t a b = absurd a
lower_trans (i ∷ r) (j ∷ s) [] a b = absurd b
lower_trans (i ∷ r) (j ∷ s) (k ∷ t) a b = then_trans i j k (lower_trans r s t) a b

as_good_both : (ts : List Task) (s s' : List ℕ) → AsGood ts s s' → AsGood ts s' s → s ≡ s'
as_good_both ts s s' a b =
    let p = then_both (total_cost ts s) (total_cost ts s') a b in
    let c = then_both (total_cores ts s) (total_cores ts s') p.1 p.2 in
    lower_both s s' c.1 c.2

pub as_good_trans : (ts : List Task) (r s t : List ℕ) → AsGood ts r s → AsGood ts s t → AsGood ts r t
as_good_trans ts r s t =
    then_trans (total_cost ts r) (total_cost ts s) (total_cost ts t)
    (then_trans (total_cores ts r) (total_cores ts s) (total_cores ts t) (lower_trans r s t))

-- two plans are equal
pub one_plan : (ts : List Task) (m : ℕ) (s s' : List ℕ) → IsPlan ts m s → IsPlan ts m s' → s ≡ s'
one_plan ts m s s' p q = as_good_both ts s s' (p.best s' q.selection q.fits) (q.best s p.selection p.fits)
