-- A mode is one by its need and its cost. Assumes nothing.
use Prim.Native.Nat.{ℕ, ◌≤◌}
use native.Mathlib.Bridge.{le_prop}
use mathlib.Core.Path.{◌≡◌, refl, ap, ap₂, subst}
use mathlib.Core.List.{List, [], ◌∷◌, map}
use Rattle.model.specs.Plan.{Choice}
use Rattle.model.specs.inner.Costs.{dearest}
use Rattle.cells.specs.declared.mode.Mode.{Mode}
use Rattle.cells.specs.inner.Rows.{held}

pub by_numbers : (a b : Mode) → a.need ≡ b.need → a.cost ≡ b.cost → a ≡ b
by_numbers a b e f =
    subst (λ (n : ℕ). (c : ℕ) → a.cost ≡ c → (q : c ≤ dearest) → a ≡ of n c q) e
    (λ c g. subst (λ (d : ℕ). (q : d ≤ dearest) → a ≡ of a.need d q) g (λ q. ap (of a.need a.cost) (le_prop a.bounded q)))
    b.cost f b.bounded
  where
    of : (n c : ℕ) → c ≤ dearest → Mode
    of n c q = record { need = n; cost = c; bounded = q }

pub by_choices : (xs ys : List Mode) → map held xs ≡ map held ys → xs ≡ ys
by_choices [] [] e = refl
by_choices [] (y ∷ ys) e = cc
by_choices (x ∷ xs) [] e = cc
by_choices (x ∷ xs) (y ∷ ys) e =
    let head : held x ≡ held y = cc in
    let tail : map held xs ≡ map held ys = cc in
    ap₂ (λ (m : Mode) (l : List Mode). m ∷ l) (by_numbers x y (ap (λ (o : Choice). o.need) head) (ap (λ (o : Choice). o.cost) head))
    (by_choices xs ys tail)
