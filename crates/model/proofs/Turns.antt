-- Laws of values in turn. Assumes nothing.
use Prim.Native.Nat.{ℕ, zero, suc, ◌+◌, ◌≤◌, ◌<◌}
use native.Mathlib.Nat.{eq-or-lt_of_le, le_antisymm, add-zero}
use native.Mathlib.Numerals.{add-one}
use native.Mathlib.Omega.{arith}
use mathlib.Core.Logic.{⊎_elim}
use mathlib.Core.Path.{◌≡◌, refl, sym, ap, subst, ◌∙◌}
use mathlib.Core.List.{List, [], ◌∷◌, ◌++◌, append-nil}
use lib.ListN.{length, drop, get_or, set, drop_of_length-le}
use lib.Seq.{drop-cons, set_at, append_snoc}
use Rattle.model.specs.Turns.{each_from}

module _ {A : Type 0} where
  pub each_length : (f : ℕ → A) (j left : ℕ) → length (each_from f j left) ≡ left
  unfolding each_from
  each_length f j zero = refl
  each_length f j (suc left) = ap suc (each_length f (j + 1) left)

  -- one of them
  pub each_at : (f : ℕ → A) (d : A) (j left k : ℕ) → k < left → get_or (each_from f j left) k d ≡ f (j + k)
  unfolding each_from
  each_at f d j zero k h = absurd (omega arith)
  each_at f d j (suc left) zero h = rw add-zero
  each_at f d j (suc left) (suc k) h =
      let e : j + 1 + k ≡ j + suc k = omega arith in
      each_at f d (j + 1) left k (omega arith) ∙ ap f e

  -- one more at the end
  pub each_more : (f : ℕ → A) (j left : ℕ) → each_from f j (suc left) ≡ each_from f j left ++ (f (j + left) ∷ [])
  unfolding each_from
  each_more f j zero = rw add-zero
  each_more f j (suc left) =
      let e : j + 1 + left ≡ j + suc left = omega arith in
      ap (λ (l : List A). f j ∷ l) (each_more f (j + 1) left ∙ ap (λ (k : ℕ). each_from f (j + 1) left ++ (f k ∷ [])) e)

  -- equal one by one, and in turn
  module _ (f g : ℕ → A) where
    pub each_same : (j left : ℕ) → ((k : ℕ) → j ≤ k → k < j + left → f k ≡ g k) → each_from f j left ≡ each_from g j left
    unfolding each_from
    each_same j zero e = refl
    each_same j (suc left) e = rw (e j (omega arith) (omega arith), each_same (j + 1) left (λ k low high. e k (omega arith) (omega arith)))

    pub same_each : (j left : ℕ) → each_from f j left ≡ each_from g j left → (k : ℕ) → j ≤ k → k < j + left → f k ≡ g k
    unfolding each_from
    same_each j zero e k low high = absurd (omega arith)
    same_each j (suc left) e k low high =
        ⊎_elim (λ same. subst (λ (x : ℕ). f x ≡ g x) same (ap (λ (l : List A). get_or l 0 (f j)) e))
        (λ more. same_each (j + 1) left (ap (drop 1) e) k (omega arith) (omega arith))
        (eq-or-lt_of_le low)

  -- ---- a loop that puts them over the front of a list: before its first turn, one more, all of them
  pub each_put : (f : ℕ → A) (c : ℕ) (was is : List A) (i : ℕ) (v : A) → i < length was → v ≡ f (c + i)
      → is ≡ each_from f c i ++ drop i was → set is i v ≡ each_from f c (i + 1) ++ drop (i + 1) was
  each_put f c was is i v h e q =
      ap (λ (l : List A). set l i v) q
      ∙ rw (add-one, drop-cons was i v, each_more f c i, e)
      (set_at (each_from f c i) _ (drop (suc i) was) _ i (each_length f c i)
      ∙ sym (append_snoc (each_from f c i) _ (drop (suc i) was)))
