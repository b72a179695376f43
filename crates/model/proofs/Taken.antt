-- Over cells that hold their defined values the answer is right, it is never 18, and only one answer is right. Assumes nothing.
use mathlib.Core.Path.{◌≡◌, refl, ap, ap₂, sym, ◌∙◌}
use mathlib.Core.Logic.{inl, inr, ⊎_elim, ◌↔◌}
use mathlib.Core.Bool.{Bool, true, false, cond, not}
use mathlib.Core.List.{List, [], ◌∷◌}
use Prim.Native.Nat.{ℕ, suc, ◌-◌}
use native.Mathlib.Omega.{arith}
use lib.Dec.{eqb}
use lib.ListN.{length}
use borrow.Author.Tests.{eqb-true, eqb-false, lt-ltb}
use Rattle.answer.specs.Said.{Said, refused, plan}
use Rattle.answer.proofs.Bools.{clash}
use Rattle.answer.proofs.Rows.{plan_refused}
use Rattle.model.specs.Plan.{Task, choice, IsSelection, NothingFits, total_cores, total_cost}
use Rattle.model.specs.inner.Costs.{Limits}
use Rattle.model.specs.Cells.{mark}
use Rattle.model.specs.Taking.{lowest, used, trace, all_keep, take_rows, take_modes, Right}
use Rattle.model.specs.inner.Filled.{take_said, RowsHold}
use Rattle.model.proofs.Order.{one_plan}
use Rattle.model.proofs.Taking.{Took, took_plan, none_fits}

-- a trace that is a selection met no refusal 18
selection_keeps : (rows : ℕ → ℕ → ℕ) (i : ℕ) (ts : List Task) (c : ℕ) → IsSelection ts (trace rows i ts c) → all_keep rows i ts c ≡ true
unfolding all_keep trace
selection_keeps rows i [] c l = refl
selection_keeps rows i (t ∷ ts) c l =
    rw (lt-ltb (lowest t (rows (suc i)) c (rows i c)) (length t) l.0)
    (selection_keeps rows (suc i) ts (c - (choice t (lowest t (rows (suc i)) c (rows i c))).need) l.2)

module _ (rows : ℕ → ℕ → ℕ) (ts : List Task) (m : ℕ) (l : Limits ts) (a : RowsHold rows ts m) where
  -- the plan with its cores and its cost, or 14 where no selection fits
  pub take_right : Right ts m (take_said rows ts m) (take_modes rows ts m)
  unfolding take_rows
  take_right = go (eqb (rows 0 m) mark) refl
    where
      kept : Took ts m (take_modes rows ts m) (used (rows 0) m) (rows 0 m) → (b : Bool) → all_keep rows 0 ts (used (rows 0) m) ≡ b
          → Right ts m (cond (not b) (refused 18 0) (plan (used (rows 0) m) (rows 0 m))) (take_modes rows ts m)
      kept t true e = inl (t.plan, ap₂ plan (sym t.uses) (sym t.costs))
      kept t false e = clash (sym (selection_keeps rows 0 ts (used (rows 0) m) t.plan.selection) ∙ e)

      go : (b : Bool) → eqb (rows 0 m) mark ≡ b
          → Right ts m (cond b (refused 14 0) (cond (not (all_keep rows 0 ts (used (rows 0) m))) (refused 18 0) (plan (used (rows 0) m) (rows 0 m))))
          (take_modes rows ts m)
      go true e = inr (none_fits rows ts m l a (eqb-true (rows 0 m) mark e), refl)
      go false e = kept (took_plan rows ts m a (eqb-false (rows 0 m) mark e)) (all_keep rows 0 ts (used (rows 0) m)) refl

  -- 14 exactly when no selection fits
  pub take_none : (take_said rows ts m ≡ refused 14 0) ↔ NothingFits ts m
  take_none =
      (λ e. ⊎_elim (λ x. plan_refused x.1 e) (λ x. x.0) take_right, λ n. ⊎_elim (λ x. absurd (n _ x.0.selection x.0.fits)) (λ x. x.1) take_right)

  -- never 18
  pub take_never_18 : take_said rows ts m ≡ refused 18 0 → ⊥
  take_never_18 e = ⊎_elim (λ x. plan_refused x.1 e) (λ x. let z : ◌≡◌ {A = ℕ} 18 14 = cc in omega arith) take_right

-- two right answers are equal
pub right_one : (ts : List Task) (m : ℕ) (x y : Said) (s s' : List ℕ) → Right ts m x s → Right ts m y s' → x ≡ y
right_one ts m x y s s' (inl p) (inl q) =
    let e = one_plan ts m s s' p.0 q.0 in
    p.1 ∙ ap₂ plan (ap (total_cores ts) e) (ap (total_cost ts) e) ∙ sym q.1
right_one ts m x y s s' (inl p) (inr q) = absurd (q.0 s p.0.selection p.0.fits)
right_one ts m x y s s' (inr p) (inl q) = absurd (p.0 s' q.0.selection q.0.fits)
right_one ts m x y s s' (inr p) (inr q) = p.1 ∙ sym q.1
