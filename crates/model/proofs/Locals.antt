-- A cell that is filled holds what the rule says of the cells below it, then and afterwards. Assumes nothing.
use mathlib.Core.Path.{◌≡◌, ap, sym, ◌∙◌}
use mathlib.Core.Logic.{inl}
use mathlib.Core.List.{List, []}
use Prim.Native.Nat.{ℕ, suc, ◌+◌, ◌-◌, ◌*◌, ◌/◌, ◌≤◌, ◌<◌}
use native.Mathlib.Nat.{div-add-mod', mul-le-mul_right, add-mul, one-mul}
use native.Mathlib.Omega.{arith}
use native.Mathlib.Decide.{ℕ_discrete}
use borrow.Author.Tests.{eq-eqb, ne_eqb}
use lib.ListN.{length, get_or, set}
use lib.Seq.{get_or-set_same, get_or-set_other}
use Rattle.model.specs.Plan.{Task}
use Rattle.model.specs.Cells.{reads}
use Rattle.model.specs.Workspace.{row_of, column_of, number_of, cell_in, Rule, cell_rule, fill}
use Rattle.model.proofs.Least.{least_cong}
use Rattle.model.proofs.Fills.{fill_add, fill_length, fill_outside}

-- a rule that reads only cells below the one it fills
abbrev pub Local : Rule → Type 0
Local rule = (ws ws' : List ℕ) (c : ℕ) → ((x : ℕ) → x < c → get_or ws x 0 ≡ get_or ws' x 0) → rule ws c ≡ rule ws' c

module _ (rule : Rule) (local : Local rule) where
  -- the cell filled last, with any run after it
  last_holds : (ws : List ℕ) (c k : ℕ) → c < length ws
      → let e = fill rule (set ws c (rule ws c)) (suc c) k in
      get_or e c 0 ≡ rule e c
  last_holds ws c k h =
      let one = set ws c (rule ws c) in
      let e = fill rule one (suc c) k in
      fill_outside rule one (suc c) k c 0 (inl (omega arith)) ∙ get_or-set_same ws c (rule ws c) 0 h
      ∙ local ws e c
      (λ x low. sym (fill_outside rule one (suc c) k x 0 (inl (omega arith)) ∙ get_or-set_other ws c x (rule ws c) 0 (omega arith)))

  pub fill_holds : (ws : List ℕ) (p k c : ℕ) → p ≤ c → c < p + k → p + k ≤ length ws → get_or (fill rule ws p k) c 0 ≡ rule (fill rule ws p k) c
  unfolding fill
  fill_holds ws p k c low high room =
      let mid = fill rule ws p (c - p) in
      let left : k ≡ (c - p) + suc (p + k - suc c) = omega arith in
      let at : p + (c - p) ≡ c = omega arith in
      let whole : fill rule ws p k ≡ fill rule (set mid c (rule mid c)) (suc c) (p + k - suc c) =
      ap (fill rule ws p) left ∙ fill_add rule ws p (c - p) (suc (p + k - suc c))
      ∙ ap (λ (x : ℕ). fill rule mid x (suc (p + k - suc c))) at in
      rw whole (last_holds mid c (p + k - suc c) (omega (arith, fill_length rule ws p (c - p))))

-- so is the rule of the cells: it reads the row before
module _ (ts : List Task) (m : ℕ) where
  row_below : (c k : ℕ) → (row_of (length ts) m c ≡ length ts → ⊥) → k ≤ column_of m c → number_of (length ts) m (row_of (length ts) m c + 1) k < c
  row_below c k other low =
      let n : ℕ = length ts in
      let q : ℕ = c / (m + 1) in
      let some : 1 ≤ q = omega arith in
      let s : n - (n - q + 1) ≤ q - 1 = omega arith in
      let e : q - 1 + 1 ≡ q = omega arith in
      omega (arith, mul-le-mul_right (m + 1) s, div-add-mod' c (m + 1), ap (λ (x : ℕ). x * (m + 1)) e, add-mul (q - 1) 1 (m + 1), one-mul (m + 1))

  pub rule_local : Local (cell_rule ts m)
  unfolding cell_rule cell_in
  rule_local ws ws' c same = go (ℕ_discrete (row_of (length ts) m c) (length ts))
    where
      go : Dec (row_of (length ts) m c ≡ length ts) → cell_rule ts m ws c ≡ cell_rule ts m ws' c
      go (yes e) = rw (eq-eqb (row_of (length ts) m c) (length ts) e)
      go (no e) =
          rw (ne_eqb (row_of (length ts) m c) (length ts) e)
          (least_cong (get_or ts (row_of (length ts) m c) []) (cell_in (length ts) m ws (row_of (length ts) m c + 1))
          (cell_in (length ts) m ws' (row_of (length ts) m c + 1)) (column_of m c) (λ k low. ap reads (same _ (row_below c k e low))))
