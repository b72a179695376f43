-- Cells that are filled from 0 on hold their defined values. Assumes nothing.
use mathlib.Core.Path.{◌≡◌, refl, ap, ap₂, ◌∙◌}
use mathlib.Core.List.{List, [], ◌∷◌}
use Prim.Native.Nat.{ℕ, zero, suc, ◌+◌, ◌-◌, ◌*◌, ◌/◌, ◌%◌, ◌≤◌, ◌<◌}
use native.Mathlib.Nat.{div-lt_iff_lt-mul, div-add-mod', mod-lt, sub-zero}
use native.Mathlib.Omega.{arith}
use native.Mathlib.Decide.{ℕ_discrete}
use borrow.Author.Tests.{eq-eqb, ne_eqb}
use lib.ListN.{length, get_or, set, drop, length-set}
use lib.Seq.{get_or-set_same, get_or-set_other, drop-cons, drop-length}
use lib.Arith.{digits_div, digits_mod, digits_lt}
use Rattle.model.specs.Plan.{Task}
use Rattle.model.specs.Cells.{best}
use Rattle.model.specs.Workspace.{cell_count, row_of, number_of, cell_in, cell_rule, fill, value_of, Filled}
use Rattle.model.specs.inner.Portions.{progress_after, portions}
use Rattle.model.specs.inner.Filled.{RowsHold}
use Rattle.model.proofs.Sums.{reads_sound}
use Rattle.model.proofs.Least.{least_cong}
use Rattle.model.proofs.Best.{best_sound}
use Rattle.model.proofs.Fills.{portions_fill, progress_within}

module _ (ts : List Task) (m : ℕ) where
  -- the cell in row i at column c, where the cells up to it hold their values
  cell_in_lem : (ws : List ℕ) (p i c : ℕ) → Filled ts m ws p → i ≤ length ts → c < m + 1 → number_of (length ts) m i c < p
      → cell_in (length ts) m ws i c ≡ best (drop i ts) c
  unfolding cell_in value_of
  cell_in_lem ws p i c f h k l =
      let e : length ts - (length ts - i) ≡ i = omega arith in
      let v : get_or ws (number_of (length ts) m i c) 0 ≡ best (drop i ts) c =
      f (number_of (length ts) m i c) l
      ∙ ap₂ (λ (a b : ℕ). best (drop (length ts - a) ts) b) (digits_div (length ts - i) k) (digits_mod (length ts - i) k)
      ∙ ap (λ (x : ℕ). best (drop x ts) c) e in
      rw v (reads_sound (best (drop i ts) c) (best_sound (drop i ts) c))

  -- the rule gives the defined value of the cell at column c of stretch q, which is row n - q
  rule_at : (ws : List ℕ) (p q c : ℕ) → Filled ts m ws p → q ≤ length ts → p / (m + 1) ≡ q → p % (m + 1) ≡ c → c < m + 1 → q * (m + 1) + c ≡ p
      → cell_rule ts m ws p ≡ best (drop (length ts - q) ts) c
  unfolding cell_rule best
  rule_at ws p zero c f h eq ec k e =
      let r : row_of (length ts) m p ≡ length ts = omega arith in
      rw (eq-eqb (row_of (length ts) m p) (length ts) r, sub-zero, drop-length)
  rule_at ws p (suc q) c f h eq ec k e =
      let s : suc (length ts - suc q) ≡ length ts - suc q + 1 = omega arith in
      let d : drop (length ts - suc q) ts ≡ get_or ts (length ts - suc q) [] ∷ drop (length ts - suc q + 1) ts =
      drop-cons ts (length ts - suc q) [] (omega arith) ∙ ap (λ (x : ℕ). get_or ts (length ts - suc q) [] ∷ drop x ts) s in
      let other : row_of (length ts) m p ≡ length ts → ⊥ = λ z. omega arith in
      let b : length ts - (length ts - suc q + 1) ≡ q = omega arith in
      rw (ne_eqb (row_of (length ts) m p) (length ts) other, eq, ec, d)
      (least_cong (get_or ts (length ts - suc q) []) (cell_in (length ts) m ws (length ts - suc q + 1)) (best (drop (length ts - suc q + 1) ts)) c
      (λ x g. cell_in_lem ws p (length ts - suc q + 1) x f (omega arith) (omega arith) (rw b (omega arith))))

  rule_value : (ws : List ℕ) (p : ℕ) → Filled ts m ws p → p < cell_count (length ts) m → cell_rule ts m ws p ≡ value_of ts m p
  unfolding value_of cell_count
  rule_value ws p f h =
      rule_at ws p (p / (m + 1)) (p % (m + 1)) f
      (omega (arith, (div-lt_iff_lt-mul {k = m + 1} {x = p} {y = length ts + 1} (omega arith)).1 h)) refl refl (mod-lt p (omega arith))
      (div-add-mod' p (m + 1))

  filled_step : (ws : List ℕ) (p : ℕ) → Filled ts m ws p → p < cell_count (length ts) m → p < length ws
      → Filled ts m (set ws p (cell_rule ts m ws p)) (suc p)
  filled_step ws p f h l q g = go (ℕ_discrete q p)
    where
      go : Dec (q ≡ p) → get_or (set ws p (cell_rule ts m ws p)) q 0 ≡ value_of ts m q
      go (yes e) = rw e (get_or-set_same ws p (cell_rule ts m ws p) 0 l ∙ rule_value ws p f h)
      go (no e) = get_or-set_other ws p q (cell_rule ts m ws p) 0 e ∙ f q (omega arith)

  -- a run of cells from progress p on
  pub fill_filled : (ws : List ℕ) (p k : ℕ) → Filled ts m ws p → p + k ≤ cell_count (length ts) m → cell_count (length ts) m ≤ length ws
      → Filled ts m (fill (cell_rule ts m) ws p k) (p + k)
  unfolding fill
  fill_filled ws p zero f h l = λ q g. f q (omega arith)
  fill_filled ws p (suc k) f h l =
      λ q g. fill_filled (set ws p (cell_rule ts m ws p)) (suc p) k (filled_step ws p f (omega arith) (omega arith)) (omega arith) (rw length-set l) q
      (omega arith)

  -- after any portions the cells below the progress hold their defined values
  pub portions_filled : (ws : List ℕ) (p : ℕ) (bs : List ℕ) → Filled ts m ws p → p ≤ cell_count (length ts) m → cell_count (length ts) m ≤ length ws
      → Filled ts m (portions (cell_rule ts m) (cell_count (length ts) m) ws p bs) (progress_after (cell_count (length ts) m) p bs)
  portions_filled ws p bs f h l =
      let W : ℕ = cell_count (length ts) m in
      let b = progress_within (cell_rule ts m) W p bs h in
      let s : p + (progress_after W p bs - p) ≡ progress_after W p bs = omega arith in
      λ q g. ap (λ (x : List ℕ). get_or x q 0) (portions_fill (cell_rule ts m) W ws p bs h)
      ∙ fill_filled ws p (progress_after W p bs - p) f (omega arith) l q (omega arith)

  -- filled to the end, each row holds what is defined for it
  pub filled_holds : (ws : List ℕ) → Filled ts m ws (cell_count (length ts) m) → RowsHold (cell_in (length ts) m ws) ts m
  unfolding cell_count
  filled_holds ws f i c h g =
      cell_in_lem ws (cell_count (length ts) m) i c f h (omega arith)
      (digits_lt {q = length ts - i} {m = length ts + 1} {r = c} {c = m + 1} (omega arith) (omega arith))
