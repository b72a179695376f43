-- Laws of the modes in turn: the order of their refusals, and their figures as they are lent. Assumes nothing.
use Prim.Native.Nat.{ℕ, zero, suc, ◌+◌, ◌-◌, ◌*◌, ◌^◌, ◌≤◌, ◌<◌}
use native.Mathlib.Omega.{arith}
use mathlib.Core.Path.{◌≡◌, refl, sym, ap, ◌∙◌}
use mathlib.Core.List.{List, [], ◌∷◌}
use lib.ListN.{length, drop, get_or, length-drop}
use lib.Seq.{drop-cons}
use Rattle.answer.specs.Said.{Said}
use Rattle.answer.specs.Order.{first}
use Rattle.answer.proofs.Rows.{first_append}
use Rattle.model.specs.Turns.{each_from}
use Rattle.model.specs.declared.Figures.{Figures}
use Rattle.block.specs.Layout.{listed, flat, threes}
use Rattle.block.specs.Tests.{figure_rows, modes_rows}

-- ---- the order of refusals
-- one mode, then the others
one_first : (at H : ℕ) (f : Figures) (fs : List Figures) (s : Said)
    → first (modes_rows at H (f ∷ fs)) s ≡ first (figure_rows at H f) (first (modes_rows at H fs) s)
unfolding modes_rows
one_first at H f fs s = first_append (figure_rows at H f) (modes_rows at H fs) s

module _ (figures : ℕ → Figures) (at H : ℕ) where
  pub modes_more : (j modes : ℕ) (s : Said) → j < modes
      → first (modes_rows at H (each_from figures j (modes - j))) s
      ≡ first (figure_rows at H (figures j)) (first (modes_rows at H (each_from figures (j + 1) (modes - (j + 1)))) s)
  unfolding each_from
  modes_more j modes s p =
      let e : modes - j ≡ suc (modes - (j + 1)) = omega arith in
      ap (λ (k : ℕ). first (modes_rows at H (each_from figures j k)) s) e
      ∙ one_first at H (figures j) (each_from figures (j + 1) (modes - (j + 1))) s

  pub modes_end : (j modes : ℕ) (s : Said) → modes ≤ j → first (modes_rows at H (each_from figures j (modes - j))) s ≡ s
  unfolding modes_rows each_from
  modes_end j modes s p = let e : modes - j ≡ 0 = omega arith in ap (λ (k : ℕ). first (modes_rows at H (each_from figures j k)) s) e

-- the same of figures that are lent, wherever a refusal names: the check needs it of place 0 alone
threes_end : (xs : List ℕ) → length xs < 3 → threes xs ≡ []
unfolding threes
threes_end [] h = refl
threes_end (a ∷ []) h = refl
threes_end (a ∷ b ∷ []) h = refl
threes_end (a ∷ b ∷ c ∷ xs) h = absurd (omega arith)

module _ (lent : List ℕ) (at H : ℕ) where
  threes_more : (from : ℕ) → 3 ≤ length lent - from
      → threes (drop from lent) ≡ listed (get_or lent from 0) (get_or lent (from + 1) 0) (get_or lent (from + 2) 0) ∷ threes (drop (from + 3) lent)
  unfolding threes
  threes_more from h =
      let one : suc from ≡ from + 1 = omega arith in
      let two : suc (from + 1) ≡ from + 2 = omega arith in
      let three : suc (from + 2) ≡ from + 3 = omega arith in
      rw (drop-cons lent from 0 (omega arith), one, drop-cons lent (from + 1) 0 (omega arith), two, drop-cons lent (from + 2) 0 (omega arith), three)

  pub lent_more : (from : ℕ) (s : Said) → 3 ≤ length lent - from
      → first (modes_rows at H (threes (drop from lent))) s
      ≡ first (figure_rows at H (listed (get_or lent from 0) (get_or lent (from + 1) 0) (get_or lent (from + 2) 0)))
      (first (modes_rows at H (threes (drop (from + 3) lent))) s)
  lent_more from s h =
      ap (λ (fs : List Figures). first (modes_rows at H fs) s) (threes_more from h)
      ∙ one_first at H (listed (get_or lent from 0) (get_or lent (from + 1) 0) (get_or lent (from + 2) 0)) (threes (drop (from + 3) lent)) s

  pub lent_end : (from : ℕ) (s : Said) → length lent - from < 3 → first (modes_rows at H (threes (drop from lent))) s ≡ s
  unfolding modes_rows
  lent_end from s h = ap (λ (fs : List Figures). first (modes_rows at H fs) s) (threes_end (drop from lent) (rw length-drop h))

-- ---- lent, three numbers for each mode
pub threes_flat : (fs : List Figures) → threes (flat fs) ≡ fs
unfolding threes flat
threes_flat [] = refl
threes_flat (f ∷ fs) = ap (λ (l : List Figures). f ∷ l) (threes_flat fs)

pub flat_same : (a b : List Figures) → flat a ≡ flat b → a ≡ b
flat_same a b e = sym (threes_flat a) ∙ ap threes e ∙ threes_flat b

pub length_flat : (figures : ℕ → Figures) (j left : ℕ) → length (flat (each_from figures j left)) ≡ 3 * left
unfolding flat each_from
length_flat figures j zero = refl
length_flat figures j (suc left) = omega (arith, length_flat figures (j + 1) left)

-- each figure fits 32 bits
pub record Small (f : Figures) : Type 0 where
  pub work : f.work < 256 ^ 4
  pub span : f.span < 256 ^ 4
  pub period : f.period < 256 ^ 4

cons_small : (x : ℕ) (xs : List ℕ) → x < 256 ^ 4 → ((i : ℕ) → get_or xs i 0 < 256 ^ 4) → (i : ℕ) → get_or (x ∷ xs) i 0 < 256 ^ 4
cons_small x xs h t zero = h
cons_small x xs h t (suc i) = t i

pub flat_small : (figures : ℕ → Figures) (j left : ℕ) → ((k : ℕ) → j ≤ k → k < j + left → Small (figures k))
    → (i : ℕ) → get_or (flat (each_from figures j left)) i 0 < 256 ^ 4
unfolding flat each_from
flat_small figures j zero h i = omega arith
flat_small figures j (suc left) h i =
    let f = h j (omega arith) (omega arith) in
    let rest = flat_small figures (j + 1) left (λ k low high. h k (omega arith) (omega arith)) in
    let xs = flat (each_from figures (j + 1) left) in
    let T = (figures j).period in
    let L = (figures j).span in
    cons_small (figures j).work (L ∷ T ∷ xs) f.work (cons_small L (T ∷ xs) f.span (cons_small T xs f.period rest)) i
