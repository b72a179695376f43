-- Laws of `fill`, whatever the rule. Assumes nothing.
use mathlib.Core.Path.{◌≡◌, refl, ap, ◌∙◌, sym}
use mathlib.Core.List.{List, [], ◌∷◌, ◌++◌}
use mathlib.Core.Logic.{◌⊎◌, inl, inr}
use Prim.Native.Nat.{ℕ, zero, suc, ◌+◌, ◌-◌, ◌≤◌, ◌<◌}
use native.Mathlib.Nat.{add-zero, zero-add, suc-add, sub_self, le_antisymm}
use native.Mathlib.Omega.{arith}
use lib.ListN.{length, get_or, set, drop, length-set, length-append}
use lib.Seq.{get_or-set_other, set_at, append_snoc}
use Rattle.model.specs.Turns.{each_from}
use Rattle.model.specs.Workspace.{Rule, fill, advance, portion}
use Rattle.model.specs.inner.Portions.{progress_after, portions}

module _ (rule : Rule) where
  -- two runs after each other are one
  pub fill_add : (ws : List ℕ) (p a b : ℕ) → fill rule ws p (a + b) ≡ fill rule (fill rule ws p a) (p + a) b
  unfolding fill
  fill_add ws p zero b = rw (zero-add, add-zero)
  fill_add ws p (suc a) b =
      let e : p + suc a ≡ suc p + a = omega arith in
      rw (suc-add, e) (fill_add (set ws p (rule ws p)) (suc p) a b)

  -- the cells are as many
  pub fill_length : (ws : List ℕ) (p k : ℕ) → length (fill rule ws p k) ≡ length ws
  unfolding fill
  fill_length ws p zero = refl
  fill_length ws p (suc k) = fill_length (set ws p (rule ws p)) (suc p) k ∙ length-set ws p (rule ws p)

  -- those before the run and those after it keep their values
  pub fill_outside : (ws : List ℕ) (p k q d : ℕ) → (q < p) ⊎ (p + k ≤ q) → get_or (fill rule ws p k) q d ≡ get_or ws q d
  unfolding fill
  fill_outside ws p zero q d h = refl
  fill_outside ws p (suc k) q d (inl h) =
      fill_outside (set ws p (rule ws p)) (suc p) k q d (inl (omega arith)) ∙ get_or-set_other ws p q (rule ws p) d (omega arith)
  fill_outside ws p (suc k) q d (inr h) =
      fill_outside (set ws p (rule ws p)) (suc p) k q d (inr (omega arith)) ∙ get_or-set_other ws p q (rule ws p) d (omega arith)

  -- ---- a loop that fills from `from` on: before its first turn, a turn that fills up to q, and after its last, wherever it began
  pub fill_none : (ws : List ℕ) (p : ℕ) → ws ≡ fill rule ws p (p - p)
  unfolding fill
  fill_none ws p = rw (sub_self p)

  pub fill_chain : (ws cells next : List ℕ) (from p q : ℕ) → from ≤ p → p ≤ q → cells ≡ fill rule ws from (p - from)
      → next ≡ fill rule cells p (q - p) → next ≡ fill rule ws from (q - from)
  fill_chain ws cells next from p q h k e f =
      let s : from + (p - from) ≡ p = omega arith in
      let t : q - from ≡ (p - from) + (q - p) = omega arith in
      rw (f, e, t, fill_add ws from (p - from) (q - p), s)

  pub fill_done : (ws cells : List ℕ) (from to p : ℕ) → p ≤ to → to ≤ p → cells ≡ fill rule ws from (p - from) → cells ≡ fill rule ws from (to - from)
  fill_done ws cells from to p h k e = e ∙ ap (λ (q : ℕ). fill rule ws from (q - from)) (le_antisymm h k)

  -- ---- a run, as the cells before it, its values, and the cells after it: they may look at the cells before it, and at no others
  pub fill_parts : (f : ℕ → ℕ) (before rest : List ℕ) (p c k : ℕ) → length before ≡ p → k ≤ length rest
      → ((xs : List ℕ) (i : ℕ) → i < k → rule (before ++ xs) (p + i) ≡ f (c + i))
      → before ++ (each_from f c k ++ drop k rest) ≡ fill rule (before ++ rest) p k
  unfolding fill each_from
  fill_parts f before rest p c zero e h r = refl
  fill_parts f before [] p c (suc k) e h r = absurd (omega arith)
  fill_parts f before (b ∷ rest) p c (suc k) e h r =
      let v : rule (before ++ (b ∷ rest)) p ≡ f c = simp add-zero at (r (b ∷ rest) 0 (omega arith)) in
      let s : set (before ++ (b ∷ rest)) p (f c) ≡ before ++ (f c ∷ []) ++ rest =
      set_at before b rest (f c) p e ∙ sym (append_snoc before (f c) rest) in
      let long : length (before ++ (f c ∷ [])) ≡ suc p = rw length-append (omega arith) in
      sym (append_snoc before (f c) (each_from f (c + 1) k ++ drop k rest))
      ∙ fill_parts f (before ++ (f c ∷ [])) rest (suc p) (c + 1) k long (omega arith)
      (λ xs i l.
      let q : suc p + i ≡ p + suc i = omega arith in
      let d : c + 1 + i ≡ c + suc i = omega arith in
      rw (append_snoc before (f c) xs, q, d) (r (f c ∷ xs) (suc i) (omega arith)))
      ∙ rw (v, s)

  module _ (W : ℕ) where
    pub progress_within : (p : ℕ) (bs : List ℕ) → p ≤ W → (p ≤ progress_after W p bs) × (progress_after W p bs ≤ W)
    unfolding progress_after
    progress_within p [] h = omega arith
    progress_within p (b ∷ bs) h = omega (arith, progress_within (advance W p b) bs (omega arith))

    -- portions in any budgets are one run up to the last progress
    pub portions_fill : (ws : List ℕ) (p : ℕ) (bs : List ℕ) → p ≤ W → portions rule W ws p bs ≡ fill rule ws p (progress_after W p bs - p)
    unfolding portions progress_after
    portions_fill ws p [] h = unfold fill in rw (sub_self p)
    portions_fill ws p (b ∷ bs) h =
        let q : ℕ = advance W p b in
        let i = progress_within q bs (omega arith) in
        let e : p + (q - p) ≡ q = omega arith in
        let s : progress_after W q bs - p ≡ (q - p) + (progress_after W q bs - q) = omega arith in
        portions_fill (portion rule W ws p b) q bs (omega arith)
        ∙ sym (ap (fill rule ws p) s ∙ fill_add ws p (q - p) (progress_after W q bs - q)
        ∙ ap (λ (x : ℕ). fill rule (fill rule ws p (q - p)) x (progress_after W q bs - q)) e)

-- two rules that agree on the cells of a run fill it alike: what joins the laws of single cells (`rule_last`, `rule_task`) to whole runs
pub fill_same : (f g : Rule) (ws : List ℕ) (p k : ℕ) → ((l : List ℕ) (q : ℕ) → p ≤ q → q < p + k → f l q ≡ g l q) → fill f ws p k ≡ fill g ws p k
unfolding fill
fill_same f g ws p zero h = refl
fill_same f g ws p (suc k) h =
    rw (h ws p (omega arith) (omega arith)) (fill_same f g (set ws p (g ws p)) (suc p) k (λ l q a b. h l q (omega arith) (omega arith)))
