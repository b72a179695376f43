-- Rows whose numbers and places are all of a kind, and what they come to. Assumes nothing.
use Prim.Native.Nat.{ℕ, ◌^◌, ◌<◌}
use native.Mathlib.Omega.{arith}
use mathlib.Core.Path.{◌≡◌, refl, sym, ap, ◌∙◌}
use mathlib.Core.List.{List, [], ◌∷◌, ◌++◌}
use mathlib.Core.Bool.{Bool, true, false, ◌&&◌, ◌||◌}
use mathlib.Core.Logic.{◌⊎◌, inl, inr, ⊎_elim}
use lib.Dec.{T, eqb, ltb}
use lib.ListN.{length}
use borrow.Author.Tests.{eqb-true, ltb-true}
use Rattle.answer.specs.Said.{Said, refused, number_of}
use Rattle.answer.specs.Order.{Row, row, first, afterwards, Outcome, NoneGiven, is_one_of, OneOf}
use Rattle.answer.proofs.Rows.{kind}
use Rattle.answer.proofs.Reasons.{reason_of}
use Rattle.answer.proofs.Outcomes.{goes}

module _ (P : ℕ → ℕ → Type 0) where
  -- every row of a list has such a number and place, given or not
  abbrev pub Each : List Row → Type 0
  Each [] = Unit {0}
  Each (row k at given ∷ rows) = P k at × Each rows

  pub each_append : (A B : List Row) → Each A → Each B → Each (A ++ B)
  each_append [] B a b = b
  each_append (row k at given ∷ A) B a b = (a.0, each_append A B a.1 b)

  -- then so has the refusal
  pub each_first : (A : List Row) (s rest : Said) → (kind rest ≡ 0 → ⊥) → Each A → s ≡ first A rest → (k at : ℕ) → s ≡ refused k at → P k at
  each_first [] s rest other a e k at r = absurd (other (ap kind (sym e ∙ r)))
  each_first (row n place true ∷ A) s rest other a e k at r =
      let number : n ≡ k = cc in
      let where_at : place ≡ at = cc in
      rw (← number, ← where_at) a.0
  each_first (row n place false ∷ A) s rest other a e k at r = each_first A s rest other a.1 e k at r

  -- what rows come to: none is given; or one is, with such a number and place, and a lent buffer is as it was
  pub record Refuses (A : List Row) : Type 0 where
    pub number : ℕ
    pub at : ℕ
    pub such : P number at
    pub says : (rest : Said) → refused number at ≡ first A rest
    pub leaves : (before after : List ℕ) → before ≡ afterwards A before after

  pub decide : (A : List Row) → Each A → NoneGiven A ⊎ Refuses A
  decide [] a = inl tt
  decide (row k at true ∷ A) a =
      inr (record { number = k; at = at; such = a.0; says = λ rest. refl; leaves = λ before after. refl })
  decide (row k at false ∷ A) a = go (decide A a.1)
    where
      go : NoneGiven A ⊎ Refuses A → NoneGiven (row k at false ∷ A) ⊎ Refuses (row k at false ∷ A)
      go (inl none) = inl (refl, none)
      go (inr r) = inr (record { number = r.number; at = r.at; such = r.such; says = r.says; leaves = r.leaves })

  -- an outcome is there: of an answer for every refusal, and of one for the rest where no row is given
  module _ {R : Type 0} (said : R → Said) (Holds : R → Type 0) (A : List Row) (rest : Said) (before after : List ℕ) where
    pub record Some : Type 0 where
      pub answer : R
      pub held : Holds answer
      pub left : List ℕ
      pub kept : (left ≡ before) ⊎ (NoneGiven A × (left ≡ after))
      pub allowed : Outcome A rest before after (said answer) left

    pub some : Each A → ((k at : ℕ) → P k at → (r : R) × Holds r × (said r ≡ refused k at)) → (NoneGiven A → (r : R) × Holds r × (said r ≡ rest)) → Some
    some a refuses answers = go (decide A a)
      where
        go : NoneGiven A ⊎ Refuses A → Some
        go (inl none) =
            let (r, h, e) = answers none in
            record { answer = r; held = h; left = after; kept = inr (none, refl); allowed = goes A rest before after none e refl }
        go (inr d) =
            let (r, h, e) = refuses d.number d.at d.such in
            record {
              answer = r;
              held = h;
              left = before;
              kept = inl refl;
              allowed = record { says = e ∙ d.says rest; leaves = d.leaves before after };
            }

    -- with as many values behind it as were lent
    pub some_long : (o : Some) → (NoneGiven A → length after ≡ length before) → length o.left ≡ length before
    some_long o long = ⊎_elim (λ same. ap length same) (λ new. ap length new.1 ∙ long new.0) o.kept

-- numbers of a list that are all below another: of any numbers, a reason's or not
abbrev pub all_below : ℕ → List ℕ → Bool
all_below b [] = true
all_below b (x ∷ xs) = ltb x b && all_below b xs

pub one_below : (b : ℕ) (xs : List ℕ) → T (all_below b xs) → (k : ℕ) → OneOf xs k → k < b
one_below b [] all k one = absurd one
one_below b (x ∷ xs) all k one = go (ltb x b) refl (eqb k x) refl all one (λ a o. one_below b xs a k o)
  where
    go : (t : Bool) → ltb x b ≡ t → (e : Bool) → eqb k x ≡ e → T (t && all_below b xs) → T (e || is_one_of xs k)
        → (T (all_below b xs) → OneOf xs k → k < b) → k < b
    go true h true e a o ih = rw (eqb-true k x e) (ltb-true x b h)
    go true h false e a o ih = ih a o
    go false h e is a o ih = absurd a

-- each of these is the number of a reason
abbrev pub all_known : List ℕ → Bool
all_known [] = true
all_known (x ∷ xs) = eqb (number_of (reason_of x)) x && all_known xs

pub one_known : (xs : List ℕ) → T (all_known xs) → (k : ℕ) → OneOf xs k → number_of (reason_of k) ≡ k
one_known [] all k one = absurd one
one_known (x ∷ xs) all k one = go (eqb (number_of (reason_of x)) x) refl (eqb k x) refl all one (λ a o. one_known xs a k o)
  where
    go : (t : Bool) → eqb (number_of (reason_of x)) x ≡ t → (e : Bool) → eqb k x ≡ e → T (t && all_known xs) → T (e || is_one_of xs k)
        → (T (all_known xs) → OneOf xs k → number_of (reason_of k) ≡ k) → number_of (reason_of k) ≡ k
    go true h true e a o ih = rw (eqb-true k x e) (eqb-true _ x h)
    go true h false e a o ih = ih a o
    go false h e is a o ih = absurd a

-- a refusal fits its type: its number is a reason's, and its place has 32 bits
abbrev pub Fits : ℕ → ℕ → Type 0
Fits k at = (number_of (reason_of k) ≡ k) × (at < 2 ^ 32)

pub fits_front : (xs : List ℕ) → T (all_known xs) → (k : ℕ) → OneOf xs k → Fits k 0
fits_front xs all k one = (one_known xs all k one, omega arith)
