-- What an answer says of the rows that it came from. A is the rows, s the rest behind them, x what is said. Assumes nothing.
use mathlib.Core.Path.{◌≡◌, refl, sym, ap, ◌∙◌}
use Rattle.std.specs.Prelude.{Result, Ok, Err}
use Rattle.std.specs.Result.{IsErr, IsErrAnd}
use mathlib.Core.List.{List}
use Prim.Native.Nat.{ℕ}
use Rattle.answer.specs.Said.{Said, refused, number_of, said_of}
use Rattle.answer.specs.declared.Refusal.{Refusal}
use Rattle.answer.specs.Order.{Row, first, NoneGiven, Outcome}
use Rattle.answer.proofs.Rows.{kind, first_none, none_first, stop}
use Rattle.answer.proofs.Outcomes.{stops}

-- where `unsaid` undoes `said`, what is said of an answer is the whole of it: of any type of answers, where `said_one` is of a `Result`
pub one_said : {R : Type 0} (said : R → Said) (unsaid : Said → R) → ((r : R) → unsaid (said r) ≡ r) → {s : Said} (x y : R) → said x ≡ s → said y ≡ s → x ≡ y
one_said said unsaid back x y p q = sym (back x) ∙ ap unsaid (p ∙ sym q) ∙ back y

-- an answer that isn't what was asked for is a refusal, and so says nothing of another kind: what a `let .. else` leaves open
pub not_given : {A : Type 0} (says : A → Said) (x : Result A Refusal) → ((y : A) → x ≡ Ok y → ⊥) → kind (said_of says x) ≡ 0
not_given says (Ok y) other = absurd (other y refl)
not_given says (Err r) other = refl

-- x is no refusal: no row was given, x is the rest, and any other rest would follow too
module _ (A : List Row) {x : Said} (s : Said) (other : kind x ≡ 0 → ⊥) (q : x ≡ first A s) where
  pub passed : NoneGiven A
  passed = first_none A s other q

  pub answered : x ≡ s
  answered = q ∙ none_first A s passed

  pub went_on : (t : Said) → first A t ≡ t
  went_on t = none_first A t passed

-- a refusal that `?` passes up is said as it was
pub as_it_was : {A : Type 0} (says : A → Said) (r : Refusal) (x : Result A Refusal) → IsErr x × IsErrAnd x (λ e. e ≡ r)
    → said_of says x ≡ refused (number_of r.reason) r.at
as_it_was says r (Ok y) p = absurd p.1
as_it_was says r (Err e) p = ap (λ z. refused (number_of z.reason) z.at) p.1

-- and it is given whatever stands behind the rows that it came from
pub passed_up : {A : Type 0} (says : A → Said) (rows : List Row) (r : Refusal) (x : Result A Refusal) (s t : Said) → (kind s ≡ 0 → ⊥)
    → IsErr x × IsErrAnd x (λ e. e ≡ r) → refused (number_of r.reason) r.at ≡ first rows s → said_of says x ≡ first rows t
passed_up says rows r x s t other p q = as_it_was says r x p ∙ stop rows s t (λ z. other (sym z)) q

-- and of a call that may change a lent buffer, which is as it was
pub left_as_it_was : {A : Type 0} (says : A → Said) (rows : List Row) (r : Refusal) (x : Result A Refusal) (s t : Said) (before after : List ℕ)
    → (kind s ≡ 0 → ⊥) → IsErr x × IsErrAnd x (λ e. e ≡ r) → refused (number_of r.reason) r.at ≡ first rows s
    → Outcome rows t before after (said_of says x) before
left_as_it_was says rows r x s t before after other p q =
    record {
      says = passed_up says rows r x s t other p q;
      leaves = (stops rows s t before after (λ z. other (sym z)) q).leaves;
    }

-- a refusal by its reason and its place
pub by_reason : (r s : Refusal) → r ≡ s → refused (number_of r.reason) r.at ≡ refused (number_of s.reason) s.at
by_reason r s e = ap (λ z. refused (number_of z.reason) z.at) e
