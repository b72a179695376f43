-- The outcome of a call that may change a lent buffer: it is settled, and comes from the call's tests. Assumes nothing.
use Prim.Native.Nat.{ℕ}
use mathlib.Core.Path.{◌≡◌, refl, sym, ap, ◌∙◌}
use mathlib.Core.List.{List, [], ◌∷◌, ◌++◌}
use mathlib.Core.Bool.{Bool, true, false}
use Rattle.answer.specs.Said.{Said, refused}
use Rattle.answer.specs.Order.{Row, row, first, afterwards, Outcome, NoneGiven}
use Rattle.answer.proofs.Bools.{clash}
use Rattle.answer.proofs.Rows.{kind, first_append, none_first, stop, first_none}

-- what is said and what the buffer holds are settled
pub outcome_one : {rows : List Row} {rest : Said} {before after : List ℕ} {s t : Said} {d e : List ℕ} → Outcome rows rest before after s d
    → Outcome rows rest before after t e → (s ≡ t) × (d ≡ e)
outcome_one p q = (p.says ∙ sym q.says, p.leaves ∙ sym q.leaves)

module _ (before after : List ℕ) where
  after_append : (A B : List Row) → afterwards (A ++ B) before after ≡ afterwards A before (afterwards B before after)
  after_append [] B = refl
  after_append (row n k true ∷ A) B = refl
  after_append (row n k false ∷ A) B = after_append A B

  none_after : (A : List Row) → NoneGiven A → afterwards A before after ≡ after
  none_after [] p = refl
  none_after (row n k true ∷ A) p = clash p.0
  none_after (row n k false ∷ A) p = none_after A p.1

  stop_after : (A : List Row) {x : Said} (s : Said) → (kind x ≡ kind s → ⊥) → x ≡ first A s → afterwards A before after ≡ before
  stop_after [] s ne q = absurd (ne (ap kind q))
  stop_after (row n k true ∷ A) s ne q = refl
  stop_after (row n k false ∷ A) s ne q = stop_after A s ne q

-- an answer of another kind than the rest is a refusal: nothing has changed
pub stops : (A : List Row) {x : Said} (s t : Said) (before after : List ℕ) → (kind x ≡ kind s → ⊥) → x ≡ first A s → Outcome A t before after x before
stops A s t before after ne q = record { says = stop A s t ne q; leaves = sym (stop_after before after A s ne q) }

-- no row is given: the rest is answered, and the buffer is changed
pub goes : (A : List Row) {s : Said} {e : List ℕ} (rest : Said) (before after : List ℕ) → NoneGiven A → s ≡ rest → e ≡ after → Outcome A rest before after s e
goes A rest before after p q l = record { says = q ∙ sym (none_first A rest p); leaves = l ∙ sym (none_after before after A p) }

-- rows behind other rows
pub joined : (A B : List Row) {s : Said} {e : List ℕ} (rest : Said) (before after : List ℕ)
    → Outcome A (first B rest) before (afterwards B before after) s e → Outcome (A ++ B) rest before after s e
joined A B rest before after o =
    record { says = o.says ∙ sym (first_append A B rest); leaves = o.leaves ∙ sym (after_append before after A B) }

-- rows of which none is given, before others
pub behind : (A B : List Row) {s : Said} {e : List ℕ} (rest : Said) (before after : List ℕ) → NoneGiven A → Outcome B rest before after s e
    → Outcome (A ++ B) rest before after s e
behind A B rest before after p o =
    joined A B rest before after (goes A (first B rest) before (afterwards B before after) p o.says o.leaves)

-- and then one that is
pub given : (A B : List Row) (k : ℕ) (b : Bool) {s rest : Said} {before after : List ℕ} → NoneGiven A → b ≡ true → s ≡ refused k 0
    → Outcome (A ++ row k 0 b ∷ B) rest before after s before
given A B k b {rest = rest} {before} {after} none e q = behind A (row k 0 b ∷ B) rest before after none (record { says = q ∙ rw e; leaves = rw e })

-- those rows may go
pub beyond : (A B : List Row) {s : Said} {e : List ℕ} (rest : Said) (before after : List ℕ) → NoneGiven A → Outcome (A ++ B) rest before after s e
    → Outcome B rest before after s e
beyond A B rest before after p o =
    record {
      says = o.says ∙ first_append A B rest ∙ none_first A (first B rest) p;
      leaves = o.leaves ∙ after_append before after A B ∙ none_after before (afterwards B before after) A p;
    }

-- behind an answer that is no refusal no row was given, and the buffer is changed
pub gone : (A : List Row) {s : Said} {e : List ℕ} (rest : Said) (before after : List ℕ) → (kind s ≡ 0 → ⊥) → Outcome A rest before after s e
    → NoneGiven A × (e ≡ after)
gone A rest before after ne o =
    let p = first_none A rest ne o.says in
    (p, o.leaves ∙ none_after before after A p)

-- under a refusal the buffer is as it was
pub unchanged : (A : List Row) {s : Said} {e : List ℕ} (rest : Said) (before after : List ℕ) → (kind s ≡ kind rest → ⊥) → Outcome A rest before after s e
    → e ≡ before
unchanged A rest before after ne o = o.leaves ∙ stop_after before after A rest ne o.says
