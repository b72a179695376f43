-- Laws of `first`. Assumes nothing.
use Prim.Native.Nat.{ℕ}
use native.Mathlib.Omega.{arith}
use mathlib.Core.Path.{◌≡◌, refl, sym, ap, ◌∙◌}
use mathlib.Core.List.{List, [], ◌∷◌, ◌++◌}
use mathlib.Core.Bool.{true, false, cond}
use lib.ListN.{drop}
use Rattle.answer.specs.Said.{Said, refused, header, task, figures, choice, needs, filled, plan, written}
use Rattle.answer.specs.Order.{Row, row, first, NoneGiven}
use Rattle.answer.proofs.Bools.{clash}

-- the rows of an append, one list after the other
pub first_append : (A B : List Row) (s : Said) → first (A ++ B) s ≡ first A (first B s)
first_append [] B s = refl
first_append (row n k true ∷ A) B s = refl
first_append (row n k false ∷ A) B s = first_append A B s

pub none_append : (A B : List Row) → NoneGiven (A ++ B) → NoneGiven A × NoneGiven B
none_append [] B p = (tt, p)
none_append (row n k b ∷ A) B p = let r = none_append A B p.1 in ((p.0, r.0), r.1)

pub append_none : (A B : List Row) → NoneGiven A → NoneGiven B → NoneGiven (A ++ B)
append_none [] B p q = q
append_none (row n k b ∷ A) B p q = (p.0, append_none A B p.1 q)

-- where no row is given the rest is answered
pub none_first : (A : List Row) (s : Said) → NoneGiven A → first A s ≡ s
none_first [] s p = refl
none_first (row n k true ∷ A) s p = clash p.0
none_first (row n k false ∷ A) s p = none_first A s p.1

-- the first k rows are not given
abbrev pub Past : List Row → Said → ℕ → Type 0
Past rows rest k = first rows rest ≡ first (drop k rows) rest

-- the kind of an answer; a refusal's is 0
abbrev pub kind : Said → ℕ
kind (refused n k) = 0
kind (header n m H) = 1
kind (task E j p) = 2
kind (figures C L T) = 3
kind (needs k) = 4
kind (filled p) = 5
kind (plan u v) = 6
kind written = 7
kind (choice p k v) = 8

-- and its numbers
abbrev pub numbers : Said → ℕ × ℕ × ℕ
numbers (refused n k) = (n, k, 0)
numbers (header n m H) = (n, m, H)
numbers (task E j p) = (E, j, p)
numbers (figures C L T) = (C, L, T)
numbers (needs k) = (k, 0, 0)
numbers (filled p) = (p, 0, 0)
numbers (plan u v) = (u, v, 0)
numbers written = (0, 0, 0)
numbers (choice p k v) = (cond p 1 0, k, v)

-- a plan is no refusal
pub plan_refused : {A : Type 0} {s : Said} {u v k at : ℕ} → s ≡ plan u v → s ≡ refused k at → A
plan_refused e r = let z : ◌≡◌ {A = ℕ} 6 0 = ap kind (sym e ∙ r) in absurd (omega arith)

-- rows before a refusal give a refusal
pub kind_refused : (A : List Row) → kind (first A (refused 0 0)) ≡ 0
kind_refused [] = refl
kind_refused (row n k true ∷ A) = refl
kind_refused (row n k false ∷ A) = kind_refused A

-- an answer of another kind than the rest is a refusal of the rows, whatever the rest is
pub stop : (A : List Row) {x : Said} (s t : Said) → (kind x ≡ kind s → ⊥) → x ≡ first A s → x ≡ first A t
stop [] s t ne q = absurd (ne (ap kind q))
stop (row n k true ∷ A) s t ne q = q
stop (row n k false ∷ A) s t ne q = stop A s t ne q

-- behind an answer that is no refusal no row was given
pub first_none : (A : List Row) {x : Said} (s : Said) → (kind x ≡ 0 → ⊥) → x ≡ first A s → NoneGiven A
first_none [] s ne q = tt
first_none (row n k true ∷ A) s ne q = absurd (ne (ap kind q))
first_none (row n k false ∷ A) s ne q = (refl, first_none A s ne q)
