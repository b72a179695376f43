-- A promise allows one outcome: at most one, and at least one. `Post` is a function's own `Reads.Post`, which Rattle makes of the `ensures`
-- in the source; ps and r are the kinds of its parameters and of its result.
use Rattle.std.specs.Prelude.{ℕ, ◌≡◌, List}
use contract.Lifetimes.{Lfts}
use denote.Triple.Clauses.{Lasts, at_exit}
use denote.Triple.Walked.{Fit}
use borrow.Fn.Kinds.{ParamKind, ResultKind, Dens, In, Out, ended_of, stays, res_t}

-- at most one: any two outcomes that the contract allows, of the same arguments, are equal: what is seen of the answer, and what is left
-- behind every `&mut`
abbrev pub OneSeen : {n : ℕ} {A : Lfts n → Type 0} (ps : List (ParamKind n)) (r : ResultKind n) → ((κs : Lfts n) → (res_t r κs).Denot → A κs) → Out n ps r → Type 0
OneSeen {n} ps r see Post =
    (κs : Lfts n) (a : Dens κs ps) (x y : (res_t r κs).Denot) (s t : Lasts (ended_of n ps r) κs a)
    → Post κs a x (at_exit (ended_of n ps r) κs a s)
    → Post κs a y (at_exit (ended_of n ps r) κs a t)
    → (see κs x ≡ see κs y) × (s ≡ t)

-- the same of the whole answer
abbrev pub One : {n : ℕ} (ps : List (ParamKind n)) (r : ResultKind n) → Out n ps r → Type 0
One ps r Post = OneSeen ps r (λ κs x. x) Post

-- at least one: for all arguments that can be lent there are an answer that the code's type can hold and, behind every `&mut`, as many
-- values as were lent, and the contract allows them
abbrev pub AtLeastOne : {n : ℕ} (ps : List (ParamKind n)) (r : ResultKind n) → In n ps → Out n ps r → Type 0
AtLeastOne {n} ps r Lent Post =
    (κs : Lfts n) (a : Dens κs ps) → Lent κs a
    → (x : (res_t r κs).Denot) × (s : Lasts (ended_of n ps r) κs a)
    × (r.is.Ok κs x) × Fit (ended_of n ps r) (stays ps) κs a s × Post κs a x (at_exit (ended_of n ps r) κs a s)
