-- The listing gives the plan, and gives none exactly where no selection fits. Assumes nothing.
use mathlib.Core.Path.{◌≡◌, refl, ap, sym, subst}
use mathlib.Core.Logic.{◌⊎◌, inl, inr, ◌↔◌}
use mathlib.Core.Bool.{Bool, true, false, cond, ◌&&◌, ◌||◌}
use mathlib.Core.List.{List, [], ◌∷◌, ◌++◌, map}
use Prim.Native.Nat.{ℕ, zero, suc, ◌+◌, ◌<◌}
use native.Mathlib.Nat.{not-suc-le-zero, le_of_suc-le-suc, zero-add}
use native.Mathlib.Omega.{arith}
use lib.Dec.{T, leb, ltb, eqb}
use lib.ListN.{length}
use lib.Arith.{lt_of_le-ne}
use borrow.Author.Tests.{leb-true, leb-false, ltb-true, ltb-false, eqb-true, eqb-false}
use Rattle.answer.proofs.Bools.{clash}
use Rattle.model.specs.Plan.{Task, choice, IsSelection, Fits, NothingFits, Then, Lower, AsGood, IsPlan, total_cores, total_cost}
use Rattle.model.specs.inner.Listing.{numbers, each, selections, then, lower, as_good, Listed, none, some, better, best_of, plan_of}
use Rattle.model.proofs.Order.{one_plan, as_good_trans}

-- ---- the tests say what the order says
then_yes : {A : Type 0} (x y : ℕ) (c : Bool) → (c ≡ true → A) → then x y c ≡ true → Then x y A
unfolding then
then_yes {A} x y c f e = go (ltb x y) (eqb x y) refl refl e
  where
    go : (a b : Bool) → ltb x y ≡ a → eqb x y ≡ b → a || (b && c) ≡ true → Then x y A
    go true b p q e = inl (ltb-true x y p)
    go false true p q e = inr (eqb-true x y q, f e)
    go false false p q e = clash (sym e)

then_no : {A : Type 0} (x y : ℕ) (c : Bool) → (c ≡ false → A) → then x y c ≡ false → Then y x A
unfolding then
then_no {A} x y c f e = go (ltb x y) (eqb x y) refl refl e
  where
    go : (a b : Bool) → ltb x y ≡ a → eqb x y ≡ b → a || (b && c) ≡ false → Then y x A
    go true b p q e = clash e
    go false true p q e = inr (sym (eqb-true x y q), f e)
    go false false p q e = let l = ltb-false x y p in inl (lt_of_le-ne l (λ r. eqb-false x y q (sym r)))

lower_yes : (s s' : List ℕ) → lower s s' ≡ true → Lower s s'
unfolding lower
lower_yes [] s' e = tt
lower_yes (j ∷ s) [] e = clash (sym e)
lower_yes (j ∷ s) (k ∷ s') e = then_yes j k (lower s s') (lower_yes s s') e

lower_no : (s s' : List ℕ) → lower s s' ≡ false → Lower s' s
unfolding lower
lower_no [] s' e = clash e
lower_no (j ∷ s) [] e = tt
lower_no (j ∷ s) (k ∷ s') e = then_no j k (lower s s') (lower_no s s') e

as_good_yes : (ts : List Task) (s s' : List ℕ) → as_good ts s s' ≡ true → AsGood ts s s'
unfolding as_good
as_good_yes ts s s' e = then_yes (total_cost ts s) (total_cost ts s') _ (then_yes (total_cores ts s) (total_cores ts s') (lower s s') (lower_yes s s')) e

as_good_no : (ts : List Task) (s s' : List ℕ) → as_good ts s s' ≡ false → AsGood ts s' s
unfolding as_good
as_good_no ts s s' e = then_no (total_cost ts s) (total_cost ts s') _ (then_no (total_cores ts s) (total_cores ts s') (lower s s') (lower_no s s')) e

lower_refl : (s : List ℕ) → Lower s s
lower_refl [] = tt
lower_refl (j ∷ s) = inr (refl, lower_refl s)

-- ---- the listing has each selection, and no other
abbrev In : {A : Type 0} → A → List A → Type 0
In a [] = ⊥
In a (b ∷ l) = (a ≡ b) ⊎ In a l

in_front : {A : Type 0} (a : A) (l r : List A) → In a l → In a (l ++ r)
in_front {A = A} a [] r x = elim x [ ]
in_front a (b ∷ l) r (inl e) = inl e
in_front a (b ∷ l) r (inr h) = inr (in_front a l r h)

in_back : {A : Type 0} (a : A) (l r : List A) → In a r → In a (l ++ r)
in_back a [] r h = h
in_back a (b ∷ l) r h = inr (in_back a l r h)

in_append : {A : Type 0} (a : A) (l r : List A) → In a (l ++ r) → In a l ⊎ In a r
in_append a [] r h = inr h
in_append a (b ∷ l) r (inl e) = inl (inl e)
in_append a (b ∷ l) r (inr h) = go (in_append a l r h)
  where
    go : In a l ⊎ In a r → In a (b ∷ l) ⊎ In a r
    go (inl x) = inl (inr x)
    go (inr x) = inr x

in_map : (j : ℕ) (s : List ℕ) (ss : List (List ℕ)) → In s ss → In (j ∷ s) (map (λ (r : List ℕ). j ∷ r) ss)
in_map j s [] x = elim x [ ]
in_map j s (r ∷ ss) (inl e) = inl (ap (λ (x : List ℕ). j ∷ x) e)
in_map j s (r ∷ ss) (inr h) = inr (in_map j s ss h)

in_each : (j : ℕ) (s : List ℕ) (js : List ℕ) (ss : List (List ℕ)) → In j js → In s ss → In (j ∷ s) (each js ss)
unfolding each
in_each j s [] ss x h = elim x [ ]
in_each j s (k ∷ js) ss (inl e) h = in_front (j ∷ s) (map (λ (r : List ℕ). k ∷ r) ss) (each js ss) (rw e (in_map k s ss h))
in_each j s (k ∷ js) ss (inr g) h = in_back (j ∷ s) (map (λ (r : List ℕ). k ∷ r) ss) (each js ss) (in_each j s js ss g h)

-- what stands in `each` is a head of js and a tail of ss
record Split (s : List ℕ) (js : List ℕ) (ss : List (List ℕ)) : Type 0 where
  head : ℕ
  tail : List ℕ
  is : s ≡ head ∷ tail
  head_in : In head js
  tail_in : In tail ss

map_split : (k : ℕ) (s js : List ℕ) (ss : List (List ℕ)) → In s (map (λ (r : List ℕ). k ∷ r) ss) → Split s (k ∷ js) ss
map_split k s js [] x = elim x [ ]
map_split k s js (r ∷ ss) (inl e) = record { head = k; tail = r; is = e; head_in = inl refl; tail_in = inl refl }
map_split k s js (r ∷ ss) (inr h) =
    let x = map_split k s js ss h in
    record { head = x.head; tail = x.tail; is = x.is; head_in = x.head_in; tail_in = inr x.tail_in }

each_split : (s js : List ℕ) (ss : List (List ℕ)) → In s (each js ss) → Split s js ss
unfolding each
each_split s [] ss h = absurd h
each_split s (k ∷ js) ss h = go (in_append s (map (λ (r : List ℕ). k ∷ r) ss) (each js ss) h) (each_split s js ss)
  where
    go : In s (map (λ (r : List ℕ). k ∷ r) ss) ⊎ In s (each js ss) → (In s (each js ss) → Split s js ss) → Split s (k ∷ js) ss
    go (inl a) f = map_split k s js ss a
    go (inr b) f =
        let x = f b in
        record { head = x.head; tail = x.tail; is = x.is; head_in = inr x.head_in; tail_in = x.tail_in }

-- the numbers are those of the permitted modes
in_numbers : (i : ℕ) (t : Task) (k : ℕ) → k < length t → T (choice t k).permitted → In (i + k) (numbers i t)
unfolding numbers
in_numbers i [] k h p = absurd (not-suc-le-zero h)
in_numbers i (o ∷ os) zero h p = go o.permitted p
  where
    go : (b : Bool) → T b → In (i + 0) (cond b (i ∷ numbers (suc i) os) (numbers (suc i) os))
    go true q = inl (omega arith)
    go false q = absurd q
in_numbers i (o ∷ os) (suc k) h p = go o.permitted (in_numbers (suc i) os k (le_of_suc-le-suc h) p)
  where
    go : (b : Bool) → In (suc i + k) (numbers (suc i) os) → In (i + suc k) (cond b (i ∷ numbers (suc i) os) (numbers (suc i) os))
    go true q = let e : i + suc k ≡ suc i + k = omega arith in inr (subst (λ (x : ℕ). In x (numbers (suc i) os)) (sym e) q)
    go false q = let e : i + suc k ≡ suc i + k = omega arith in subst (λ (x : ℕ). In x (numbers (suc i) os)) (sym e) q

record Numbered (i : ℕ) (t : Task) (j : ℕ) : Type 0 where
  at : ℕ
  is : j ≡ i + at
  there : at < length t
  allowed : T (choice t at).permitted

numbers_in_lem : (i : ℕ) (t : Task) (j : ℕ) → In j (numbers i t) → Numbered i t j
unfolding numbers
numbers_in_lem i [] j h = absurd h
numbers_in_lem i (o ∷ os) j h = go o.permitted refl h (numbers_in_lem (suc i) os j)
  where
    later : Numbered (suc i) os j → Numbered i (o ∷ os) j
    later x = record { at = suc x.at; is = omega (arith, x.is); there = omega (arith, x.there); allowed = x.allowed }

    go : (b : Bool) → o.permitted ≡ b → In j (cond b (i ∷ numbers (suc i) os) (numbers (suc i) os))
        → (In j (numbers (suc i) os) → Numbered (suc i) os j) → Numbered i (o ∷ os) j
    go true e (inl q) f = record { at = 0; is = omega arith; there = omega arith; allowed = rw e tt }
    go true e (inr q) f = later (f q)
    go false e q f = later (f q)

listed : (ts : List Task) (s : List ℕ) → IsSelection ts s → In s (selections ts)
unfolding selections
listed [] [] l = inl refl
listed [] (j ∷ s) l = absurd l
listed (t ∷ ts) [] l = absurd l
listed (t ∷ ts) (j ∷ s) l = in_each j s (numbers 0 t) (selections ts) (rw zero-add at (in_numbers 0 t j l.0 l.1)) (listed ts s l.2)

selection_listed : (ts : List Task) (s : List ℕ) → In s (selections ts) → IsSelection ts s
unfolding selections
selection_listed [] s (inl e) = rw e tt
selection_listed [] s (inr x) = elim x [ ]
selection_listed (t ∷ ts) s h =
    let x = each_split s (numbers 0 t) (selections ts) h in
    let n = numbers_in_lem 0 t x.head x.head_in in
    let e : x.head ≡ n.at = omega (arith, n.is) in
    rw (x.is, e) (n.there, n.allowed, selection_listed ts x.tail x.tail_in)

-- ---- the best of a list
abbrev Right : List Task → ℕ → List (List ℕ) → Listed → Type 0
Right ts m ss none = (r : List ℕ) → In r ss → Fits ts m r → ⊥
Right ts m ss (some s) = In s ss × Fits ts m s × ((r : List ℕ) → In r ss → Fits ts m r → AsGood ts s r)

same_good : (ts : List Task) (s r : List ℕ) → r ≡ s → AsGood ts s r
same_good ts s r e = rw e (inr (refl, inr (refl, lower_refl s)))

better_right : (ts : List Task) (m : ℕ) (s : List ℕ) (ss : List (List ℕ)) (o : Listed) → Fits ts m s → Right ts m ss o
    → Right ts m (s ∷ ss) (better ts s o)
unfolding better
better_right ts m s ss none f h = (inl refl, f, good)
  where
    good : (r : List ℕ) → In r (s ∷ ss) → Fits ts m r → AsGood ts s r
    good r (inl e) k = same_good ts s r e
    good r (inr i) k = absurd (h r i k)
better_right ts m s ss (some t) f h = go (as_good ts s t) refl
  where
    good : AsGood ts s t → (r : List ℕ) → In r (s ∷ ss) → Fits ts m r → AsGood ts s r
    good a r (inl e) k = same_good ts s r e
    good a r (inr i) k = as_good_trans ts s t r a (h.2 r i k)

    keep : AsGood ts t s → (r : List ℕ) → In r (s ∷ ss) → Fits ts m r → AsGood ts t r
    keep a r (inl e) k = rw e a
    keep a r (inr i) k = h.2 r i k

    go : (b : Bool) → as_good ts s t ≡ b → Right ts m (s ∷ ss) (cond b (some s) (some t))
    go true e = (inl refl, f, good (as_good_yes ts s t e))
    go false e = (inr h.0, h.1, keep (as_good_no ts s t e))

skip_right : (ts : List Task) (m : ℕ) (s : List ℕ) (ss : List (List ℕ)) (o : Listed) → m < total_cores ts s → Right ts m ss o → Right ts m (s ∷ ss) o
skip_right ts m s ss none n h = go
  where
    go : (r : List ℕ) → In r (s ∷ ss) → Fits ts m r → ⊥
    go r (inl e) k = omega (arith, ap (total_cores ts) e)
    go r (inr i) k = h r i k
skip_right ts m s ss (some t) n h = (inr h.0, h.1, go)
  where
    go : (r : List ℕ) → In r (s ∷ ss) → Fits ts m r → AsGood ts t r
    go r (inl e) k = absurd (omega (arith, ap (total_cores ts) e))
    go r (inr i) k = h.2 r i k

best_of_right : (ts : List Task) (m : ℕ) (ss : List (List ℕ)) → Right ts m ss (best_of ts m ss)
unfolding best_of
best_of_right ts m [] = λ r h k. h
best_of_right ts m (s ∷ ss) = go (leb (total_cores ts s) m) refl (best_of_right ts m ss)
  where
    go : (b : Bool) → leb (total_cores ts s) m ≡ b → Right ts m ss (best_of ts m ss)
        → Right ts m (s ∷ ss) (cond b (better ts s (best_of ts m ss)) (best_of ts m ss))
    go true e h = better_right ts m s ss (best_of ts m ss) (leb-true (total_cores ts s) m e) h
    go false e h = skip_right ts m s ss (best_of ts m ss) (leb-false (total_cores ts s) m e) h

-- ---- the listing is the plan
-- what the listing has to find
abbrev Answers : List Task → ℕ → Listed → Type 0
Answers ts m none = NothingFits ts m
Answers ts m (some s) = IsPlan ts m s

answers : (ts : List Task) (m : ℕ) (o : Listed) → Right ts m (selections ts) o → Answers ts m o
answers ts m none h = λ s l f. h s (listed ts s l) f
answers ts m (some s) h = record { selection = selection_listed ts s h.0; fits = h.1; best = λ r l f. h.2 r (listed ts r l) f }

plan_of_answers : (ts : List Task) (m : ℕ) → Answers ts m (plan_of ts m)
plan_of_answers ts m = answers ts m (plan_of ts m) (best_of_right ts m (selections ts))

-- it agrees with the definition, both ways
pub plan_of_some : (ts : List Task) (m : ℕ) (s : List ℕ) → (plan_of ts m ≡ some s) ↔ IsPlan ts m s
plan_of_some ts m s = (λ e. rw e at (plan_of_answers ts m), λ p. go (plan_of ts m) (plan_of_answers ts m) p)
  where
    go : (o : Listed) → Answers ts m o → IsPlan ts m s → o ≡ some s
    go none h p = absurd (h s p.selection p.fits)
    go (some r) h p = ap some (one_plan ts m r s h p)

pub plan_of_none : (ts : List Task) (m : ℕ) → (plan_of ts m ≡ none) ↔ NothingFits ts m
plan_of_none ts m = (λ e. rw e at (plan_of_answers ts m), λ n. go (plan_of ts m) (plan_of_answers ts m) n)
  where
    go : (o : Listed) → Answers ts m o → NothingFits ts m → o ≡ none
    go none h n = refl
    go (some r) h n = absurd (n r h.selection h.fits)
