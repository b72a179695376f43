-- A mode as its task's row is filled by it is chosen where the task's choice is. Assumes nothing.
use mathlib.Core.Path.{◌≡◌, refl, sym, ap, ap₂, ◌∙◌}
use mathlib.Core.Bool.{Bool, true, false, cond}
use mathlib.Core.List.{List, map}
use Prim.Native.Nat.{ℕ, zero, suc, ◌+◌, ◌<◌, min}
use native.Mathlib.Nat.{zero-add}
use native.Mathlib.Omega.{arith}
use borrow.Author.Tests.{lt-leb}
use lib.ListN.{length, get_or, get_or-map}
use Rattle.std.proofs.lemmas.List.{length-map}
use Rattle.answer.proofs.Bools.{clash}
use Rattle.model.specs.Turns.{each_from}
use Rattle.model.specs.Plan.{Choice, Task}
use Rattle.model.specs.Cells.{mark, may, offered, least}
use Rattle.model.specs.Taking.{first_of, keeps, lowest}
use Rattle.model.proofs.Turns.{each_length, each_at}
use Rattle.cells.specs.declared.mode.Mode.{Mode}
use Rattle.cells.specs.inner.Rows.{held}
use Rattle.block.specs.Tests.{allows}
use Rattle.table.specs.Numbers.{TaskNumbers}
use Rattle.choices.specs.Tasks.{cores_at, choice_of, task_of}
use Rattle.choices.specs.inner.Modes.{need_at, mode_of, modes_of, AllMeet}
use Rattle.choices.proofs.Meeting.{meets_at}

-- the mode meets its period
abbrev pub Meets : TaskNumbers → ℕ → Type 0
Meets t j = meets_at t j ≡ true

module _ (H : ℕ) (t : TaskNumbers) (j : ℕ) (meeting : Meets t j) (next : ℕ → ℕ) (c : ℕ) (low : c < mark) where
  abbrev as_held : Choice
  as_held = mode_of H t j

  -- by its bit: permitted, it is the choice itself; not permitted, neither is chosen
  by_bit : {A : Type 0} (f : Choice → A) → ((o : Choice) → may o c ≡ false → (x : Choice) → may x c ≡ false → f o ≡ f x)
      → (b : Bool) → allows t.permitted j ≡ b → f as_held ≡ f (choice_of H t j)
  unfolding may
  by_bit f same true e = rw (e, meeting)
  by_bit f same false e = same as_held (rw e (lt-leb mark c low)) (choice_of H t j) (rw e)

  held_offered : offered as_held next c ≡ offered (choice_of H t j) next c
  held_offered = by_bit (λ o. offered o next c) (λ o e x g. rw (e, g)) (allows t.permitted j) refl

  pub held_keeps : (v : ℕ) → keeps next c v as_held ≡ keeps next c v (choice_of H t j)
  unfolding keeps
  held_keeps v = by_bit (keeps next c v) (λ o e x g. rw (e, g)) (allows t.permitted j) refl

  -- where it is kept, the need held is the mode's cores
  pub held_need : (v : ℕ) → keeps next c v as_held ≡ true → need_at t j ≡ (choice_of H t j).need
  unfolding keeps may
  held_need v k = go (allows t.permitted j) refl
    where
      go : (b : Bool) → allows t.permitted j ≡ b → need_at t j ≡ cores_at t j
      go true e = rw (e, meeting)
      go false e = clash (sym k ∙ rw (e, lt-leb mark c low))

-- the least over these modes is the least over the task
least_each : (H : ℕ) (t : TaskNumbers) (next : ℕ → ℕ) (c : ℕ) → c < mark → (j left : ℕ) → ((k : ℕ) → k < j + left → Meets t k)
    → least (each_from (mode_of H t) j left) next c ≡ least (each_from (choice_of H t) j left) next c
unfolding least each_from
least_each H t next c low j zero m = refl
least_each H t next c low j (suc left) m =
    ap₂ min (held_offered H t j (m j (omega arith)) next c low) (least_each H t next c low (j + 1) left (λ k h. m k (omega arith)))

pub held_least : (H : ℕ) (t : TaskNumbers) (next : ℕ → ℕ) (c : ℕ) → c < mark → AllMeet t
    → least (modes_of H t) next c ≡ least (task_of H t) next c
unfolding task_of
held_least H t next c low m = least_each H t next c low 0 t.modes (λ k h. m k (omega arith))

-- and the lowest of them that keeps a cell's cost is the task's
first_each : (H : ℕ) (t : TaskNumbers) (next : ℕ → ℕ) (c v : ℕ) → c < mark → (j left : ℕ) → ((k : ℕ) → k < j + left → Meets t k)
    → lowest (each_from (mode_of H t) j left) next c v ≡ lowest (each_from (choice_of H t) j left) next c v
unfolding first_of each_from
first_each H t next c v low j zero m = refl
first_each H t next c v low j (suc left) m =
    ap₂ (λ (b : Bool) (n : ℕ). cond b 0 (suc n)) (held_keeps H t j (m j (omega arith)) next c low v)
    (first_each H t next c v low (j + 1) left (λ k h. m k (omega arith)))

pub held_lowest : (H : ℕ) (t : TaskNumbers) (next : ℕ → ℕ) (c v : ℕ) → c < mark → AllMeet t
    → lowest (modes_of H t) next c v ≡ lowest (task_of H t) next c v
unfolding task_of
held_lowest H t next c v low m = first_each H t next c v low 0 t.modes (λ k h. m k (omega arith))

-- what is loaded, by its length and by its places
module _ (H : ℕ) (t : TaskNumbers) (modes : List Mode) (loaded : map held modes ≡ modes_of H t) where
  pub loaded_many : length modes ≡ t.modes
  loaded_many = sym (length-map modes held) ∙ ap length loaded ∙ each_length (mode_of H t) 0 t.modes

  pub loaded_at : (j : ℕ) → j < t.modes → (d : Mode) → held (get_or modes j d) ≡ mode_of H t j
  loaded_at j h d =
      sym (get_or-map held modes j d)
      ∙ ap (λ (os : Task). get_or os j (held d)) loaded
      ∙ each_at (mode_of H t) (held d) 0 t.modes j h
      ∙ ap (mode_of H t) (zero-add j)
