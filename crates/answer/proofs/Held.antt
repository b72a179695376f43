-- An answer that the code's type can hold: a refusal whose place has 32 bits, or what else was asked for. Assumes nothing.
use Prim.Native.Nat.{ℕ, ◌^◌, ◌<◌}
use mathlib.Core.Path.{◌≡◌, refl}
use mathlib.Core.List.{List, [], ◌∷◌}
use Rattle.std.specs.Prelude.{Result, Err}
use Rattle.std.specs.contracts.result.Result.{the_type}
use Rattle.std.proofs.result.Result.TheLaws.{the_laws}
use denote.RattleType.{RattleType}
use denote.Param.Laws.{Laws, Told}
use denote.Laws.{Is}
use denote.Enum.Declared.{row}
use denote.Enum.Laws.{val}
use Rattle.answer.specs.Said.{Said, refused, said_of}
use Rattle.answer.specs.Order.{Row, first, NoneGiven}
use Rattle.answer.specs.declared.Reason.{Reason}
use Rattle.answer.specs.declared.Reason.TheVariants.{Length, Check, Kind, Edition, Limits, Unused, Blocks, Number, Shape, Permitted, Period, Work, Late, NoPlan, Room, Beyond, Unfilled, Altered, NoneSuch}
use Rattle.answer.specs.declared.Refusal.{Refusal}
use Rattle.answer.specs.contracts.Refusal as refusal
use Rattle.answer.proofs.Refusal.TheLaws as refusal_laws
use Rattle.answer.proofs.Reasons.{reason_of}
use Rattle.answer.proofs.Each.{Each, Fits, some}

-- T is the type of what else was asked for
module _ (T : RattleType) (laws : Laws T) (told : Told T) where
  abbrev pub Held : Result T.Denot Refusal → Type 0
  Held x =
      Is (row (the_type T refusal.the_row)) x
      (val (the_type T refusal.the_row) (the_laws T refusal.the_row laws refusal_laws.the_row_laws told refusal_laws.the_told) x ∷ [])

  pub held_refusal : (r : Reason) (at : ℕ) → at < 2 ^ 32 → Held (Err (record { reason = r; at = at }))
  held_refusal Length at h = (_, (refl, (_, (refl, ((_, (refl, ((_, (refl, (tt, (refl, tt)))), ((refl, h), tt)))), tt)))))
  held_refusal Check at h = (_, (refl, (_, (refl, ((_, (refl, ((_, (refl, (tt, (refl, tt)))), ((refl, h), tt)))), tt)))))
  held_refusal Kind at h = (_, (refl, (_, (refl, ((_, (refl, ((_, (refl, (tt, (refl, tt)))), ((refl, h), tt)))), tt)))))
  held_refusal Edition at h = (_, (refl, (_, (refl, ((_, (refl, ((_, (refl, (tt, (refl, tt)))), ((refl, h), tt)))), tt)))))
  held_refusal Limits at h = (_, (refl, (_, (refl, ((_, (refl, ((_, (refl, (tt, (refl, tt)))), ((refl, h), tt)))), tt)))))
  held_refusal Unused at h = (_, (refl, (_, (refl, ((_, (refl, ((_, (refl, (tt, (refl, tt)))), ((refl, h), tt)))), tt)))))
  held_refusal Blocks at h = (_, (refl, (_, (refl, ((_, (refl, ((_, (refl, (tt, (refl, tt)))), ((refl, h), tt)))), tt)))))
  held_refusal Number at h = (_, (refl, (_, (refl, ((_, (refl, ((_, (refl, (tt, (refl, tt)))), ((refl, h), tt)))), tt)))))
  held_refusal Shape at h = (_, (refl, (_, (refl, ((_, (refl, ((_, (refl, (tt, (refl, tt)))), ((refl, h), tt)))), tt)))))
  held_refusal Permitted at h = (_, (refl, (_, (refl, ((_, (refl, ((_, (refl, (tt, (refl, tt)))), ((refl, h), tt)))), tt)))))
  held_refusal Period at h = (_, (refl, (_, (refl, ((_, (refl, ((_, (refl, (tt, (refl, tt)))), ((refl, h), tt)))), tt)))))
  held_refusal Work at h = (_, (refl, (_, (refl, ((_, (refl, ((_, (refl, (tt, (refl, tt)))), ((refl, h), tt)))), tt)))))
  held_refusal Late at h = (_, (refl, (_, (refl, ((_, (refl, ((_, (refl, (tt, (refl, tt)))), ((refl, h), tt)))), tt)))))
  held_refusal NoPlan at h = (_, (refl, (_, (refl, ((_, (refl, ((_, (refl, (tt, (refl, tt)))), ((refl, h), tt)))), tt)))))
  held_refusal Room at h = (_, (refl, (_, (refl, ((_, (refl, ((_, (refl, (tt, (refl, tt)))), ((refl, h), tt)))), tt)))))
  held_refusal Beyond at h = (_, (refl, (_, (refl, ((_, (refl, ((_, (refl, (tt, (refl, tt)))), ((refl, h), tt)))), tt)))))
  held_refusal Unfilled at h = (_, (refl, (_, (refl, ((_, (refl, ((_, (refl, (tt, (refl, tt)))), ((refl, h), tt)))), tt)))))
  held_refusal Altered at h = (_, (refl, (_, (refl, ((_, (refl, ((_, (refl, (tt, (refl, tt)))), ((refl, h), tt)))), tt)))))
  held_refusal NoneSuch at h = (_, (refl, (_, (refl, ((_, (refl, ((_, (refl, (tt, (refl, tt)))), ((refl, h), tt)))), tt)))))

  -- there is one for every number and place that fit
  pub some_refusal : (says : T.Denot → Said) (k at : ℕ) → Fits k at
      → (x : Result T.Denot Refusal) × Held x × (said_of says x ≡ refused k at)
  some_refusal says k at f =
      (Err (record { reason = reason_of k; at = at }), held_refusal (reason_of k) at f.1, rw f.0)

  -- and an answer for every call whose refusals do
  pub some_answer : (says : T.Denot → Said) (A : List Row) (rest : Said) → Each Fits A
      → (NoneGiven A → (x : Result T.Denot Refusal) × Held x × (said_of says x ≡ rest))
      → (x : Result T.Denot Refusal) × Held x × (said_of says x ≡ first A rest)
  some_answer says A rest each answers =
      let o = some Fits (said_of says) Held A rest [] [] each (some_refusal says) answers in (o.answer, o.held, o.allowed.says)
