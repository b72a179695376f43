-- A reason and its number stand for each other. Assumes nothing.
use native.Mathlib.Omega.{arith}
use Rattle.std.specs.Prelude.{ℕ, ◌^◌, ◌<◌, ◌≡◌, refl, List, [], ◌∷◌, get_or}
use Rattle.answer.specs.Said.{number_of}
use Rattle.answer.specs.declared.Reason.{Reason}
use Rattle.answer.specs.declared.Reason.TheVariants.{Length, Check, Kind, Edition, Limits, Unused, Blocks, Number, Shape, Permitted, Period, Work, Late, NoPlan, Room, Beyond, Unfilled, Altered, NoneSuch}

-- the reasons by their numbers; there is none with number 0
abbrev pub reasons : List Reason
reasons =
    NoneSuch ∷ Length ∷ Check ∷ Kind ∷ Edition ∷ Limits ∷ Unused ∷ Blocks ∷ Number ∷ Shape
    ∷ Permitted ∷ Period ∷ Work ∷ Late ∷ NoPlan ∷ Room ∷ Beyond ∷ Unfilled ∷ Altered ∷ NoneSuch ∷ []

abbrev pub reason_of : ℕ → Reason
reason_of n = get_or reasons n NoneSuch

pub reason_back : (r : Reason) → reason_of (number_of r) ≡ r
reason_back Length = refl
reason_back Check = refl
reason_back Kind = refl
reason_back Edition = refl
reason_back Limits = refl
reason_back Unused = refl
reason_back Blocks = refl
reason_back Number = refl
reason_back Shape = refl
reason_back Permitted = refl
reason_back Period = refl
reason_back Work = refl
reason_back Late = refl
reason_back NoPlan = refl
reason_back Room = refl
reason_back Beyond = refl
reason_back Unfilled = refl
reason_back Altered = refl
reason_back NoneSuch = refl

-- it has 8 bits
pub number_small : (r : Reason) → number_of r < 2 ^ 8
number_small Length = omega arith
number_small Check = omega arith
number_small Kind = omega arith
number_small Edition = omega arith
number_small Limits = omega arith
number_small Unused = omega arith
number_small Blocks = omega arith
number_small Number = omega arith
number_small Shape = omega arith
number_small Permitted = omega arith
number_small Period = omega arith
number_small Work = omega arith
number_small Late = omega arith
number_small NoPlan = omega arith
number_small Room = omega arith
number_small Beyond = omega arith
number_small Unfilled = omega arith
number_small Altered = omega arith
number_small NoneSuch = omega arith
