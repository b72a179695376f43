-- What an answer says, in the document's numbers and values.
use Rattle.std.specs.Prelude.{ℕ, Bool, Result, Ok, Err}
use Rattle.answer.specs.declared.Reason.{Reason}
use Rattle.answer.specs.declared.Reason.TheVariants.{Length, Check, Kind, Edition, Limits, Unused, Blocks, Number, Shape, Permitted, Period, Work, Late, NoPlan, Room, Beyond, Unfilled, Altered, NoneSuch}
use Rattle.answer.specs.declared.Refusal.{Refusal}

pub data Said : Type 0 where
  -- a refusal's number and the place that it names
  refused : ℕ → ℕ → Said
  -- n, m and H
  header : ℕ → ℕ → ℕ → Said
  -- E, mode count and permitted modes
  task : ℕ → ℕ → ℕ → Said
  -- work, span and period
  figures : ℕ → ℕ → ℕ → Said
  -- whether a mode is permitted, its cores and its cost
  choice : Bool → ℕ → ℕ → Said
  -- the cores of one mode
  needs : ℕ → Said
  -- the new progress
  filled : ℕ → Said
  -- cores used and cost
  plan : ℕ → ℕ → Said
  -- a block is written
  written : Said

-- ---- a refusal's number
abbrev pub number_of : Reason → ℕ
number_of Length = 1
number_of Check = 2
number_of Kind = 3
number_of Edition = 4
number_of Limits = 5
number_of Unused = 6
number_of Blocks = 7
number_of Number = 8
number_of Shape = 9
number_of Permitted = 10
number_of Period = 11
number_of Work = 12
number_of Late = 13
number_of NoPlan = 14
number_of Room = 15
number_of Beyond = 16
number_of Unfilled = 17
number_of Altered = 18
number_of NoneSuch = 19

-- ---- an answer is a refusal or what was asked for
abbrev pub said_of : {A : Type 0} → (A → Said) → Result A Refusal → Said
said_of says (Ok x) = says x
said_of says (Err r) = refused (number_of r.reason) r.at
