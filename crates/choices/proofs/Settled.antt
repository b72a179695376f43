-- Each public promise settles its outcome: at most one is allowed, and of asking at least one. Assumes nothing.
use Prim.Native.Nat.{ℕ, ◌^◌, ◌<◌}
use native.Mathlib.Omega.{arith}
use mathlib.Core.Path.{◌≡◌, ◌∙◌, sym, ap, refl}
use mathlib.Core.List.{List}
use Rattle.answer.specs.One.{One, AtLeastOne}
use Rattle.std.specs.Prelude.{Result, Ok}
use mathlib.Core.Bool.{Bool, true, false, cond}
use lib.Dec.{eqb}
use Rattle.answer.specs.Said.{Said, choice, said_of}
use Rattle.answer.specs.declared.Refusal.{Refusal}
use Rattle.answer.proofs.Rows.{numbers}
use Rattle.answer.proofs.Settled.{said_one}
use Rattle.answer.proofs.Held.{Held, some_answer}
use Rattle.answer.proofs.Each.{Fits}
use Rattle.arrayvec.specs.ArrayVec.{ArrayVec}
use Rattle.cells.specs.declared.mode.Mode.{Mode}
use Rattle.cells.proofs.Modes.{by_choices}
use Rattle.block.specs.Bytes.{Bytes}
use Rattle.table.specs.Order.{ask_mode_rows}
use Rattle.table.specs.Numbers.{numbers_in}
use Rattle.table.proofs.Refusals.{front_fits, task_fits, each_ask_mode}
use Rattle.choices.specs.declared.Choice.{Choice}
use Rattle.choices.specs.contracts.Choice as choices
use Rattle.choices.proofs.Choice.TheLaws as choice_laws
use Rattle.choices.specs.Tasks.{choice_of}
use Rattle.choices.specs.Said.{the_choice, ask_choice_said}
use Rattle.choices.proofs.Asked.{asked, cores_fit, cost_fit}
use Rattle.choices.proofs.need_of.Kinds as need_of_kinds
use Rattle.choices.proofs.need_of.Reads as need_of_reads
use Rattle.choices.proofs.least_need.Kinds as least_need_kinds
use Rattle.choices.proofs.least_need.Reads as least_need_reads
use Rattle.choices.proofs.load_modes.Kinds as load_modes_kinds
use Rattle.choices.proofs.load_modes.Reads as load_modes_reads
use Rattle.choices.proofs.ask_choice.Kinds as ask_choice_kinds
use Rattle.choices.proofs.ask_choice.Reads as ask_choice_reads
use Rattle.choices.proofs.ChoicePartialEq.eq.Kinds as choice_eq_kinds
use Rattle.choices.proofs.ChoicePartialEq.eq.Reads as choice_eq_reads

pub need_of_one : One need_of_kinds.ps need_of_kinds.r need_of_reads.Post
need_of_one κs a x y s t p q = (p ∙ sym q, refl)

pub least_need_one : One least_need_kinds.ps least_need_kinds.r least_need_reads.Post
least_need_one κs a x y s t p q = (p 0 ∙ sym (q 0), refl)

-- a list as it is held
abbrev holding : List Mode → ArrayVec Mode
holding l = record { items = l }

pub load_modes_one : One load_modes_kinds.ps load_modes_kinds.r load_modes_reads.Post
load_modes_one κs a x y s t p q =
    (refl, ap (λ (l : List Mode). (tt, (tt, (holding l, tt)))) (by_choices (s.1.1.0).items (t.1.1.0).items (p ∙ sym q)))

-- what is said of a choice is the whole of it
bit_back : (b : Bool) → eqb (cond b 1 0) 1 ≡ b
bit_back true = refl
bit_back false = refl

choice_same : (x y : Choice) → the_choice x ≡ the_choice y → x ≡ y
choice_same x y e =
    ap (λ b. record { permitted = b; cores = x.cores; cost = x.cost }) (sym (bit_back x.permitted))
    ∙ ap (λ s. record { permitted = eqb (numbers s).0 1; cores = (numbers s).1; cost = (numbers s).2 }) e
    ∙ ap (λ b. record { permitted = b; cores = y.cores; cost = y.cost }) (bit_back y.permitted)

pub one_answer : {s : Said} (x y : Result Choice Refusal) → said_of the_choice x ≡ s → said_of the_choice y ≡ s → x ≡ y
one_answer x y p q = said_one the_choice choice_same (λ o z. omega (arith, z)) x y (p ∙ sym q)

pub ask_choice_one : One ask_choice_kinds.ps ask_choice_kinds.r ask_choice_reads.Post
ask_choice_one κs a x y s t p q = (one_answer x y p q, refl)

-- ---- at least one
abbrev pub HeldChoice : Result Choice Refusal → Type 0
HeldChoice = Held choices.the_row choice_laws.the_row_laws choice_laws.the_told

pub some_choice : (p : Bool) (k v : ℕ) → k < 2 ^ 32 → v < 2 ^ 64 → (x : Result Choice Refusal) × HeldChoice x × (said_of the_choice x ≡ choice p k v)
some_choice p k v h g =
    (Ok (record { permitted = p; cores = k; cost = v }), (_, (refl, (_, (refl, ((_, (refl, (refl, ((refl, h), ((refl, g), tt))))), tt))))), refl)

some_asked : (bytes : List ℕ) → Bytes bytes → (i j : ℕ)
    → (x : Result Choice Refusal) × HeldChoice x × (said_of the_choice x ≡ ask_choice_said bytes i j)
some_asked bytes b i j =
    let c = choice_of (numbers_in bytes).common ((numbers_in bytes).task i) j in
    some_answer choices.the_row choice_laws.the_row_laws choice_laws.the_told the_choice (ask_mode_rows bytes i j) (choice c.permitted c.need c.cost)
    (each_ask_mode Fits bytes (front_fits bytes b) (task_fits bytes b) (refl, omega arith) i j)
    (λ none.
    let a = asked bytes i j b none in some_choice c.permitted c.need c.cost (cores_fit a) (cost_fit a))

pub ask_choice_some : AtLeastOne ask_choice_kinds.ps ask_choice_kinds.r (λ κs a. Bytes a.0.now) ask_choice_reads.Post
ask_choice_some κs a b =
    let (r, held, said_is) = some_asked a.0.now b a.1.0 a.1.1.0 in (r, (tt, (tt, (tt, tt))), held, (tt, (tt, (tt, tt))), said_is)

pub choice_eq_one : One choice_eq_kinds.ps choice_eq_kinds.r choice_eq_reads.Post
choice_eq_one κs a x y s t p q = (p ∙ sym q, refl)
