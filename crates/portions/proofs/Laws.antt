-- Portions after each other. Assumes nothing.
use mathlib.Core.Path.{◌≡◌, refl, sym, ap, ap₂, subst, ◌∙◌}
use mathlib.Core.Logic.{◌↔◌}
use mathlib.Core.List.{List, [], ◌∷◌}
use Prim.Native.Nat.{ℕ, zero, suc, ◌+◌, ◌-◌, ◌*◌, ◌^◌, ◌≤◌, ◌<◌, min}
use native.Mathlib.Nat.{div-lt_iff_lt-mul, add-mul, one-mul, suc-mul}
use native.Mathlib.Omega.{arith}
use lib.ListN.{length, replicate}
use Rattle.answer.specs.Said.{filled}
use Rattle.answer.specs.Order.{NoneGiven}
use Rattle.model.specs.Rules.{rounded_up}
use Rattle.model.specs.Workspace.{fill, advance, portion}
use Rattle.model.specs.inner.Portions.{progress_after, portions}
use Rattle.model.proofs.Fills.{fill_length, fill_chain}
use Rattle.table.specs.Order.{table_rows}
use Rattle.table.proofs.Accepted.{lawful, answered_none}
use Rattle.choices.specs.Tasks.{cells_of_table}
use Rattle.choices.proofs.Tables.{cells_most}
use Rattle.std.specs.Prelude.{Ok}
use Rattle.portions.specs.Portion.{rule_of}
use Rattle.portions.specs.Runs.{Step, Run, AllInType, spent, RunTo, ThereIsARun, TwoAreOne, ReachedInTime}
use Rattle.portions.proofs.Ends.{Went, went, done, portioned}

-- ---- a step, both ways
pub step_went : {bytes before after : List ℕ} {p b q : ℕ} → Step bytes before p b after q → Went bytes before p b q after
step_went {bytes} {before} {after} {p} {b} {q} s = went bytes before p b q s.gave s.allowed.outcome

abbrev went_step : {bytes before after : List ℕ} {p b q : ℕ} → Went bytes before p b q after → Step bytes before p b after q
went_step {bytes} {before} {after} {p} {b} {q} w =
    record {
      answer = Ok q;
      allowed = portioned bytes before p b (Ok q) after (done bytes before p b w.none w.room w.within (ap filled w.progress) w.cells);
      gave = refl;
    }

pub two_are_one : TwoAreOne
two_are_one bytes before mid after p b c q q' s t =
    let v = step_went s in
    let w = step_went t in
    let P = v.progress in
    let Q = w.progress in
    let I = v.within in
    let sum : q' ≡ advance (cells_of_table bytes) p (b + c) = omega arith in
    let first : mid ≡ fill (rule_of bytes) before p (q - p) = v.cells ∙ ap (λ (x : ℕ). fill (rule_of bytes) before p (x - p)) (sym P) in
    let second : after ≡ fill (rule_of bytes) mid q (q' - q) = w.cells ∙ ap (λ (x : ℕ). fill (rule_of bytes) mid q (x - q)) (sym Q) in
    went_step
    record {
      none = v.none;
      room = v.room;
      within = v.within;
      progress = sum;
      cells = fill_chain (rule_of bytes) before mid after p q q' (omega arith) (omega arith) first second
          ∙ ap (λ (x : ℕ). fill (rule_of bytes) before p (x - p)) sum;
    }

-- ---- a run
-- it is the model's portions
pub run_is : (bytes : List ℕ) (bs : List ℕ) (before after : List ℕ) (p q : ℕ) → Run bytes bs before p after q
    → (after ≡ portions (rule_of bytes) (cells_of_table bytes) before p bs) × (q ≡ progress_after (cells_of_table bytes) p bs)
unfolding portions progress_after
run_is bytes [] before after p q (same, is) = (sym same, sym is)
run_is bytes (b ∷ bs) before after p q (mid, between, s, run) =
    let w = step_went s in
    let r = run_is bytes bs mid after between q run in
    let P = w.progress in (
      r.0 ∙ ap₂ (λ (x : List ℕ) (y : ℕ). portions (rule_of bytes) (cells_of_table bytes) x y bs) w.cells P,
      r.1 ∙ ap (λ (y : ℕ). progress_after (cells_of_table bytes) y bs) P,
    )

-- and of a lawful table with room there is one, whatever the budgets
module _ (bytes : List ℕ) (none : NoneGiven (table_rows bytes)) (small : cells_of_table bytes < 2 ^ 32) where
  record ThereIs (budgets before : List ℕ) (p : ℕ) : Type 0 where
    after : List ℕ
    run : Run bytes budgets before p after (progress_after (cells_of_table bytes) p budgets)
    in_type : AllInType bytes budgets before p after (progress_after (cells_of_table bytes) p budgets) run

  run_there : (bs before : List ℕ) (p : ℕ) → cells_of_table bytes ≤ length before → p ≤ cells_of_table bytes → ThereIs bs before p
  unfolding progress_after
  run_there [] before p room within = record { after = before; run = (refl, refl); in_type = tt }
  run_there (b ∷ bs) before p room within =
      let W : ℕ = cells_of_table bytes in
      let mid = portion (rule_of bytes) W before p b in
      let step : Step bytes before p b mid (advance W p b) =
      went_step (record { none = none; room = room; within = within; progress = refl; cells = refl }) in
      let rest = run_there bs mid (advance W p b) (rw (fill_length (rule_of bytes) before p (advance W p b - p)) room) (omega arith) in
      record { after = rest.after; run = (mid, advance W p b, step, rest.run); in_type = (omega arith, rest.in_type) }

-- it ends at the smaller of what is spent and the cells
progress_spent : (W p : ℕ) (bs : List ℕ) → p ≤ W → progress_after W p bs ≡ min (p + spent bs) W
unfolding progress_after
progress_spent W p [] h = omega arith
progress_spent W p (b ∷ bs) h = progress_spent W (advance W p b) bs (omega arith) ∙ omega arith

pub there_is_a_run : ThereIsARun
there_is_a_run bytes cells budgets is accepted room =
    let W : ℕ = cells_of_table bytes in
    let none = answered_none bytes accepted.3 in
    let small : W < 2 ^ 32 = omega (arith, cells_most bytes (lawful bytes is none)) in
    let t = run_there bytes none small budgets cells 0 room (omega arith) in
    let end : progress_after W 0 budgets ≡ min (spent budgets) W = progress_spent W 0 budgets (omega arith) ∙ omega arith in
    subst (RunTo bytes budgets cells) end (record { filling = t.after; run = t.run; in_type = t.in_type })

-- k portions of the same budget
progress_each : (W p b k : ℕ) → p ≤ W → progress_after W p (replicate k b) ≡ min (p + k * b) W
unfolding progress_after
progress_each W p b zero h = omega arith
progress_each W p b (suc k) h = progress_each W (advance W p b) b k (omega arith) ∙ omega (arith, suc-mul k b)

in_time : (W b k : ℕ) → 1 ≤ b → (min (k * b) W ≡ W) ↔ (rounded_up W b ≤ k)
in_time W b k pos =
    let i = div-lt_iff_lt-mul {k = b} {x = W + (b - 1)} {y = k + 1} pos in
    let e : (k + 1) * b ≡ k * b + b = omega (arith, add-mul k 1 b, one-mul b) in (
      λ all. let h : W + (b - 1) < (k + 1) * b = omega arith in omega (arith, i.1 h),
      λ few. let h : rounded_up W b < k + 1 = omega arith in omega (arith, i.0 h),
    )

pub reached_in_time : ReachedInTime
reached_in_time bytes before after b k q pos run =
    let W : ℕ = cells_of_table bytes in
    let e : q ≡ min (k * b) W = (run_is bytes (replicate k b) before after 0 q run).1 ∙ progress_each W 0 b k (omega arith) ∙ omega arith in
    let i = in_time W b k pos in
    (λ same. i.0 (sym e ∙ same), λ few. e ∙ i.1 few)
