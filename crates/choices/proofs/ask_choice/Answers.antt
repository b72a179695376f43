use Prim.Native.Nat.{ℕ}
use native.Mathlib.Omega.{arith}
use mathlib.Core.Path.{◌≡◌, sym, ◌∙◌}
use mathlib.Core.List.{List}
use Rattle.answer.specs.Said.{Said}
use Rattle.answer.specs.Order.{first}
use Rattle.answer.proofs.Bools.{clash}
use Rattle.answer.proofs.Elses.{passed, answered, went_on, passed_up}
use Rattle.model.specs.Rules.{cores_said}
use Rattle.model.specs.declared.Figures.{Figures}
use Rattle.block.specs.Bytes.{Bytes}
use Rattle.block.specs.Layout.{figures_in}
use Rattle.table.specs.Order.{block_at, task_block, figures_said, ask_mode_rows}
use Rattle.table.specs.Numbers.{numbers_in}
use Rattle.table.proofs.Accepted.{plannable}
use Rattle.choices.specs.Said.{the_choice}
use Rattle.choices.proofs.Meeting.{said_at, said_same, said_cores, said_late}
use Rattle.choices.proofs.Tables.{block_limits}
use Rattle.choices.proofs.Asked.{common_read, choice_found, Asked, asked, modes_few, meets_period}
use Rattle.choices.proofs.ask_choice.Goals as goal

pub returns-in_err-figures : goal.returns-in_err-figures
returns-in_err-figures c =
    let a = c.args in
    let bytes = a.table.now in
    let S = figures_said (figures_in (task_block bytes a.task) a.mode) in
    passed_up the_choice (ask_mode_rows bytes a.task a.mode) _ _ S _ (λ z. omega (arith, z)) c.from_residual.ensures c.in_err-figures.ensures

-- past the `?`: what was asked of, and what holds of it
record Past (bytes : List ℕ) (i j C L T : ℕ) : Type 0 where
  given : Asked bytes i j
  goes_on : (s : Said) → first (ask_mode_rows bytes i j) s ≡ s
  cores_are : cores_said C L T ≡ said_at ((numbers_in bytes).task i) j

past : (bytes : List ℕ) (i j : ℕ) (f : Figures) → Bytes bytes
    → figures_said f ≡ first (ask_mode_rows bytes i j) (figures_said (figures_in (task_block bytes i) j)) → Past bytes i j f.work f.span f.period
past bytes i j f b q =
    let rows = ask_mode_rows bytes i j in
    let t = (numbers_in bytes).task i in
    let S = figures_said (t.figures j) in
    record {
      given = asked bytes i j b (passed rows S (λ z. omega (arith, z)) q);
      goes_on = went_on rows S (λ z. omega (arith, z)) q;
      cores_are = said_same t j f.work f.span f.period (answered rows S (λ z. omega (arith, z)) q);
    }

-- each mode of a lawful table meets its period
pub returns-in_default : goal.returns-in_default
returns-in_default c =
    let a = c.args in
    let p = past a.table.now a.task a.mode c.in_ok-figures.figures (λ k. (c.type_inv.table k).fits) c.in_ok-figures.ensures in
    clash (sym (meets_period p.given) ∙ said_late ((numbers_in a.table.now).task a.task) a.mode (c.in_default.ensures ∙ p.cores_are))

pub overflow_cast-mode : goal.overflow_cast-mode
overflow_cast-mode c =
    let a = c.args in
    let p = past a.table.now a.task a.mode c.in_ok-figures.figures (λ k. (c.type_inv.table k).fits) c.in_ok-figures.ensures in
    omega (arith, p.given.mode, modes_few p.given)

pub choice_at-requires : goal.choice_at-requires
unfolding block_at
choice_at-requires c =
    let a = c.args in
    let p = past a.table.now a.task a.mode c.in_ok-figures.figures (λ k. (c.type_inv.table k).fits) c.in_ok-figures.ensures in
    let b = c.task_block.ensures.bytes in
    let common : c.get-common.result ≡ (numbers_in a.table.now).common = c.get-common.ensures ∙ common_read a.table.now in
    (rw common (block_limits (plannable p.given.lawful) _ p.given.task _ b), rw b p.given.mode)

pub returns : goal.returns
returns c =
    let a = c.args in
    let p = past a.table.now a.task a.mode c.in_ok-figures.figures (λ k. (c.type_inv.table k).fits) c.in_ok-figures.ensures in
    let count = said_cores ((numbers_in a.table.now).task a.task) a.mode _ (c.in-Some.ensures ∙ p.cores_are) in
    c.choice_at.ensures
    ∙ choice_found a.table.now _ a.task a.mode _ _ c.task_block.ensures.bytes c.get-common.ensures (count ∙ rw (meets_period p.given))
    ∙ sym (p.goes_on _)
