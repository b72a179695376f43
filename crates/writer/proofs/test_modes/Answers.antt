use Rattle.std.proofs.Common.{◌≡◌, ◌∙◌, refl, sym, arith, ℕ, suc, ◌+◌, ◌/◌, ◌<◌, List, [], ◌∷◌, length, get_or, drop, map}
use Rattle.std.specs.Simd.{first_chunks}
use Rattle.std.proofs.lemmas.List.{at_drop_more, at_drop_all}
use Rattle.answer.specs.Order.{first}
use Rattle.answer.proofs.Rows.{first_append}
use Rattle.answer.specs.Said.{written}
use Rattle.answer.proofs.Elses.{went_on, passed_up}
use Rattle.block.specs.Layout.{threes}
use Rattle.block.specs.Tests.{figure_rows, modes_rows}
use Rattle.table.specs.Order.{figures_said}
use Rattle.writer.proofs.test_modes.Invariants.{three, answer_by}
use Rattle.writer.proofs.test_modes.Goals as goal

-- the chunks are the modes
chunked : (xs : List ℕ) → threes xs ≡ map three (first_chunks 3 (length xs / 3) xs)
unfolding threes
chunked [] = refl
chunked (a ∷ []) = refl
chunked (a ∷ b ∷ []) = refl
chunked (a ∷ b ∷ c ∷ xs) = let e : length (a ∷ b ∷ c ∷ xs) / 3 ≡ suc (length xs / 3) = omega arith in rw (e, chunked xs)

-- one mode, then those after it
one_on : (H : ℕ) (modes : List (List ℕ)) (i : ℕ) → i < length modes
    → answer_by H (drop i modes) ≡ first (figure_rows 0 H (three (get_or modes i []))) (answer_by H (drop (i + 1) modes))
unfolding modes_rows
one_on H modes i h =
    at_drop_more (answer_by H) modes i [] h
    ∙ first_append (figure_rows 0 H (three (get_or modes i []))) (modes_rows 0 H (map three (drop (i + 1) modes))) written

pub loop-work-init : goal.loop-work-init
loop-work-init c = rw (c.as_chunks.ensures.front, chunked)

pub returns-in_err-test_figures : goal.returns-in_err-test_figures
returns-in_err-test_figures c =
    let f = three (get_or c.as_chunks.result.0.now c.loop-work.work-index []) in
    passed_up (λ x. written) (figure_rows 0 c.args.common f) _ _ (figures_said f) _ (λ z. omega (arith, z)) c.from_residual.ensures
    c.in_err-test_figures.ensures
    ∙ sym (c.loop-work.invariant ∙ one_on _ _ _ c.loop-work-test.true)

pub loop-work-preserved : goal.loop-work-preserved
loop-work-preserved c =
    let f = three (get_or c.as_chunks.result.0.now c.loop-work.work-index []) in
    c.loop-work.invariant ∙ one_on _ _ _ c.loop-work-test.true
    ∙ went_on (figure_rows 0 c.args.common f) (figures_said f) (λ z. omega (arith, z)) c.in_ok-test_figures.ensures _

pub returns : goal.returns
unfolding modes_rows
returns c = sym (c.loop-work.invariant ∙ at_drop_all (answer_by c.args.common) _ _ c.loop-work-test.false)
