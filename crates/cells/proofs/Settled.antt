-- Each public promise settles its outcome: the answer, and every cell that was lent. Assumes nothing.
use Prim.Native.Nat.{ℕ}
use mathlib.Core.List.{List}
use mathlib.Core.Path.{refl, sym, ap, ◌∙◌}
use Rattle.answer.specs.One.{One}
use Rattle.cells.proofs.Modes.{by_numbers}
use Rattle.cells.proofs.reads.Kinds as reads_kinds
use Rattle.cells.proofs.reads.Reads as reads_reads
use Rattle.cells.proofs.mode.Mode.onward.Kinds as onward_kinds
use Rattle.cells.proofs.mode.Mode.onward.Reads as onward_reads
use Rattle.cells.proofs.mode.Mode.keeps.Kinds as keeps_kinds
use Rattle.cells.proofs.mode.Mode.keeps.Reads as keeps_reads
use Rattle.cells.proofs.mode.ModeDefault.default.Kinds as default_kinds
use Rattle.cells.proofs.mode.ModeDefault.default.Reads as default_reads
use Rattle.cells.proofs.fill_run.Kinds as fill_run_kinds
use Rattle.cells.proofs.fill_run.Reads as fill_run_reads
use Rattle.cells.proofs.mode.ModePartialEq.eq.Kinds as mode_eq_kinds
use Rattle.cells.proofs.mode.ModePartialEq.eq.Reads as mode_eq_reads

pub reads_one : One reads_kinds.ps reads_kinds.r reads_reads.Post
reads_one κs a x y s t p q = (p ∙ sym q, refl)

pub onward_one : One onward_kinds.ps onward_kinds.r onward_reads.Post
onward_one κs a x y s t p q = (p ∙ sym q, refl)

pub keeps_one : One keeps_kinds.ps keeps_kinds.r keeps_reads.Post
keeps_one κs a x y s t p q = (p ∙ sym q, refl)

pub default_one : One default_kinds.ps default_kinds.r default_reads.Post
default_one κs a x y s t p q = (by_numbers x y (p.0 ∙ sym q.0) (p.1 ∙ sym q.1), refl)

pub fill_run_one : One fill_run_kinds.ps fill_run_kinds.r fill_run_reads.Post
fill_run_one κs a x y s t p q = (refl, ap (λ (d : List ℕ). (tt, (tt, (d, (tt, tt))))) (p ∙ sym q))

pub mode_eq_one : One mode_eq_kinds.ps mode_eq_kinds.r mode_eq_reads.Post
mode_eq_one κs a x y s t p q = (p ∙ sym q, refl)
