-- Each public promise settles its outcome. Assumes nothing.
use mathlib.Core.Path.{◌≡◌, ◌∙◌, sym, refl}
use Rattle.std.specs.Prelude.{ℕ, Option, Some, None}
use Rattle.answer.specs.One.{One}
use Rattle.model.specs.inner.Said.{said}
use Rattle.model.proofs.Figures.meets_period.Kinds as meets_period_kinds
use Rattle.model.proofs.Figures.meets_period.Reads as meets_period_reads
use Rattle.model.proofs.Figures.cores.Kinds as cores_kinds
use Rattle.model.proofs.Figures.cores.Reads as cores_reads
use Rattle.model.proofs.Figures.demand.Kinds as demand_kinds
use Rattle.model.proofs.Figures.demand.Reads as demand_reads
use Rattle.model.proofs.cost.Kinds as cost_kinds
use Rattle.model.proofs.cost.Reads as cost_reads
use Rattle.model.proofs.FiguresPartialEq.eq.Kinds as figures_eq_kinds
use Rattle.model.proofs.FiguresPartialEq.eq.Reads as figures_eq_reads

-- what is said of a mode's cores is the whole of them
said_one : (x y : Option ℕ) → said x ≡ said y → x ≡ y
said_one (Some j) (Some k) e = cc
said_one (Some j) None e = cc
said_one None (Some k) e = cc
said_one None None e = refl

pub meets_period_one : One meets_period_kinds.ps meets_period_kinds.r meets_period_reads.Post
meets_period_one κs a x y s t p q = (p ∙ sym q, refl)

pub cores_one : One cores_kinds.ps cores_kinds.r cores_reads.Post
cores_one κs a x y s t p q = (said_one x y (p ∙ sym q), refl)

pub demand_one : One demand_kinds.ps demand_kinds.r demand_reads.Post
demand_one κs a x y s t p q = (p ∙ sym q, refl)

pub cost_one : One cost_kinds.ps cost_kinds.r cost_reads.Post
cost_one κs a x y s t p q = (p ∙ sym q, refl)

pub figures_eq_one : One figures_eq_kinds.ps figures_eq_kinds.r figures_eq_reads.Post
figures_eq_one κs a x y s t p q = (p ∙ sym q, refl)
