-- Each public promise settles its outcome. Assumes nothing.
use mathlib.Core.Path.{refl, sym, ◌∙◌}
use denote.RattleType.{RattleType}
use denote.Param.Laws.{Laws}
use mir.Syntax.{Dict}
use Rattle.answer.specs.One.{One}
use Rattle.block.specs.declared.Number.{Ghosts}
use Rattle.block.specs.contracts.Number.TheBound.{Lawful}
use Rattle.block.proofs.Number.get.Kinds as get_kinds
use Rattle.block.proofs.Number.get.Reads as get_reads
use Rattle.block.proofs.U8Number.get.Kinds as u8_get_kinds
use Rattle.block.proofs.U8Number.get.Reads as u8_get_reads
use Rattle.block.proofs.U16Number.get.Kinds as u16_get_kinds
use Rattle.block.proofs.U16Number.get.Reads as u16_get_reads
use Rattle.block.proofs.U32Number.get.Kinds as u32_get_kinds
use Rattle.block.proofs.U32Number.get.Reads as u32_get_reads
use Rattle.block.proofs.check_of.Kinds as check_of_kinds
use Rattle.block.proofs.check_of.Reads as check_of_reads
use Rattle.block.proofs.is_zero.Kinds as is_zero_kinds
use Rattle.block.proofs.is_zero.Reads as is_zero_reads
use Rattle.block.proofs.Header.read.Kinds as header_read_kinds
use Rattle.block.proofs.Header.read.Reads as header_read_reads
use Rattle.block.proofs.Header.wrong_limits.Kinds as wrong_limits_kinds
use Rattle.block.proofs.Header.wrong_limits.Reads as wrong_limits_reads
use Rattle.block.proofs.wrong_common.Kinds as wrong_common_kinds
use Rattle.block.proofs.wrong_common.Reads as wrong_common_reads
use Rattle.block.proofs.Task.read.Kinds as task_read_kinds
use Rattle.block.proofs.Task.read.Reads as task_read_reads
use Rattle.block.proofs.Task.wrong_shape.Kinds as wrong_shape_kinds
use Rattle.block.proofs.Task.wrong_shape.Reads as wrong_shape_reads
use Rattle.block.proofs.Task.permits.Kinds as permits_kinds
use Rattle.block.proofs.Task.permits.Reads as permits_reads
use Rattle.block.proofs.Task.wrong_permitted.Kinds as wrong_permitted_kinds
use Rattle.block.proofs.Task.wrong_permitted.Reads as wrong_permitted_reads
use Rattle.block.proofs.figures_at.Kinds as figures_at_kinds
use Rattle.block.proofs.figures_at.Reads as figures_at_reads
use Rattle.block.proofs.wrong_period.Kinds as wrong_period_kinds
use Rattle.block.proofs.wrong_period.Reads as wrong_period_reads
use Rattle.block.proofs.wrong_work.Kinds as wrong_work_kinds
use Rattle.block.proofs.wrong_work.Reads as wrong_work_reads
use Rattle.block.proofs.HeaderPartialEq.eq.Kinds as header_eq_kinds
use Rattle.block.proofs.HeaderPartialEq.eq.Reads as header_eq_reads
use Rattle.block.proofs.TaskPartialEq.eq.Kinds as task_eq_kinds
use Rattle.block.proofs.TaskPartialEq.eq.Reads as task_eq_reads

-- of whatever is a `Number`, by the law of the trait
pub get_one : (T : RattleType) (L : Laws T) (number : Ghosts T.Denot) (methods : Dict) → Lawful T number methods
    → One (get_kinds.ps T L) (get_kinds.r T L) (get_reads.Post T L number methods)
get_one T L number methods lawful κs a x y s t p q = (lawful.laws x y (p ∙ sym q), refl)

pub u8_get_one : One u8_get_kinds.ps u8_get_kinds.r u8_get_reads.Post
u8_get_one κs a x y s t p q = (p ∙ sym q, refl)

pub u16_get_one : One u16_get_kinds.ps u16_get_kinds.r u16_get_reads.Post
u16_get_one κs a x y s t p q = (p ∙ sym q, refl)

pub u32_get_one : One u32_get_kinds.ps u32_get_kinds.r u32_get_reads.Post
u32_get_one κs a x y s t p q = (p ∙ sym q, refl)

pub check_of_one : One check_of_kinds.ps check_of_kinds.r check_of_reads.Post
check_of_one κs a x y s t p q = (p ∙ sym q, refl)

pub is_zero_one : One is_zero_kinds.ps is_zero_kinds.r is_zero_reads.Post
is_zero_one κs a x y s t p q = (p ∙ sym q, refl)

pub header_read_one : One header_read_kinds.ps header_read_kinds.r header_read_reads.Post
header_read_one κs a x y s t p q = (p ∙ sym q, refl)

pub wrong_limits_one : One wrong_limits_kinds.ps wrong_limits_kinds.r wrong_limits_reads.Post
wrong_limits_one κs a x y s t p q = (p ∙ sym q, refl)

pub wrong_common_one : One wrong_common_kinds.ps wrong_common_kinds.r wrong_common_reads.Post
wrong_common_one κs a x y s t p q = (p ∙ sym q, refl)

pub task_read_one : One task_read_kinds.ps task_read_kinds.r task_read_reads.Post
task_read_one κs a x y s t p q = (p ∙ sym q, refl)

pub wrong_shape_one : One wrong_shape_kinds.ps wrong_shape_kinds.r wrong_shape_reads.Post
wrong_shape_one κs a x y s t p q = (p ∙ sym q, refl)

pub permits_one : One permits_kinds.ps permits_kinds.r permits_reads.Post
permits_one κs a x y s t p q = (p ∙ sym q, refl)

pub wrong_permitted_one : One wrong_permitted_kinds.ps wrong_permitted_kinds.r wrong_permitted_reads.Post
wrong_permitted_one κs a x y s t p q = (p ∙ sym q, refl)

pub wrong_period_one : One wrong_period_kinds.ps wrong_period_kinds.r wrong_period_reads.Post
wrong_period_one κs a x y s t p q = (p ∙ sym q, refl)

pub wrong_work_one : One wrong_work_kinds.ps wrong_work_kinds.r wrong_work_reads.Post
wrong_work_one κs a x y s t p q = (p ∙ sym q, refl)

pub figures_at_one : One figures_at_kinds.ps figures_at_kinds.r figures_at_reads.Post
figures_at_one κs a x y s t p q = (p ∙ sym q, refl)

pub header_eq_one : One header_eq_kinds.ps header_eq_kinds.r header_eq_reads.Post
header_eq_one κs a x y s t p q = (p ∙ sym q, refl)

pub task_eq_one : One task_eq_kinds.ps task_eq_kinds.r task_eq_reads.Post
task_eq_one κs a x y s t p q = (p ∙ sym q, refl)
