-- Each call's reply is settled, with all that it leaves behind, as that of the call which it makes. Assumes nothing.
use Rattle.answer.specs.One.{One}
use Rattle.shunguleta.proofs.Settled as settled
use Rattle.shunguleta_c.proofs.shunguleta_check.Kinds as check_kinds
use Rattle.shunguleta_c.proofs.shunguleta_check.Reads as check_reads
use Rattle.shunguleta_c.proofs.shunguleta_ask_task.Kinds as ask_task_kinds
use Rattle.shunguleta_c.proofs.shunguleta_ask_task.Reads as ask_task_reads
use Rattle.shunguleta_c.proofs.shunguleta_ask_mode.Kinds as ask_mode_kinds
use Rattle.shunguleta_c.proofs.shunguleta_ask_mode.Reads as ask_mode_reads
use Rattle.shunguleta_c.proofs.shunguleta_ask_choice.Kinds as ask_choice_kinds
use Rattle.shunguleta_c.proofs.shunguleta_ask_choice.Reads as ask_choice_reads
use Rattle.shunguleta_c.proofs.shunguleta_portion.Kinds as portion_kinds
use Rattle.shunguleta_c.proofs.shunguleta_portion.Reads as portion_reads
use Rattle.shunguleta_c.proofs.shunguleta_take.Kinds as take_kinds
use Rattle.shunguleta_c.proofs.shunguleta_take.Reads as take_reads
use Rattle.shunguleta_c.proofs.shunguleta_write_header.Kinds as write_header_kinds
use Rattle.shunguleta_c.proofs.shunguleta_write_header.Reads as write_header_reads
use Rattle.shunguleta_c.proofs.shunguleta_write_task.Kinds as write_task_kinds
use Rattle.shunguleta_c.proofs.shunguleta_write_task.Reads as write_task_reads
use Rattle.shunguleta_c.proofs.shunguleta_plan_whole.Kinds as plan_whole_kinds
use Rattle.shunguleta_c.proofs.shunguleta_plan_whole.Reads as plan_whole_reads

pub check_one : One check_kinds.ps check_kinds.r check_reads.Post
check_one = settled.check_one

pub ask_task_one : One ask_task_kinds.ps ask_task_kinds.r ask_task_reads.Post
ask_task_one = settled.ask_task_one

pub ask_mode_one : One ask_mode_kinds.ps ask_mode_kinds.r ask_mode_reads.Post
ask_mode_one = settled.ask_mode_one

pub ask_choice_one : One ask_choice_kinds.ps ask_choice_kinds.r ask_choice_reads.Post
ask_choice_one = settled.ask_choice_one

pub portion_one : One portion_kinds.ps portion_kinds.r portion_reads.Post
portion_one = settled.portion_one

pub take_one : One take_kinds.ps take_kinds.r take_reads.Post
take_one = settled.take_one

pub write_header_one : One write_header_kinds.ps write_header_kinds.r write_header_reads.Post
write_header_one = settled.write_header_one

pub write_task_one : One write_task_kinds.ps write_task_kinds.r write_task_reads.Post
write_task_one = settled.write_task_one

pub plan_whole_one : One plan_whole_kinds.ps plan_whole_kinds.r plan_whole_reads.Post
plan_whole_one = settled.plan_whole_one
