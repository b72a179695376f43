-- Each reply is settled, with all that the call leaves behind: the call's own promise settles its answer. Assumes nothing.
use Prim.Native.Nat.{ℕ}
use denote.RattleType.{RattleType}
use denote.Exit.{no}
use denote.Enum.Declared.{row}
use denote.Param.{param}
use denote.Param.Laws.{Laws}
use denote.Param.Mute.{Mute, Mute-seen, Mute-still, enum-Mute}
use mir.Syntax.{Dict}
use mathlib.Core.List.{List}
use mathlib.Core.Path.{◌≡◌, refl, sym, ap, ◌∙◌}
use Rattle.answer.proofs.Outcomes.{outcome_one}
use Rattle.std.specs.contracts.result.Result.{the_type}
use Rattle.answer.specs.contracts.Refusal.{the_row}
use Rattle.answer.specs.Said.{Said, said_of}
use Rattle.answer.specs.One.{One}
use Rattle.table.proofs.Settled as table_settled
use Rattle.choices.proofs.Settled as choices_settled
use Rattle.writer.proofs.Settled as writer_settled
use Rattle.portions.proofs.Settled as portions_settled
use Rattle.taking.proofs.Settled as taking_settled
use Rattle.whole.proofs.Settled as whole_settled
use Rattle.table.specs.Said.{the_header, the_task}
use Rattle.table.specs.Order.{figures_said}
use Rattle.choices.specs.Said.{the_choice}
use Rattle.writer.specs.Said.{said as written_said}
use Rattle.portions.specs.Said.{said as filling_said}
use Rattle.taking.specs.Said.{said as taken_said}
use Rattle.shunguleta.specs.declared.Reply.{Reply}
use Rattle.shunguleta.specs.Reply.{reply_of, Replied}
use Rattle.shunguleta.specs.declared.Given as given
use Rattle.shunguleta.proofs.ReplyFromResultRefusal.from.Kinds as from_kinds
use Rattle.shunguleta.proofs.ReplyFromResultRefusal.from.Reads as from_reads
use Rattle.shunguleta.proofs.shunguleta_check.Kinds as check_kinds
use Rattle.shunguleta.proofs.shunguleta_check.Reads as check_reads
use Rattle.shunguleta.proofs.shunguleta_ask_task.Kinds as ask_task_kinds
use Rattle.shunguleta.proofs.shunguleta_ask_task.Reads as ask_task_reads
use Rattle.shunguleta.proofs.shunguleta_ask_mode.Kinds as ask_mode_kinds
use Rattle.shunguleta.proofs.shunguleta_ask_mode.Reads as ask_mode_reads
use Rattle.shunguleta.proofs.shunguleta_ask_choice.Kinds as ask_choice_kinds
use Rattle.shunguleta.proofs.shunguleta_ask_choice.Reads as ask_choice_reads
use Rattle.shunguleta.proofs.shunguleta_portion.Kinds as portion_kinds
use Rattle.shunguleta.proofs.shunguleta_portion.Reads as portion_reads
use Rattle.shunguleta.proofs.shunguleta_take.Kinds as take_kinds
use Rattle.shunguleta.proofs.shunguleta_take.Reads as take_reads
use Rattle.shunguleta.proofs.shunguleta_write_header.Kinds as write_header_kinds
use Rattle.shunguleta.proofs.shunguleta_write_header.Reads as write_header_reads
use Rattle.shunguleta.proofs.shunguleta_write_task.Kinds as write_task_kinds
use Rattle.shunguleta.proofs.shunguleta_write_task.Reads as write_task_reads
use Rattle.shunguleta.proofs.shunguleta_plan_whole.Kinds as plan_whole_kinds
use Rattle.shunguleta.proofs.shunguleta_plan_whole.Reads as plan_whole_reads
use Rattle.shunguleta.proofs.ReplyPartialEq.eq.Kinds as reply_eq_kinds
use Rattle.shunguleta.proofs.ReplyPartialEq.eq.Reads as reply_eq_reads

-- where a call's promises settle its answer and what it leaves, they settle the reply
settled : {A Left : Type 0} (said : A → Said) {P Q : A → Type 0} {x y : Reply} {s t : Left}
    → ((a b : A) → P a → Q b → (a ≡ b) × (s ≡ t)) → Replied said P x → Replied said Q y → (x ≡ y) × (s ≡ t)
settled said one p q =
    let e = one p.answer q.answer p.promised q.promised in
    (p.reply ∙ ap (λ a. reply_of (said a)) e.0 ∙ sym q.reply, e.1)

pub check_one : One check_kinds.ps check_kinds.r check_reads.Post
check_one κs a x y s t = settled (said_of the_header) (λ b c. table_settled.check_one κs a b c s t)

pub ask_task_one : One ask_task_kinds.ps ask_task_kinds.r ask_task_reads.Post
ask_task_one κs a x y s t = settled (said_of the_task) (λ b c. table_settled.ask_task_one κs a b c s t)

pub ask_mode_one : One ask_mode_kinds.ps ask_mode_kinds.r ask_mode_reads.Post
ask_mode_one κs a x y s t = settled (said_of figures_said) (λ b c. table_settled.ask_mode_one κs a b c s t)

pub ask_choice_one : One ask_choice_kinds.ps ask_choice_kinds.r ask_choice_reads.Post
ask_choice_one κs a x y s t = settled (said_of the_choice) (λ b c. choices_settled.ask_choice_one κs a b c s t)

pub portion_one : One portion_kinds.ps portion_kinds.r portion_reads.Post
portion_one κs a x y s t = settled filling_said (λ b c. portions_settled.portion_one κs a b c s t)

pub take_one : One take_kinds.ps take_kinds.r take_reads.Post
take_one κs a x y s t = settled taken_said (λ b c. taking_settled.take_one κs a b c s t)

pub write_header_one : One write_header_kinds.ps write_header_kinds.r write_header_reads.Post
write_header_one κs a x y s t =
    settled written_said
    (λ b c p q. let o = outcome_one p q in (writer_settled.one_answer b c o.0, ap (λ (d : List ℕ). (tt, (tt, (tt, (d, tt))))) o.1))

pub write_task_one : One write_task_kinds.ps write_task_kinds.r write_task_reads.Post
write_task_one κs a x y s t =
    settled written_said
    (λ b c p q. let o = outcome_one p q in (writer_settled.one_answer b c o.0, ap (λ (d : List ℕ). (tt, (tt, (tt, (tt, (tt, (tt, (d, tt)))))))) o.1))

pub plan_whole_one : One plan_whole_kinds.ps plan_whole_kinds.r plan_whole_reads.Post
plan_whole_one κs a x y s t = settled taken_said (λ b c. whole_settled.plan_whole_one κs a b c s t)

-- nothing is left of an answer that is handed on
spent : (T : RattleType) → Mute ((row (the_type (param 0 T) the_row)).exit no)
spent T = enum-Mute (the_type (param 0 T) the_row) no ((Mute-seen λ x. tt, tt), ((Mute-still, tt), tt))

-- the reply to an answer, whatever it is that a call gives
pub from_one : (T : RattleType) (L : Laws T) (says : given.Ghosts T.Denot) (methods : Dict)
    → One (from_kinds.ps T L) (from_kinds.r T L) (from_reads.Post T L says methods)
from_one T L says methods κs a x y s t p q = (p ∙ sym q, ap (λ w. (w, tt)) ((spent T).once a.0 s.0 ∙ sym ((spent T).once a.0 t.0)))

pub reply_eq_one : One reply_eq_kinds.ps reply_eq_kinds.r reply_eq_reads.Post
reply_eq_one κs a x y s t p q = (p ∙ sym q, refl)
