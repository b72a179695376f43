-- Each public promise settles its outcome: every byte of the lent buffer. Assumes nothing.
use Prim.Native.Nat.{ℕ}
use mathlib.Core.List.{List}
use mathlib.Core.Path.{refl, sym, ap, ◌∙◌}
use Rattle.answer.specs.One.{One}
use Rattle.puts.proofs.fill_header.Kinds as fill_header_kinds
use Rattle.puts.proofs.fill_header.Reads as fill_header_reads
use Rattle.puts.proofs.fill_task.Kinds as fill_task_kinds
use Rattle.puts.proofs.fill_task.Reads as fill_task_reads

pub fill_header_one : One fill_header_kinds.ps fill_header_kinds.r fill_header_reads.Post
fill_header_one κs a x y s t p q = (refl, ap (λ (d : List ℕ). (d, (tt, tt))) (p ∙ sym q))

pub fill_task_one : One fill_task_kinds.ps fill_task_kinds.r fill_task_reads.Post
fill_task_one κs a x y s t p q = (refl, ap (λ (d : List ℕ). (d, (tt, (tt, (tt, tt))))) (p ∙ sym q))
