-- Each public promise settles its outcome: at most one is allowed, and of the calls at least one. Assumes nothing.
use Prim.Native.Nat.{ℕ, ◌+◌, ◌*◌, ◌^◌, ◌<◌}
use native.Mathlib.Omega.{arith}
use mathlib.Core.List.{List}
use mathlib.Core.Path.{◌≡◌, refl, sym, ap, ◌∙◌}
use Rattle.std.specs.Prelude.{Result, Ok}
use Rattle.answer.specs.Said.{said_of}
use Rattle.answer.specs.One.{One, OneSeen, AtLeastOne}
use Rattle.answer.proofs.Rows.{numbers}
use Rattle.answer.proofs.Settled.{said_one}
use Rattle.answer.specs.declared.Refusal.{Refusal}
use Rattle.answer.proofs.Pair.{pair}
use Rattle.model.specs.declared.Figures.{Figures}
use Rattle.block.specs.declared.Header.{Header}
use Rattle.block.specs.declared.Task.{Task}
use Rattle.answer.proofs.Each.{Fits}
use Rattle.answer.proofs.Held.{Held, some_answer}
use Rattle.model.specs.contracts.Figures as figures
use Rattle.model.proofs.Figures.TheLaws as figures_laws
use Rattle.block.specs.contracts.Header as header
use Rattle.block.proofs.Header.TheLaws as header_laws
use Rattle.block.specs.contracts.Task as task
use Rattle.block.proofs.Task.TheLaws as task_laws
use Rattle.block.specs.Bytes.{Bytes, number}
use Rattle.block.specs.Layout.{figures_in}
use Rattle.block.specs.inner.Records.{header_in, task_in}
use Rattle.block.proofs.Laid.{number_small}
use Rattle.table.specs.Said.{the_header, the_task}
use Rattle.table.specs.Order.{block_at, header_block, task_block, header_said, task_said, figures_said, table_rows, ask_task_rows, ask_mode_rows, table_said, ask_task_said, ask_mode_said}
use Rattle.table.proofs.Blocks.{bytes_block}
use Rattle.table.proofs.Refusals.{front_fits, task_fits, each_table, each_ask_task, each_ask_mode}
use Rattle.table.proofs.task_block.Kinds as task_block_kinds
use Rattle.table.proofs.task_block.Reads as task_block_reads
use Rattle.table.proofs.test_figures.Kinds as test_figures_kinds
use Rattle.table.proofs.test_figures.Reads as test_figures_reads
use Rattle.table.proofs.checked.Checked.cell_count.Kinds as cell_count_kinds
use Rattle.table.proofs.checked.Checked.cell_count.Reads as cell_count_reads
use Rattle.table.proofs.check.Kinds as check_kinds
use Rattle.table.proofs.check.Reads as check_reads
use Rattle.table.proofs.ask_task.Kinds as ask_task_kinds
use Rattle.table.proofs.ask_task.Reads as ask_task_reads
use Rattle.table.proofs.ask_mode.Kinds as ask_mode_kinds
use Rattle.table.proofs.ask_mode.Reads as ask_mode_reads

-- where the part stands and its bytes; the reference's ghost name is a new one at each call
pub task_block_one : OneSeen {A = λ κs. (ℕ × ℕ) × List ℕ} task_block_kinds.ps task_block_kinds.r (λ κs x. (x.ref_ptr, x.now)) task_block_reads.Post
task_block_one κs a x y s t p q =
    (pair (pair (p.whose ∙ sym q.whose) (p.place ∙ sym q.place)) (p.bytes ∙ sym q.bytes), refl)

-- what is said of the numbers is the whole of them
pub header_same : (x y : Header) → the_header x ≡ the_header y → x ≡ y
header_same x y e = ap (λ s. record { tasks = (numbers s).0; cores = (numbers s).1; common = (numbers s).2 }) e

pub task_same : (x y : Task) → the_task x ≡ the_task y → x ≡ y
task_same x y e = ap (λ s. record { elasticity = (numbers s).0; modes = (numbers s).1; permitted = (numbers s).2 }) e

pub figures_same : (x y : Figures) → figures_said x ≡ figures_said y → x ≡ y
figures_same x y e = ap (λ s. record { work = (numbers s).0; span = (numbers s).1; period = (numbers s).2 }) e

pub test_figures_one : One test_figures_kinds.ps test_figures_kinds.r test_figures_reads.Post
test_figures_one κs a x y s t p q = (said_one figures_said figures_same (λ f z. omega (arith, z)) x y (p ∙ sym q), refl)

pub cell_count_one : One cell_count_kinds.ps cell_count_kinds.r cell_count_reads.Post
cell_count_one κs a x y s t p q = (p ∙ sym q, refl)

pub check_one : One check_kinds.ps check_kinds.r check_reads.Post
check_one κs a x y s t p q = (said_one the_header header_same (λ h z. omega (arith, z)) x y (p ∙ sym q), refl)

pub ask_task_one : One ask_task_kinds.ps ask_task_kinds.r ask_task_reads.Post
ask_task_one κs a x y s t p q = (said_one the_task task_same (λ h z. omega (arith, z)) x y (p ∙ sym q), refl)

pub ask_mode_one : One ask_mode_kinds.ps ask_mode_kinds.r ask_mode_reads.Post
ask_mode_one κs a x y s t p q = (said_one figures_said figures_same (λ f z. omega (arith, z)) x y (p ∙ sym q), refl)

-- ---- an answer that its type can hold
pub held_header : (n m H : ℕ) → n < 2 ^ 16 → m < 2 ^ 16 → H < 2 ^ 32
    → Held header.the_row header_laws.the_row_laws header_laws.the_told (Ok (record { tasks = n; cores = m; common = H }))
held_header n m H x y z = (_, (refl, (_, (refl, ((_, (refl, ((refl, x), ((refl, y), ((refl, z), tt))))), tt)))))

pub held_task_lem : (E modes permitted : ℕ) → E < 2 ^ 8 → modes < 2 ^ 8 → permitted < 2 ^ 16
    → Held task.the_row task_laws.the_row_laws task_laws.the_told (Ok (record { elasticity = E; modes = modes; permitted = permitted }))
held_task_lem E modes permitted x y z = (_, (refl, (_, (refl, ((_, (refl, ((refl, x), ((refl, y), ((refl, z), tt))))), tt)))))

pub held_figures : (C L P : ℕ) → C < 2 ^ 32 → L < 2 ^ 32 → P < 2 ^ 32
    → Held figures.the_row figures_laws.the_row_laws figures_laws.the_told (Ok (record { work = C; span = L; period = P }))
held_figures C L P x y z = (_, (refl, (_, (refl, ((_, (refl, ((refl, x), ((refl, y), ((refl, z), tt))))), tt)))))

-- ---- at least one
module _ (bytes : List ℕ) (b : Bytes bytes) where
  -- a number of w bytes fits them
  fits : (w at block : ℕ) → number w at (block_at block bytes) < 256 ^ w
  fits w at block = number_small w at (block_at block bytes) (bytes_block block bytes b)

  some_header : (x : Result Header Refusal) × Held header.the_row header_laws.the_row_laws header_laws.the_told x × (said_of the_header x ≡ table_said bytes)
  some_header =
      some_answer header.the_row header_laws.the_row_laws header_laws.the_told the_header (table_rows bytes) (header_said (header_block bytes))
      (each_table Fits bytes (front_fits bytes b) (task_fits bytes b))
      (λ none. (
        Ok (header_in (header_block bytes)),
        held_header _ _ _ (fits 2 2 0) (fits 2 4 0) (fits 4 8 0),
        refl,
      ))

  some_task : (i : ℕ) → (x : Result Task Refusal) × Held task.the_row task_laws.the_row_laws task_laws.the_told x × (said_of the_task x ≡ ask_task_said bytes i)
  some_task i =
      some_answer task.the_row task_laws.the_row_laws task_laws.the_told the_task (ask_task_rows bytes i) (task_said (task_block bytes i))
      (each_ask_task Fits bytes (front_fits bytes b) (task_fits bytes b) (refl, omega arith) i)
      (λ none. (
        Ok (task_in (task_block bytes i)),
        held_task_lem _ _ _ (fits 1 1 (i + 1)) (fits 1 2 (i + 1)) (fits 2 4 (i + 1)),
        refl,
      ))

  some_mode : (i j : ℕ)
      → (x : Result Figures Refusal) × Held figures.the_row figures_laws.the_row_laws figures_laws.the_told x × (said_of figures_said x ≡ ask_mode_said bytes i j)
  some_mode i j =
      some_answer figures.the_row figures_laws.the_row_laws figures_laws.the_told figures_said (ask_mode_rows bytes i j)
      (figures_said (figures_in (task_block bytes i) j))
      (each_ask_mode Fits bytes (front_fits bytes b) (task_fits bytes b) (refl, omega arith) i j)
      (λ none. (
        Ok (figures_in (task_block bytes i) j),
        held_figures _ _ _ (fits 4 (8 + 12 * j) (i + 1)) (fits 4 (12 + 12 * j) (i + 1)) (fits 4 (16 + 12 * j) (i + 1)),
        refl,
      ))

pub check_some : AtLeastOne check_kinds.ps check_kinds.r (λ κs a. Bytes a.0.now) check_reads.Post
check_some κs a b = let (r, held, said_is) = some_header a.0.now b in (r, (tt, tt), held, (tt, tt), said_is)

pub ask_task_some : AtLeastOne ask_task_kinds.ps ask_task_kinds.r (λ κs a. Bytes a.0.now) ask_task_reads.Post
ask_task_some κs a b = let (r, held, said_is) = some_task a.0.now b a.1.0 in (r, (tt, (tt, tt)), held, (tt, (tt, tt)), said_is)

pub ask_mode_some : AtLeastOne ask_mode_kinds.ps ask_mode_kinds.r (λ κs a. Bytes a.0.now) ask_mode_reads.Post
ask_mode_some κs a b = let (r, held, said_is) = some_mode a.0.now b a.1.0 a.1.1.0 in (r, (tt, (tt, (tt, tt))), held, (tt, (tt, (tt, tt))), said_is)
