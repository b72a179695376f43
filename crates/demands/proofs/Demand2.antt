-- Demand 2. Assumes nothing.
use Prim.Native.Nat.{ℕ, zero, suc, ◌+◌, ◌-◌, ◌*◌, ◌≤◌, ◌<◌}
use native.Mathlib.Omega.{arith}
use mathlib.Core.Path.{◌≡◌, sym, ap, ap₂, subst, ◌∙◌}
use mathlib.Core.Logic.{inl, inr, ⊎_elim}
use mathlib.Core.List.{List}
use lib.ListN.{length, get_or}
use Rattle.answer.specs.Said.{header, task}
use Rattle.answer.specs.Order.{NoneGiven}
use Rattle.model.specs.Rules.{cores_of, demand_of, cost_of}
use Rattle.model.specs.Plan.{Choice}
use Rattle.model.specs.Turns.{each_from}
use Rattle.model.proofs.Turns.{each_same, same_each}
use Rattle.model.specs.Workspace.{advance}
use Rattle.model.proofs.Fills.{fill_length, fill_outside}
use Rattle.model.proofs.Locals.{fill_holds, rule_local}
use Rattle.block.specs.Bytes.{Bytes}
use Rattle.model.specs.declared.Figures.{Figures}
use Rattle.block.specs.Layout.{elasticity_in, modes_in, permitted_in, figures_in, flat}
use Rattle.block.specs.Tests.{allows}
use Rattle.block.specs.Whole.{header_bytes}
use Rattle.block.proofs.Figures.{flat_same}
use Rattle.block.proofs.Round.{HoldsHeader, header_bytes_lem, header_again, HoldsTask, task_bytes_lem, task_again}
use Rattle.table.specs.Order.{block_at, header_block, task_block, task_said, figures_said, table_rows}
use Rattle.table.specs.Numbers.{figures_of, Numbers, numbers_in}
use Rattle.table.specs.Lawful.{Lawful}
use Rattle.table.proofs.Blocks.{bytes_block}
use Rattle.table.proofs.Accepted.{lawful, answered_none, accepted_none}
use Rattle.table.proofs.Held.{Holds, holds_none, none_holds, task_asked, mode_asked}
use Rattle.choices.specs.Tasks.{choice_of, task_of, tasks_of, tasks_of_table, cores_of_table, cells_of_table}
use Rattle.portions.specs.Portion.{rule_of}
use Rattle.portions.proofs.Laws.{step_went}
use Rattle.demands.specs.Demand2.{ReadsAs, WrittenAs, EveryLawfulTableIsAccepted, WrittenAndReadBack, ReadAndRewritten, APortionFillsJustTheCellsItPaysFor, Demand2}
use Rattle.demands.proofs.Blocks.{together, length_together, block_together, bytes_together, same_blocks}
use Rattle.demands.proofs.Writers.{header_made, header_writes, header_wrote, bytes_of, task_made, task_writes, task_wrote}

-- ---- the blocks of a table, by their number: the header, then the tasks
abbrev block_of : Numbers → ℕ → List ℕ
block_of t zero = header_bytes t.tasks t.cores t.common
block_of t (suc i) = bytes_of i (t.task i)

abbrev table_of : Numbers → List ℕ
table_of t = together (block_of t) 0 (t.tasks + 1)

block_bytes : (t : Numbers) (k : ℕ) → Bytes (block_of t k)
block_bytes t zero = header_bytes_lem t.tasks t.cores t.common
block_bytes t (suc i) = let a = t.task i in task_bytes_lem i a.elasticity a.modes a.permitted (figures_of a)

-- each block of the bytes is the one that is made of the numbers
pub record Blocks (t : Numbers) (bytes : List ℕ) : Type 0 where
  pub long : length bytes ≡ 512 * (t.tasks + 1)
  pub front : header_block bytes ≡ block_of t 0
  pub each_task : (i : ℕ) → i < t.tasks → task_block bytes i ≡ bytes_of i (t.task i)

-- so it is of what the writers have written
written_blocks : (t : Numbers) (bytes : List ℕ) → WrittenAs t bytes → Blocks t bytes
written_blocks t bytes w =
    record {
      long = w.long;
      front = header_wrote t.tasks t.cores t.common (header_block bytes) w.front;
      each_task = λ i less. task_wrote t.common i (t.task i) (task_block bytes i) (w.each_task i less);
    }

-- and there is one such table
one_table : (t : Numbers) (a b : List ℕ) → Blocks t a → Blocks t b → a ≡ b
one_table t a b p q = same_blocks (t.tasks + 1) a b p.long q.long each
  where
    each : (k : ℕ) → k < t.tasks + 1 → block_at k a ≡ block_at k b
    each zero h = p.front ∙ sym q.front
    each (suc i) h =
        let e : suc i ≡ i + 1 = omega arith in
        rw e (p.each_task i (omega arith) ∙ sym (q.each_task i (omega arith)))

module _ (t : Numbers) (l : Lawful t) where
  -- of lawful numbers the writers write these blocks, and the blocks hold the numbers
  blocks_written : (bytes : List ℕ) → Blocks t bytes → WrittenAs t bytes
  blocks_written bytes b =
      record {
        long = b.long;
        front = header_writes t.tasks t.cores t.common l.header (header_block bytes) b.front;
        each_task = λ i less. task_writes t.tasks t.cores t.common i (t.task i) l.header less (l.task i less)
            (λ j few. l.mode i j less few) (task_block bytes i) (b.each_task i less);
      }

  holds_task : (i : ℕ) → i < t.tasks
      → let a = t.task i in
      HoldsTask i a.elasticity a.modes a.permitted (figures_of a) (bytes_of i a)
  holds_task i less =
      task_made t.tasks t.cores t.common i (t.task i) l.header less (l.task i less) (λ j few. l.mode i j less few)

  blocks_hold : (bytes : List ℕ) → Blocks t bytes → Holds t bytes
  blocks_hold bytes b =
      record {
        long = b.long;
        header = subst (HoldsHeader t.tasks t.cores t.common) (sym b.front) (header_made t.tasks t.cores t.common l.header);
        task = λ i less.
            let a = t.task i in
            subst (HoldsTask i a.elasticity a.modes a.permitted (figures_of a)) (sym (b.each_task i less)) (holds_task i less);
      }

  block_long : (k : ℕ) → k < t.tasks + 1 → length (block_of t k) ≡ 512
  block_long zero h = (header_made t.tasks t.cores t.common l.header).long
  block_long (suc i) h = (holds_task i (omega arith)).long

  -- the written table has these blocks
  table_blocks : Blocks t (table_of t)
  table_blocks =
      let long : (k : ℕ) → 0 ≤ k → k < 0 + (t.tasks + 1) → length (block_of t k) ≡ 512 = λ k low high. block_long k (omega arith) in
      record {
        long = length_together (block_of t) 0 (t.tasks + 1) long;
        front = block_together (block_of t) 0 (t.tasks + 1) 0 long (omega arith);
        each_task = λ i less.
            let e : 0 + (i + 1) ≡ suc i = omega arith in
            block_together (block_of t) 0 (t.tasks + 1) (i + 1) long (omega arith) ∙ ap (block_of t) e;
      }

-- ---- written, then read
-- what is read of a table whose blocks hold numbers, where no row is given, are these numbers
reads : (t : Numbers) (bytes : List ℕ) → Holds t bytes → NoneGiven (table_rows bytes) → ReadsAs bytes t
reads t bytes h p =
    record {
      front = (accepted_none bytes).1 p ∙ rw (h.header.tasks, h.header.cores, h.header.common);
      each_task = λ i less.
          task_asked bytes p i (rw h.header.tasks less) ∙ rw ((h.task i less).elasticity, (h.task i less).count, (h.task i less).mask);
      each_mode = λ i j less few.
          let a = t.task i in
          let b = h.task i less in
          let same : each_from (figures_in (task_block bytes i)) 0 a.modes ≡ each_from a.figures 0 a.modes = flat_same _ _ b.listing in
          mode_asked bytes p i j (rw h.header.tasks less) (rw b.count few)
          ∙ ap figures_said (same_each (figures_in (task_block bytes i)) a.figures 0 a.modes same j (omega arith) (omega arith));
    }

pub written_and_read_back : WrittenAndReadBack
written_and_read_back t bytes l w =
    let h = blocks_hold t l bytes (written_blocks t bytes w) in
    reads t bytes h (holds_none t bytes h l)

pub every_lawful_table_is_accepted : EveryLawfulTableIsAccepted
every_lawful_table_is_accepted t l =
    let w = blocks_written t l (table_of t) (table_blocks t l) in
    (table_of t, bytes_together (block_of t) (block_bytes t) 0 (t.tasks + 1), w, (written_and_read_back t (table_of t) l w).front)

-- ---- read, then written
-- an choice by what it is made of
abbrev option_by : ℕ → ℕ → ℕ → ℕ → Figures → Figures → Choice
option_by H j E permitted nominal own =
    record {
      permitted = allows permitted j;
      need = cores_of own.work own.span own.period;
      cost = cost_of E (demand_of nominal.work nominal.period H) (demand_of own.work own.period H);
    }

module _ (bytes : List ℕ) (b : Bytes bytes) (p : NoneGiven (table_rows bytes)) where
  -- the blocks of an accepted table are those of the numbers that stand in them
  own_blocks : Blocks (numbers_in bytes) bytes
  own_blocks =
      let t = numbers_in bytes in
      let h = none_holds bytes p in
      let l = (lawful bytes b p).numbers in
      record {
        long = h.long;
        front = sym (header_again t.tasks t.cores t.common (header_block bytes) (bytes_block 0 bytes b) h.header);
        each_task = λ i less.
            let a = t.task i in
            sym (task_again i a.elasticity a.modes a.permitted (figures_of a) (task_block bytes i) (bytes_block (i + 1) bytes b)
            (l.task i less).modes_high (h.task i less));
      }

  -- the numbers that are read are the numbers that stand there
  module _ (t : Numbers) (r : ReadsAs bytes t) where
    front_same : header (numbers_in bytes).tasks (numbers_in bytes).cores (numbers_in bytes).common ≡ header t.tasks t.cores t.common
    front_same = sym ((accepted_none bytes).1 p) ∙ r.front

    pub tasks_same : (numbers_in bytes).tasks ≡ t.tasks
    tasks_same = let e = front_same in cc

    pub cores_same : (numbers_in bytes).cores ≡ t.cores
    cores_same = let e = front_same in cc

    common_same : (numbers_in bytes).common ≡ t.common
    common_same = let e = front_same in cc

    module _ (i : ℕ) (less : i < t.tasks) where
      there : i < (numbers_in bytes).tasks
      there = rw tasks_same less

      task_same : task_said (task_block bytes i) ≡ task (t.task i).elasticity (t.task i).modes (t.task i).permitted
      task_same = sym (task_asked bytes p i there) ∙ r.each_task i less

      elasticity_same : elasticity_in (task_block bytes i) ≡ (t.task i).elasticity
      elasticity_same = let e = task_same in cc

      modes_same : modes_in (task_block bytes i) ≡ (t.task i).modes
      modes_same = let e = task_same in cc

      permitted_same : permitted_in (task_block bytes i) ≡ (t.task i).permitted
      permitted_same = let e = task_same in cc

      mode_same : (j : ℕ) → j < (t.task i).modes → figures_in (task_block bytes i) j ≡ (t.task i).figures j
      mode_same j few =
          let f = (t.task i).figures j in
          let e : figures_said (figures_in (task_block bytes i) j) ≡ figures_said f =
          sym (mode_asked bytes p i j there (rw modes_same few)) ∙ r.each_mode i j less few in
          let C : (figures_in (task_block bytes i) j).work ≡ f.work = cc in
          let L : (figures_in (task_block bytes i) j).span ≡ f.span = cc in
          let T : (figures_in (task_block bytes i) j).period ≡ f.period = cc in
          λ k. record { work = C k; span = L k; period = T k }

      figures_same : figures_of ((numbers_in bytes).task i) ≡ figures_of (t.task i)
      figures_same =
          rw modes_same
          (ap flat (each_same (figures_in (task_block bytes i)) (t.task i).figures 0 (t.task i).modes (λ j low high. mode_same j (omega arith))))

      -- and so are the choices, with any common period
      choice_same : (H j : ℕ) → j < (t.task i).modes → choice_of H ((numbers_in bytes).task i) j ≡ choice_of H (t.task i) j
      choice_same H j few =
          let f = figures_in (task_block bytes i) in
          ap₂ (λ (E permitted : ℕ). option_by H j E permitted (f 0) (f j)) elasticity_same permitted_same
          ∙ ap₂ (λ (nominal own : Figures). option_by H j (t.task i).elasticity (t.task i).permitted nominal own) (mode_same 0 (omega arith)) (mode_same j few)

      choices_same : (H : ℕ) → task_of H ((numbers_in bytes).task i) ≡ task_of H (t.task i)
      unfolding task_of
      choices_same H =
          rw modes_same
          (each_same (choice_of H ((numbers_in bytes).task i)) (choice_of H (t.task i)) 0 (t.task i).modes (λ j low high. choice_same H j (omega arith)))

    -- the planner sees the same tasks
    pub tasks_read : tasks_of_table bytes ≡ tasks_of t
    unfolding tasks_of
    tasks_read =
        rw (tasks_same, common_same)
        (each_same (λ i. task_of t.common ((numbers_in bytes).task i)) (λ i. task_of t.common (t.task i)) 0 t.tasks
        (λ i low high. choices_same i (omega arith) t.common))

    rewritten : WrittenAs t bytes
    rewritten =
        let w = blocks_written (numbers_in bytes) (lawful bytes b p).numbers bytes own_blocks in
        record {
          long = rw tasks_same at w.long;
          front = λ buffer room. rw (← tasks_same, ← cores_same, ← common_same) (w.front buffer room);
          each_task = λ i less buffer room.
              rw (← common_same, ← figures_same i less, ← elasticity_same i less, ← modes_same i less, ← permitted_same i less)
              (w.each_task i (there i less) buffer room);
        }

pub read_and_rewritten : ReadAndRewritten
read_and_rewritten bytes b (n, m, H, e) =
    let p = answered_none bytes e in (
      (numbers_in bytes, reads (numbers_in bytes) bytes (none_holds bytes p) p),
      λ t r.
          let w = rewritten bytes b p t r in
          (w, λ other v. one_table t other bytes (written_blocks t other v) (written_blocks t bytes w)),
    )

-- ---- a portion
pub a_portion_fills_just_the_cells_it_pays_for : APortionFillsJustTheCellsItPaysFor
a_portion_fills_just_the_cells_it_pays_for bytes before p b after q s =
    let w = step_went s in
    let P = w.progress in
    let I = w.within in
    let R = w.room in
    let k : p + (advance (cells_of_table bytes) p b - p) ≡ q = omega arith in
    record {
      progress = P;
      paid = omega arith;
      as_many = ap length w.cells ∙ fill_length (rule_of bytes) before p (advance (cells_of_table bytes) p b - p);
      filled_by_rule = λ c low high.
          subst (λ (e : List ℕ). get_or e c 0 ≡ rule_of bytes e c) (sym w.cells)
          (fill_holds (rule_of bytes) (rule_local (tasks_of_table bytes) (cores_of_table bytes)) before p (advance (cells_of_table bytes) p b - p) c low (omega arith) (omega arith));
      others = λ c h.
          ap (λ (e : List ℕ). get_or e c 0) w.cells
          ∙ fill_outside (rule_of bytes) before p (advance (cells_of_table bytes) p b - p) c 0 (⊎_elim (λ low. inl low) (λ high. inr (omega arith)) h);
    }

pub demand_2 : Demand2
demand_2 =
    record {
      accepted = every_lawful_table_is_accepted;
      read_back = written_and_read_back;
      rewritten = read_and_rewritten;
      portion = a_portion_fills_just_the_cells_it_pays_for;
    }
