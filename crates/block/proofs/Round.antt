-- The round trip of a block: a block holds these numbers exactly where it is made of them. Assumes nothing.
use Prim.Native.Nat.{ℕ, zero, suc, ◌+◌, ◌*◌, ◌^◌, ◌≤◌, ◌<◌}
use native.Mathlib.Omega.{arith}
use mathlib.Core.Path.{◌≡◌, refl, ap, sym, ◌∙◌}
use mathlib.Core.Bool.{Bool, true, false, not, ◌||◌}
use mathlib.Core.List.{List, [], ◌∷◌}
use lib.ListN.{length, drop, get_or, replicate}
use borrow.Author.Tests.{not-false}
use Rattle.answer.proofs.Bools.{or_false}
use Rattle.model.specs.Turns.{each_from}
use Rattle.block.specs.Bytes.{Bytes, number, laid, check_of, zeros}
use Rattle.block.specs.Layout.{kind_in, check_in, edition_in, tasks_in, cores_in, common_in, header_unused, elasticity_in, modes_in, permitted_in, task_number_in, task_unused, figures_in, flat}
use Rattle.block.specs.Whole.{header_widths, header_bytes, task_widths, task_bytes}
use Rattle.block.proofs.Laid.{Fit, total, length_laid, laid_most, bytes_laid, fields}
use Rattle.block.proofs.Zeros.{zeros_number, number_zeros}
use Rattle.block.proofs.Whole.{length_sealed, sealed_bytes, made, remade}

-- no byte of two runs is other than zero
unused : (a b : Bool) → (not a || not b) ≡ false → (a ≡ true) × (b ≡ true)
unused a b e = let p = or_false (not a) (not b) e in (not-false a p.0, not-false b p.1)

-- ---- the header
pub record HoldsHeader (n m H : ℕ) (block : List ℕ) : Type 0 where
  pub long : length block ≡ 512
  pub check : check_of block ≡ check_in block
  pub kind : kind_in block ≡ 1
  pub edition : edition_in block ≡ 1
  pub tasks : tasks_in block ≡ n
  pub cores : cores_in block ≡ m
  pub common : common_in block ≡ H
  pub spare : header_unused block ≡ false

module _ (n m H : ℕ) where
  abbrev header_numbers : List ℕ
  header_numbers = 1 ∷ 1 ∷ n ∷ m ∷ 0 ∷ H ∷ []

  pub header_fit : n < 256 ^ 2 → m < 256 ^ 2 → H < 256 ^ 4 → Fit header_widths header_numbers
  unfolding header_widths
  header_fit a b c = (omega arith, (omega arith, (omega arith, (omega arith, (omega arith, (omega arith, tt))))))

  pub header_length : length (header_bytes n m H) ≡ 512
  unfolding header_bytes header_widths
  header_length = length_sealed (laid header_widths header_numbers) (omega (arith, laid_most header_widths header_numbers))

  pub header_long : Fit header_widths header_numbers → length (laid header_widths header_numbers) ≡ 12
  unfolding header_widths
  header_long f = length_laid header_widths header_numbers f

  -- a block made of the numbers holds them
  pub header_holds : n < 256 ^ 2 → m < 256 ^ 2 → H < 256 ^ 4 → HoldsHeader n m H (header_bytes n m H)
  unfolding header_bytes header_widths fields
  header_holds a b c =
      let h = made header_widths header_numbers (header_fit a b c) (omega arith) in
      let at : (i : ℕ) → _ = λ i. ap (λ (l : List ℕ). get_or l i 0) h.read in
      record {
        long = h.long;
        check = h.check;
        kind = at 0;
        edition = at 1;
        tasks = at 2;
        cores = at 3;
        common = at 5;
        spare = rw (zeros_number 6 2 (header_bytes n m H) (at 4), h.spare);
      }

  pub header_bytes_lem : Bytes (header_bytes n m H)
  unfolding header_bytes
  header_bytes_lem = sealed_bytes (laid header_widths header_numbers) (bytes_laid header_widths header_numbers)

  -- and one that holds them is made of them
  pub header_again : (block : List ℕ) → Bytes block → HoldsHeader n m H block → header_bytes n m H ≡ block
  unfolding header_bytes header_widths fields
  header_again block b h =
      let z = unused (zeros 6 8 block) (zeros 12 508 block) h.spare in
      let spare : number 2 6 block ≡ 0 = number_zeros 6 2 block z.0 in
      let read : fields header_widths 0 block ≡ header_numbers = rw (h.kind, h.edition, h.tasks, h.cores, spare, h.common) in
      remade header_widths header_numbers block b (omega arith) (record { long = h.long; check = h.check; read = read; spare = z.1 })

-- ---- a task
-- its figures, as numbers one after the other
fields_flat : (left j : ℕ) (s : List ℕ) → fields (replicate (3 * left) 4) (8 + 12 * j) s ≡ flat (each_from (figures_in s) j left)
unfolding fields flat each_from
fields_flat zero j s = refl
fields_flat (suc left) j s =
    let three : 3 * suc left ≡ suc (suc (suc (3 * left))) = omega arith in
    let span : 8 + 12 * j + 4 ≡ 12 + 12 * j = omega arith in
    let period : 12 + 12 * j + 4 ≡ 16 + 12 * j = omega arith in
    let next : 16 + 12 * j + 4 ≡ 8 + 12 * (j + 1) = omega arith in
    rw (three, span, period, next, fields_flat left (j + 1) s)

pub record HoldsTask (num E modes permitted : ℕ) (figures block : List ℕ) : Type 0 where
  pub long : length block ≡ 512
  pub check : check_of block ≡ check_in block
  pub kind : kind_in block ≡ 2
  pub number : task_number_in block ≡ num
  pub elasticity : elasticity_in block ≡ E
  pub count : modes_in block ≡ modes
  pub mask : permitted_in block ≡ permitted
  pub listing : flat (each_from (figures_in block) 0 modes) ≡ figures
  pub spare : task_unused block ≡ false

-- the numbers fit a task block
pub record TaskFits (num E modes permitted : ℕ) (figures : List ℕ) : Type 0 where
  pub number : num < 256 ^ 2
  pub elasticity : E < 256 ^ 1
  pub mask : permitted < 256 ^ 2
  pub few : modes ≤ 16
  pub words : (i : ℕ) → get_or figures i 0 < 256 ^ 4
  pub three : length figures ≡ 3 * modes

words_fit : (xs : List ℕ) → ((i : ℕ) → get_or xs i 0 < 256 ^ 4) → Fit (replicate (length xs) 4) xs
words_fit [] h = tt
words_fit (x ∷ xs) h = (h 0, words_fit xs (λ i. h (suc i)))

total_words : (n : ℕ) → total (replicate n 4) ≡ 4 * n
total_words zero = refl
total_words (suc n) = omega (arith, total_words n)

total_task : (modes : ℕ) → total (task_widths modes) ≡ 8 + 12 * modes
unfolding task_widths
total_task modes = omega (arith, total_words (3 * modes))

module _ (num E modes permitted : ℕ) (figures : List ℕ) where
  abbrev task_numbers : List ℕ
  task_numbers = 2 ∷ E ∷ modes ∷ 0 ∷ permitted ∷ num ∷ figures

  pub task_fit : TaskFits num E modes permitted figures → Fit (task_widths modes) task_numbers
  unfolding task_widths
  task_fit t =
      let w : Fit (replicate (3 * modes) 4) figures = rw t.three at (words_fit figures t.words) in
      (omega arith, (omega arith, (omega arith, (omega arith, (omega arith, (omega arith, w))))))

  pub task_long : Fit (task_widths modes) task_numbers → length (laid (task_widths modes) task_numbers) ≡ 8 + 12 * modes
  task_long f = length_laid (task_widths modes) task_numbers f ∙ total_task modes

  -- a block of any numbers, of at most 16 modes, is a whole one
  pub task_length : modes ≤ 16 → length (task_bytes num E modes permitted figures) ≡ 512
  unfolding task_bytes
  task_length few =
      length_sealed (laid (task_widths modes) task_numbers) (omega (arith, laid_most (task_widths modes) task_numbers, total_task modes))

  -- a block made of the numbers holds them
  pub task_holds : TaskFits num E modes permitted figures → HoldsTask num E modes permitted figures (task_bytes num E modes permitted figures)
  unfolding task_bytes task_widths fields
  task_holds t =
      let n = total_task modes in
      let h = made (task_widths modes) task_numbers (task_fit t) (omega (arith, t.few)) in
      let block = task_bytes num E modes permitted figures in
      let at : (i : ℕ) → _ = λ i. ap (λ (l : List ℕ). get_or l i 0) h.read in
      let behind : zeros (8 + 12 * modes) 508 block ≡ true = rw n at h.spare in
      record {
        long = h.long;
        check = h.check;
        kind = at 0;
        number = at 5;
        elasticity = at 1;
        count = at 2;
        mask = at 4;
        listing = sym (fields_flat modes 0 block) ∙ ap (drop 6) h.read;
        spare = rw (zeros_number 3 1 block (at 3), at 2, behind);
      }

  pub task_bytes_lem : Bytes (task_bytes num E modes permitted figures)
  unfolding task_bytes
  task_bytes_lem = sealed_bytes (laid (task_widths modes) task_numbers) (bytes_laid (task_widths modes) task_numbers)

  -- and one that holds them is made of them
  pub task_again : (block : List ℕ) → Bytes block → modes ≤ 16 → HoldsTask num E modes permitted figures block
      → task_bytes num E modes permitted figures ≡ block
  unfolding task_bytes task_widths fields
  task_again block b few h =
      let n = total_task modes in
      let z = unused (zeros 3 4 block) (zeros (8 + 12 * modes_in block) 508 block) h.spare in
      let spare : number 1 3 block ≡ 0 = number_zeros 3 1 block z.0 in
      let read : fields (task_widths modes) 0 block ≡ task_numbers =
      rw (h.kind, h.elasticity, h.count, spare, h.mask, h.number, fields_flat modes 0 block, h.listing) in
      let behind : zeros (total (task_widths modes)) 508 block ≡ true = rw (n, ← h.count) z.1 in
      remade (task_widths modes) task_numbers block b (omega arith) (record { long = h.long; check = h.check; read = read; spare = behind })
