-- A whole block, made of its numbers.
use Rattle.std.specs.Prelude.{ℕ, ◌-◌, ◌*◌, List, [], ◌∷◌, ◌++◌, length, replicate}
use Rattle.block.specs.Bytes.{as_bytes, laid, check_of}

-- what stands before the check: the bytes with a meaning, and zero bytes up to offset 508
unfoldable pub body : List ℕ → List ℕ
body s = s ++ replicate (508 - length s) 0

-- the body and its check: 512 bytes, since those with a meaning are at most 508
unfoldable pub sealed : List ℕ → List ℕ
sealed s = body s ++ as_bytes 4 (check_of (body s))

-- kind, edition, n, m, zero, H
unfoldable pub header_widths : List ℕ
header_widths = 1 ∷ 1 ∷ 2 ∷ 2 ∷ 2 ∷ 4 ∷ []

unfoldable pub header_bytes : ℕ → ℕ → ℕ → List ℕ
header_bytes n m H = sealed (laid header_widths (1 ∷ 1 ∷ n ∷ m ∷ 0 ∷ H ∷ []))

-- kind, E, mode count, zero, permitted modes, task number, and three figures for each mode
unfoldable pub task_widths : ℕ → List ℕ
task_widths modes = 1 ∷ 1 ∷ 1 ∷ 1 ∷ 2 ∷ 2 ∷ replicate (3 * modes) 4

unfoldable pub task_bytes : ℕ → ℕ → ℕ → ℕ → List ℕ → List ℕ
task_bytes number E modes permitted figures = sealed (laid (task_widths modes) (2 ∷ E ∷ modes ∷ 0 ∷ permitted ∷ number ∷ figures))
