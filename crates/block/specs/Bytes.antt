-- The bytes of one block: numbers, least significant byte first, the check, and bytes that are zero. Past the end 0 is read.
use Rattle.std.specs.Prelude.{ℕ, zero, suc, ◌+◌, ◌*◌, ◌/◌, ◌%◌, ◌<◌, Bool, true, ◌&&◌, List, [], ◌∷◌, ◌++◌, eqb, take, drop, get_or}

-- each of them is a byte
abbrev pub Bytes : List ℕ → Type 0
Bytes s = (i : ℕ) → get_or s i 0 < 256

-- the number that bytes give
unfoldable pub value : List ℕ → ℕ
value [] = 0
value (b ∷ bs) = b + 256 * value bs

-- the number of w bytes at an offset
unfoldable pub number : ℕ → ℕ → List ℕ → ℕ
number w at block = value (take w (drop at block))

-- the number x as w bytes
unfoldable pub as_bytes : ℕ → ℕ → List ℕ
as_bytes zero x = []
as_bytes (suc w) x = x % 256 ∷ as_bytes w (x / 256)

-- numbers one after the other, each at its width
unfoldable pub laid : List ℕ → List ℕ → List ℕ
laid [] xs = []
laid (w ∷ ws) [] = []
laid (w ∷ ws) (x ∷ xs) = as_bytes w x ++ laid ws xs

-- the sum of (offset + 1) times the byte, over the first n offsets
unfoldable pub weighed : ℕ → List ℕ → ℕ
weighed zero block = 0
weighed (suc n) block = weighed n block + (n + 1) * get_or block n 0

-- the check: over offsets 0 to 507
unfoldable pub check_of : List ℕ → ℕ
check_of block = weighed 508 block

unfoldable pub all_zero : List ℕ → Bool
all_zero [] = true
all_zero (b ∷ bs) = eqb b 0 && all_zero bs

-- the bytes from one offset up to another are zero
unfoldable pub zeros : ℕ → ℕ → List ℕ → Bool
zeros from to block = all_zero (drop from (take to block))
