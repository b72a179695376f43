use mathlib.Core.Path.{◌≡◌}
use lib.Bits.{bit_or}
use Rattle.std.proofs.Common.{rules, slice_range}
use Rattle.std.specs.List.{fold}
use Rattle.block.proofs.Zeros.{bits_zeros}
use Rattle.block.proofs.is_zero.Goals as goal

pub returns : goal.returns
returns c =
    let a = c.args in
    let e : c.fold.result ≡ fold bit_or 0 (slice_range a.block.now c.min-start.result c.min-end.result) = search rules in
    rw (e, c.min-start.ensures, c.min-end.ensures) (bits_zeros a.from a.to a.block.now)
