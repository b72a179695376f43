use mathlib.Core.List.{List, [], ◌∷◌}
use Prim.Native.Nat.{ℕ}
use Rattle.puts.specs.inner.Puts.{front_widths}
use Rattle.puts.proofs.Puts.{overs_laid}
use Rattle.puts.proofs.put_front.Goals as goal

pub returns : goal.returns
unfolding front_widths
returns c =
    let a = c.args in
    let f = c.ranges in
    let xs : List ℕ = a.kind ∷ a.second ∷ a.third ∷ a.fourth ∷ a.fifth ∷ [] in
    rw (c.put-5.ensures, c.put-4.ensures, c.put-3.ensures, c.put-2.ensures, c.put.ensures)
    (overs_laid front_widths xs a.out.now 0
    (f.kind.fits, (f.second.fits, (f.third.fits, (f.fourth.fits, (f.fifth.fits, tt))))) c.requires)
