use mathlib.Core.Path.{sym, ap, ◌∙◌}
use Prim.Native.Nat.{ℕ, ◌+◌}
use Rattle.std.specs.Prelude.{Some}
use Rattle.cells.proofs.Counts.{offer_some, offer_none}
use Rattle.cells.proofs.mode.Mode.offer.Goals as goal

pub returns-then-column-self : goal.returns-then-column-self
returns-then-column-self c = sym (offer_none c.args.next.now.counts c.args.column c.args.self c.if-column-self.true)

pub returns : goal.returns
returns c =
    let o = c.args.self in
    ap (λ (x : ℕ). Some (o.cost + x)) c.count.ensures ∙ sym (offer_some c.args.next.now.counts c.args.column o c.if-column-self.false)
