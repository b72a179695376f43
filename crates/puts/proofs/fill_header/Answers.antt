use borrow.Author.Rules.{rules}
use Rattle.puts.proofs.Filled.{header_filled}
use Rattle.puts.proofs.fill_header.Goals as goal

pub returns : goal.returns
returns c =
    let h = c.args.header in
    cc (header_filled c.args.out.now h.tasks h.cores h.common (search rules) (search rules) (search rules) c.requires)
