use mathlib.Core.Path.{◌∙◌}
use Rattle.puts.proofs.Puts.{put_bytes}
use Rattle.puts.proofs.U32Put.put.Goals as goal

pub returns : goal.returns
returns c =
    put_bytes 4 c.args.self c.args.at c.args.out.now _ (c.copy_from_slice.ensures.after ∙ c.to_le_bytes.ensures)
