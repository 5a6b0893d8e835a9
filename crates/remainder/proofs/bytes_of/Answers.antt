use Rattle.std.proofs.Common.{sym, ◌∙◌}
use Rattle.remainder.proofs.Ends.{bytes_are}
use Rattle.remainder.proofs.bytes_of.Goals as goal

pub returns : goal.returns
returns c = c.to_be_bytes.ensures ∙ sym (bytes_are c.args.number)
