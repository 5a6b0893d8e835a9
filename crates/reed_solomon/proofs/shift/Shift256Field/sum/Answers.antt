use Rattle.std.proofs.Common.{lit≤, rules}
use Rattle.coding_theory.proofs.Operations.{add_byte}
use Rattle.coding_theory.proofs.Fields.{sound_256}
use Rattle.reed_solomon.proofs.shift.Shift256Field.sum.Goals as goal

pub returns : goal.returns
returns c = add_byte 8 285 (lit≤ tt) sound_256 c.args.a c.args.b (search rules) (search rules)
