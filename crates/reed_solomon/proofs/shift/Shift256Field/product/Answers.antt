use Rattle.std.proofs.Common.{sym, ◌∙◌, lit≤, rules}
use Rattle.coding_theory.proofs.Operations.{mul_is}
use Rattle.coding_theory.proofs.Fields.{sound_256}
use Rattle.reed_solomon.proofs.shift.Shift256Field.product.Goals as goal

pub returns : goal.returns
returns c = c.shifted_product.ensures ∙ sym (mul_is 8 285 (lit≤ tt) sound_256 c.args.a c.args.b (search rules) (search rules))
