use Rattle.std.proofs.Common.{◌∙◌, lit≤}
use Rattle.coding_theory.proofs.Operations.{pow_mod}
use Rattle.coding_theory.proofs.Fields.{sound_256}
use Rattle.reed_solomon.proofs.table.Table256Field.power.Goals as goal

pub returns : goal.returns
returns c = c.power_at.ensures ∙ pow_mod 8 285 (lit≤ tt) sound_256 c.args.e
