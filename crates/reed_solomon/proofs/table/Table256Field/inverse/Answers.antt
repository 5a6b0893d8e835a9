use Rattle.std.proofs.Common.{sym, ap, ◌∙◌, lit≤}
use Rattle.coding_theory.specs.Galois.{inv}
use Rattle.coding_theory.proofs.Operations.{inv_pow}
use Rattle.coding_theory.proofs.Fields.{sound_256, bytes_lawful}
use Rattle.reed_solomon.proofs.table.Table256Field.inverse.Goals as goal

pub returns-then-a-eq0 : goal.returns-then-a-eq0
returns-then-a-eq0 c = sym (ap (inv 8 285) c.if-a-eq0.true ∙ bytes_lawful.inv_zero)

pub returns-else-a-eq0 : goal.returns-else-a-eq0
returns-else-a-eq0 c =
    c.power_at.ensures ∙ inv_pow 8 285 (lit≤ tt) sound_256 c.exponent_of.result c.exponent_of.ensures.0
    ∙ ap (inv 8 285) c.exponent_of.ensures.1
