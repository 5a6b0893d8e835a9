use Rattle.std.proofs.Common.{sym, ap, ◌∙◌, ap₂, ⊎_elim, lit≤}
use Rattle.coding_theory.specs.Galois.{mul, pow}
use Rattle.coding_theory.proofs.Operations.{mul_pow, mul_zero_left, mul_zero_right}
use Rattle.coding_theory.proofs.Fields.{sound_256}
use Rattle.reed_solomon.proofs.table.Table256Field.product.Goals as goal

pub returns-then-b-eq0 : goal.returns-then-b-eq0
returns-then-b-eq0 c =
    ⊎_elim (λ e. sym (ap (λ x. mul 8 285 x c.args.b) e ∙ mul_zero_left 8 285 (lit≤ tt) sound_256 c.args.b))
    (λ e. sym (ap (mul 8 285 c.args.a) e.1 ∙ mul_zero_right 8 285 (lit≤ tt) sound_256 c.args.a)) c.if-b-eq0.either

pub returns-else-b-eq0 : goal.returns-else-b-eq0
returns-else-b-eq0 c =
    c.power_at.ensures ∙ ap (pow 8 285) c.reduced.ensures ∙ mul_pow 8 285 (lit≤ tt) sound_256 c.exponent_of.result c.exponent_of-else-b-eq0.result
    ∙ ap₂ (mul 8 285) c.exponent_of.ensures.1 c.exponent_of-else-b-eq0.ensures.1
