use Rattle.std.proofs.Common.{◌≡◌, suc, ◌+◌, ap, ◌∙◌, arith}
use Rattle.coding_theory.specs.Algebra.{plain}
use Rattle.coding_theory.specs.Words.{power}
use Rattle.reed_solomon.proofs.repair.raised.Goals as goal

pub loop-i-preserved : goal.loop-i-preserved
loop-i-preserved g c =
    let K = plain g.F.Field.ops in
    let e : suc c.loop-i._i ≡ c.loop-i._i + 1 = omega arith in
    c.product-value.ensures ∙ ap (K.mul c.args.x) c.loop-i.invariant ∙ ap (power K c.args.x) e
