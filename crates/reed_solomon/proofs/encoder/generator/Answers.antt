use Rattle.std.proofs.Common.{◌≡◌, suc, ◌+◌, ap, ◌∙◌, ap₂, arith}
use Rattle.coding_theory.specs.Algebra.{plain}
use Rattle.coding_theory.specs.Register.{extended, generator}
use Rattle.reed_solomon.proofs.Values.{next_power}
use Rattle.reed_solomon.proofs.encoder.generator.Goals as goal

pub loop-k-preserved : goal.loop-k-preserved
loop-k-preserved g c =
    let A = g.F.Field.ops in
    let k = c.loop-k._k in
    let e : suc k ≡ k + 1 = omega arith in
    let v = c.loop-k.invariant in (
      next_power A g.met.F.Field.lawful c.args.first k _ _ _ c.product-x.ensures (c.ALPHA.ensures ∙ g.met.F.Field.alpha) v.0,
      c.extend.ensures ∙ ap₂ (extended (plain A)) v.0 v.1 ∙ ap (generator (plain A) (λ j. A.pow (c.args.first + j)) g.row.N) e,
    )
