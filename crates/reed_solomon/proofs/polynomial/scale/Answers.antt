use Rattle.std.proofs.Common.{get_or, ap, ◌∙◌, arith}
use Rattle.coding_theory.specs.Algebra.{plain}
use Rattle.coding_theory.proofs.Fill.{done_more, left_more}
use Rattle.reed_solomon.proofs.Lists.{is_scale}
use Rattle.reed_solomon.proofs.polynomial.scale.Goals as goal

pub loop-coefficient-preserved : goal.loop-coefficient-preserved
loop-coefficient-preserved g c =
    let f = g.F.Field.ops in
    let p = c.loop-coefficient.p in
    let i = c.loop-coefficient.coefficient-index in
    let v = c.loop-coefficient.invariant in (
      done_more (λ k. f.mul c.args.a (get_or c.args.p.now k 0)) p i c.product.result (omega arith) v.0 (c.product.ensures ∙ ap (f.mul c.args.a) (v.1 i (omega arith))),
      left_more p c.args.p.now i c.product.result v.1,
    )

pub returns : goal.returns
returns g c =
    is_scale (plain g.F.Field.ops) c.loop-coefficient.p c.args.p.now c.args.a (omega arith) (λ k u. c.loop-coefficient.invariant.0 k (omega arith))
