use Rattle.std.proofs.Common.{get_or, ◌∙◌, ap₂, arith}
use Rattle.coding_theory.specs.Algebra.{plain}
use Rattle.coding_theory.proofs.Fill.{done_more, left_more}
use Rattle.reed_solomon.proofs.Lists.{is_plus}
use Rattle.reed_solomon.proofs.polynomial.add_scaled.Goals as goal

pub loop-i-preserved : goal.loop-i-preserved
loop-i-preserved g c =
    let f = g.F.Field.ops in (
      done_more (λ k. f.add (get_or c.args.p.now k 0) (f.mul c.args.a (get_or c.args.q.now k 0))) c.loop-i.p c.loop-i.i c.sum.result (omega arith) c.loop-i.invariant.0
          (c.sum.ensures ∙ ap₂ f.add (c.loop-i.invariant.1 c.loop-i.i (omega arith)) c.product.ensures),
      left_more c.loop-i.p c.args.p.now c.loop-i.i c.sum.result c.loop-i.invariant.1,
    )

pub returns : goal.returns
returns g c =
    let f = g.F.Field.ops in
    is_plus (plain f) c.loop-i.p c.args.p.now c.args.q.now c.args.a (omega arith) (omega arith) (λ k u. c.loop-i.invariant.0 k (omega arith))
