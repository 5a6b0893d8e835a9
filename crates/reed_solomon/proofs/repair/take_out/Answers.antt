use Rattle.std.proofs.Common.{◌≡◌, ℕ, suc, ◌-◌, get_or, ap, ◌∙◌, ap₂, arith}
use Rattle.coding_theory.specs.Algebra.{plain}
use Rattle.coding_theory.proofs.Fill.{done_more, left_more}
use Rattle.reed_solomon.proofs.Elimination.{is_taken}
use Rattle.reed_solomon.proofs.repair.take_out.Goals as goal

pub loop-i-preserved : goal.loop-i-preserved
loop-i-preserved g c =
    let A = g.F.Field.ops in
    let t = c.args.t.now in
    let u = c.loop-i.t in
    let p : ℕ = c.loop-i.i - 1 in
    let v = c.loop-i.invariant in
    let e : c.loop-i.i ≡ suc p = omega arith in (
      λ j l. done_more (λ k. A.add (A.mul c.args.y (get_or t k 0)) (get_or t (suc k) 0)) u p c.sum.result (omega arith) v.0
          (c.sum.ensures ∙ ap₂ A.add (c.product.ensures ∙ ap (A.mul c.args.y) (v.1 p (omega arith))) (v.1 c.loop-i.i (omega arith) ∙ ap (λ k. get_or t k 0) e)) j (omega arith),
      λ j l. left_more u t p c.sum.result v.1 j (omega arith),
    )

pub returns : goal.returns
returns g c =
    is_taken (plain g.F.Field.ops) c.loop-i.t c.args.t.now c.args.y (omega arith) (λ j u. c.loop-i.invariant.0 j (omega arith)) (λ j u. c.loop-i.invariant.1 j (omega arith))
