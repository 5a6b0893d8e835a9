use Rattle.std.proofs.Common.{◌≡◌, ℕ, suc, ◌+◌, ◌∷◌, List, get_or, sym, ap, ◌∙◌, ap₂, arith}
use Rattle.coding_theory.specs.Algebra.{plain}
use Rattle.coding_theory.specs.Register.{mixed}
use Rattle.coding_theory.proofs.Fill.{done_more, left_more}
use Rattle.reed_solomon.proofs.Register.{mixed_at, is_extended}
use Rattle.reed_solomon.proofs.encoder.extend.Goals as goal

pub loop-coefficient-preserved : goal.loop-coefficient-preserved
loop-coefficient-preserved g c =
    let K = plain g.F.Field.ops in
    let ts : List ℕ = c.args.tail.now in
    let now : List ℕ = c.loop-coefficient.tail in
    let i = c.loop-coefficient.coefficient-index in
    let v = c.loop-coefficient.invariant in
    let here : get_or now i 0 ≡ get_or ts i 0 = v.1 i (omega arith) in
    let s : suc i ≡ i + 1 = omega arith in (
      done_more (λ k. get_or (mixed K c.args.a 1 ts) k 0) now i c.sum.result (omega arith) v.0
          (c.sum.ensures ∙ ap₂ K.add here (c.product.ensures ∙ ap (K.mul c.args.a) v.2) ∙ sym (mixed_at K c.args.a 1 ts i (omega arith))),
      left_more now ts i c.sum.result v.1,
      here ∙ ap (λ j. get_or (1 ∷ ts) j 0) s,
    )

pub returns : goal.returns
returns g c =
    is_extended (plain g.F.Field.ops) c.args.a c.args.tail.now c.loop-coefficient.tail (omega arith) (λ k u. c.loop-coefficient.invariant.0 k (omega arith))
