use Rattle.std.proofs.Common.{◌≡◌, ℕ, suc, ◌+◌, List, ◌∷◌, get_or, ap, ◌∙◌, arith}
use Rattle.coding_theory.proofs.Fill.{done_more, left_more}
use Rattle.reed_solomon.proofs.Lists.{is_shift}
use Rattle.reed_solomon.proofs.polynomial.shift.Goals as goal

pub loop-coefficient-preserved : goal.loop-coefficient-preserved
loop-coefficient-preserved c =
    let xs : List ℕ = 0 ∷ c.args.p.now in
    let i = c.loop-coefficient.coefficient-index in
    let v = c.loop-coefficient.invariant in
    let e : suc i ≡ i + 1 = omega arith in (
      done_more (λ k. get_or xs k 0) c.loop-coefficient.p i c.swap.new.x (omega arith) v.0 (c.swap.ensures.x_after ∙ v.2),
      left_more c.loop-coefficient.p c.args.p.now i c.swap.new.x v.1,
      c.swap.ensures.y_after ∙ v.1 i (omega arith) ∙ ap (λ (k : ℕ). get_or xs k 0) e,
    )

pub returns : goal.returns
returns c = is_shift c.loop-coefficient.p c.args.p.now (omega arith) (λ k u. c.loop-coefficient.invariant.0 k (omega arith))
