use Rattle.std.proofs.Common.{ℕ, ◌+◌, get_or, drop, sym, ap, ◌∙◌}
use Rattle.std.proofs.lemmas.List.{at_drop_more, at_drop_all}
use Rattle.coding_theory.specs.Algebra.{plain}
use Rattle.coding_theory.specs.Words.{horner}
use Rattle.reed_solomon.proofs.code.evaluate.Goals as goal

pub loop-c-preserved : goal.loop-c-preserved
loop-c-preserved g c =
    let K = plain g.F.Field.ops in
    let xs = c.args.coefficients.now in
    let i = c.loop-c.c-index in
    let v = c.sum-value.ensures ∙ ap (λ (y : ℕ). K.add y (get_or xs i 0)) c.product.ensures in
    ap (λ (y : ℕ). horner K c.args.x y (drop (i + 1) xs)) v
    ∙ sym (at_drop_more (horner K c.args.x c.loop-c.value) xs i 0 c.loop-c-test.true) ∙ c.loop-c.invariant

pub returns : goal.returns
returns g c =
    let K = plain g.F.Field.ops in
    sym (at_drop_all (horner K c.args.x c.loop-c.value) c.args.coefficients.now c.loop-c.c-index c.loop-c-test.false)
    ∙ c.loop-c.invariant
