use Rattle.std.proofs.Common.{ℕ, ◌+◌, length, ap, ◌∙◌, arith}
use Rattle.coding_theory.specs.Algebra.{plain}
use Rattle.coding_theory.specs.Words.{horner}
use Rattle.coding_theory.proofs.Fill.{done_more}
use Rattle.reed_solomon.proofs.Values.{next_power, are_values}
use Rattle.reed_solomon.proofs.code.syndromes.Goals as goal

pub loop-value-preserved : goal.loop-value-preserved
loop-value-preserved g c =
    let A = g.F.Field.ops in
    let v = c.loop-value.invariant in
    let w = c.args.word.now in
    let b = c.args.first in (
      next_power A g.met.F.Field.lawful b c.loop-value.value-index _ _ _ c.product-x.ensures (c.ALPHA.ensures ∙ g.met.F.Field.alpha) v.0,
      done_more (λ j. horner (plain A) (A.pow (b + j)) 0 w) c.loop-value.out c.loop-value.value-index c.evaluate.result (omega (arith, c.loop-value.auto.out)) v.1
          (c.evaluate.ensures ∙ ap (λ (x : ℕ). horner (plain A) x 0 w) v.0),
    )

pub returns : goal.returns
returns g c =
    let A = g.F.Field.ops in
    are_values A c.args.first (length c.args.out.now) c.args.word.now c.loop-value.out c.loop-value.auto.out (λ k l. c.loop-value.invariant.1 k (omega arith))
