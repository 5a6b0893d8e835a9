use Rattle.std.proofs.Common.{◌≡◌, ℕ, ◌+◌, sym, ap, ◌∙◌, below_more}
use Rattle.coding_theory.specs.Algebra.{plain}
use Rattle.coding_theory.specs.Words.{horner}
use Rattle.reed_solomon.proofs.Values.{next_power}
use Rattle.reed_solomon.proofs.code.is_zero_at_powers.Goals as goal

pub loop-k-preserved : goal.loop-k-preserved
loop-k-preserved g c =
    let A = g.F.Field.ops in
    let v = c.loop-k.invariant in
    let at : ℕ → ℕ = λ x. horner (plain A) x 0 c.args.word.now in (
      next_power A g.met.F.Field.lawful c.args.first c.loop-k._k _ _ _ c.product-x.ensures (c.ALPHA.ensures ∙ g.met.F.Field.alpha) v.0,
      below_more (λ j. at (A.pow (c.args.first + j)) ≡ 0) c.loop-k._k v.1 (ap at (sym v.0) ∙ sym c.evaluate.ensures ∙ c.if-evaluate-ne0.false),
    )
