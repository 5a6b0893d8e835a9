use Rattle.std.proofs.Common.{ℕ, suc, ◌-◌, List, get_or, sym, ap, ◌∙◌, ap₂}
use Rattle.std.proofs.lemmas.List.{at_drop_all}
use Rattle.coding_theory.specs.Algebra.{plain}
use Rattle.coding_theory.specs.Decoder.{taken, valued}
use Rattle.coding_theory.specs.Words.{power}
use Rattle.reed_solomon.proofs.Elimination.{valued_out, valued_same}
use Rattle.reed_solomon.proofs.repair.Errors.value.Goals as goal
use Rattle.reed_solomon.proofs.repair.Errors.value.Goals.{then-p-q, else-p-q}

pub loop-p-preserved : goal.loop-p-preserved
loop-p-preserved g c =
    let A = g.F.Field.ops in
    let K = plain A in
    let X : ℕ → ℕ = λ j. A.pow (c.args.self.now.n - suc j) in
    let ps : List ℕ = c.args.self.now.places.now in
    elim c.if-p-q.branch [
      | then-p-q w ↦
          valued_out K X c.args.q ps c.loop-p.p-index c.loop-p.t _ c.loop-p.den _ _ c.loop-p-test.true c.loop-p.invariant w.if-p-q.true
          (w.t-is ∙ w.take_out.ensures ∙ ap (λ (y : ℕ). taken K y c.loop-p.t) w.locator-y.ensures)
          (w.den-is ∙ w.product-den.ensures ∙ ap (λ (y : ℕ). A.mul y c.loop-p.den) (w.sum.ensures ∙ ap₂ A.add w.locator-y.ensures c.locator-x.ensures))
      | else-p-q w ↦
          valued_same K X c.args.q ps c.loop-p.p-index c.loop-p.t _ c.loop-p.den _ _ c.loop-p-test.true c.loop-p.invariant w.if-p-q.false w.t-is w.den-is
    ]

pub returns : goal.returns
returns g c =
    let A = g.F.Field.ops in
    let K = plain A in
    let X : ℕ → ℕ = λ j. A.pow (c.args.self.now.n - suc j) in
    let ps : List ℕ = c.args.self.now.places.now in
    c.product.ensures ∙ ap (A.mul (get_or c.loop-p.t 0 0)) c.inverse.ensures
    ∙ sym (at_drop_all (λ ns. valued K X c.args.q ns c.loop-p.t c.loop-p.den) ps c.loop-p.p-index c.loop-p-test.false) ∙ c.loop-p.invariant
    ∙ ap₂ (valued K X c.args.q ps) c.copy_from_slice.ensures.after (c.raised-den.ensures ∙ ap (λ (x : ℕ). power K x c.args.self.now.first) c.locator-x.ensures)
