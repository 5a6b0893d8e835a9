use Rattle.std.proofs.Common.{◌≡◌, ℕ, length, get_or, ap, ◌∙◌, refl, arith}
use Rattle.coding_theory.specs.Algebra.{plain}
use Rattle.coding_theory.specs.Decoder.{State, wide}
use Rattle.reed_solomon.proofs.Turns.{wide_none, wide_more}
use Rattle.reed_solomon.proofs.key_equation.connect.Goals as goal

pub loop-n-init : goal.loop-n-init
loop-n-init g c = (omega arith, wide_none g.F.Field.ops g.row.W (λ k. get_or c.args.s.now k 0) c.requires.wide)

pub loop-n-preserved : goal.loop-n-preserved
loop-n-preserved g c =
    let K = plain g.F.Field.ops in (
      omega (arith, c.advance.ensures.below),
      wide_more K g.row.W (λ k. get_or c.args.s.now k 0) c.loop-n.n _ _ g.row.W c.loop-n.invariant.1 refl c.advance.ensures.turned,
    )

pub returns : goal.returns
returns g c =
    let K = plain g.F.Field.ops in
    let e : c.loop-n.n ≡ length c.args.s.now = omega arith in
    ap (λ (t : State ℕ). t.con) c.loop-n.invariant.1 ∙ ap (λ (n : ℕ). (wide K g.row.W (λ k. get_or c.args.s.now k 0) n).con) e
