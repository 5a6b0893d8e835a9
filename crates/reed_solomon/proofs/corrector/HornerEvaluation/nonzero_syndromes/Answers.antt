use Rattle.std.proofs.Common.{ℕ, List, arith}
use Rattle.reed_solomon.proofs.Values.{zero_at, values_zero}
use Rattle.reed_solomon.proofs.corrector.HornerEvaluation.nonzero_syndromes.Goals as goal

pub returns-then-are_zero : goal.returns-then-are_zero
returns-then-are_zero g c =
    let s : List ℕ = c.syndromes.new.out in
    zero_at g.F.Field.ops 0 16 c.args.word.now s c.syndromes.ensures (λ k l. c.are_zero.ensures.0 c.if-are_zero.true k (omega arith))

pub returns-else-are_zero : goal.returns-else-are_zero
returns-else-are_zero g c =
    let s : List ℕ = c.syndromes.new.out in (
      c.syndromes.ensures,
      λ z. let e = c.are_zero.ensures.1 (λ k l. values_zero g.F.Field.ops 0 16 c.args.word.now s c.syndromes.ensures z k (omega arith)) in
          cc,
    )
