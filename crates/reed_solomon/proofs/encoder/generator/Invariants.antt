use Rattle.std.proofs.Common.{◌≡◌, ◌+◌, ◌∷◌}
use Rattle.coding_theory.specs.Algebra.{plain}
use Rattle.coding_theory.specs.Register.{generator}
use Rattle.reed_solomon.proofs.encoder.generator.Given as goal

abbrev pub invariant-loop-k : goal.invariant-loop-k
invariant-loop-k g l =
    let A = g.F.Field.ops in
    (l.x ≡ A.pow (l.first + l._k)) × (1 ∷ l.tail ≡ generator (plain A) (λ k. A.pow (l.first + k)) g.row.N l._k)
